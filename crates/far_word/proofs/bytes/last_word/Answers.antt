use Rattle.far_word.proofs.WordBytes.{read_short, read_shifted}
use Rattle.far_word.proofs.bytes.last_word.Goals as goal

pub returns-then-len-ge8 : goal.returns-then-len-ge8
returns-then-len-ge8 c =
    read_shifted c.args.bytes.now c.args.i c.read_u64.result (λ k. (c.type_inv.bytes k).fits) c.if-len-ge8.true c.requires.few c.requires.some c.read_u64.ensures

pub returns : goal.returns
returns c = read_short c.args.bytes.now c.copy_from_slice.new.self c.args.i c.read_u64-2.result c.if-len-ge8.false c.requires.some c.copy_from_slice.ensures.after c.read_u64-2.ensures
