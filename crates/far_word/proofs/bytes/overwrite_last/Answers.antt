use Rattle.std.proofs.Common.{◌*◌, arith, refl}
use Rattle.far_word.proofs.WordBytes.{length-rest, write_part}
use Rattle.far_word.proofs.bytes.overwrite_last.Goals as goal

pub returns : goal.returns
returns c =
    write_part c.args.bytes.now c.write_u64.new.buf c.copy_from_slice.new.self c.args.i c.args.word _ c.requires.some (omega (arith, length-rest c.args.bytes.now (8 * c.args.i), c.requires.few)) refl
    c.write_u64.ensures c.copy_from_slice.ensures.after
