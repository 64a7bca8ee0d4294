use Rattle.far_hand.proofs.words.packed_whole.Goals as goal
use Rattle.std.proofs.Common.{◌≡◌, ◌∙◌, ◌+◌, ◌*◌, ◌-◌, ap, arith, drop, get_or, take}
use Rattle.far_word.proofs.ByteLaws.{words_of-get}
use Rattle.far_hand.proofs.ByteRows.{packs_whole, whole_length}

pub returns : goal.returns
returns c =
    let bs = c.args.bytes.now in
    let m = 8 * c.args.i + 8 - 8 * c.args.i in
    let eight : m ≡ 8 = omega arith in
    ap (λ xs. get_or xs 0 0) c.pack_bytes.ensures ∙ words_of-get (take m (drop (8 * c.args.i) bs)) 0 (omega (arith, whole_length bs c.args.i m eight c.requires)) ∙ packs_whole bs c.args.i m eight c.requires
