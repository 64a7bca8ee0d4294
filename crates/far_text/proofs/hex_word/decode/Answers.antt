use Rattle.std.proofs.Common.{Some, None, cond, sym, ap, ◌∙◌, refl}
use Rattle.far_text.proofs.HexLemmas.{decoded_is}
use Rattle.far_text.proofs.hex_word.decode.Goals as goal

pub returns : goal.returns
returns c =
    let new = c.decode_to_slice.new.out in
    decoded_is tt c.args.word.now new _ c.decode_to_slice.result _ refl c.requires.twice c.requires.some c.requires.short c.decode_to_slice.ensures.value
    ∙ ap (λ ok. cond ok (Some new) None) (sym c.is_ok.ensures.value)
