use Rattle.std.proofs.Common.{arith, ap, sym, ◌∙◌}
use Rattle.std.specs.Option.{option_map}
use Rattle.far_text.specs.Cursor.{words_left}
use Rattle.far_text.proofs.WordLemmas.{large_at, nineteen_fit}
use Rattle.far_text.proofs.cursor.number_first.Goals as goal

pub printed_number-requires-clause-value : goal.printed_number-requires-clause-value
printed_number-requires-clause-value c =
    let h = c.few_digits_first-n.ensures in
    let small = nineteen_fit c.args.text.now c.few_digits_first-n.result.1 h.fits h.digits c.if-len-lt20.true in
    omega (arith, h.value)

pub returns-in_err-n-clause-number : goal.returns-in_err-n-clause-number
returns-in_err-n-clause-number c =
    let h = c.few_digits_first-n.ensures in
    ap (option_map (λ found. (found.0, words_left found.1))) c.from_residual.ensures
    ∙ sym (large_at c.args.text.now c.few_digits_first-n.result.1 h.fits h.digits c.in_err-n.ensures.large)
