use Rattle.std.proofs.Common.{arith, sym, ◌∙◌, get_or}
use Rattle.std.proofs.lemmas.Int.Digits.{digits_value_more}
use Rattle.far_text.proofs.Numbers.{digit_tells, digit_value_is}
use Rattle.far_text.proofs.cursor.one_digit_more.Goals as goal

pub returns-then-is_ascii_digit-clause-value : goal.returns-then-is_ascii_digit-clause-value
returns-then-is_ascii_digit-clause-value c =
    let byte = get_or c.args.text.now c.args.len 0 in
    let digit = digit_tells byte (sym c.is_ascii_digit.ensures.value ∙ c.if-is_ascii_digit.true) in
    let more = digits_value_more 10 c.args.text.now c.args.len c.requires.inside in
    let value = digit_value_is byte digit in
    let from = c.from.ensures in
    omega (arith, c.requires.value)
