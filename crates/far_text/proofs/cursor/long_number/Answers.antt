use Rattle.std.proofs.Common.{arith, get_or, ◌+◌}
use Rattle.std.proofs.lemmas.Int.Digits.{digits_value_more}
use Rattle.std.proofs.lemmas.Str.Parse.{digits_value-take-le}
use Rattle.far_text.proofs.Numbers.{digit_value_is}
use Rattle.far_text.proofs.cursor.long_number.Goals as goal

pub returns-in_err-checked_mul-clause-large : goal.returns-in_err-checked_mul-clause-large
returns-in_err-checked_mul-clause-large c =
    let digits = c.args.digits.now in
    let i = c.loop-digit.digit-index in
    let digit = c.requires i (omega arith) in
    let more = digits_value_more 10 digits i (omega arith) in
    let value = digit_value_is (get_or digits i 0) digit in
    let most = digits_value-take-le 10 digits (i + 1) (omega arith) in
    let over = c.in_err-checked_mul.ensures in
    rw c.from_residual.ensures (omega arith)

pub returns-in_err-n-clause-large : goal.returns-in_err-n-clause-large
returns-in_err-n-clause-large c =
    let digits = c.args.digits.now in
    let i = c.loop-digit.digit-index in
    let digit = c.requires i (omega arith) in
    let more = digits_value_more 10 digits i (omega arith) in
    let value = digit_value_is (get_or digits i 0) digit in
    let most = digits_value-take-le 10 digits (i + 1) (omega arith) in
    let over = c.in_err-n.ensures in
    let product = c.in_ok-checked_mul.ensures in
    let from = c.from.ensures in
    rw c.from_residual-in_err-n.ensures (omega arith)

pub loop-digit-preserved : goal.loop-digit-preserved
loop-digit-preserved c =
    let digits = c.args.digits.now in
    let i = c.loop-digit.digit-index in
    let digit = c.requires i (omega arith) in
    let more = digits_value_more 10 digits i (omega arith) in
    let value = digit_value_is (get_or digits i 0) digit in
    let product = c.in_ok-checked_mul.ensures in
    let from = c.from.ensures in
    let sum = c.in_ok-n.ensures in
    omega arith
