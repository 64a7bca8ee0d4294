use Rattle.std.proofs.Common.{arith, sym, ◌≡◌, ◌∙◌, ℕ, get_or, ◌^◌, ◌*◌, ◌+◌, ◌-◌, ◌%◌, take, below_more}
use Rattle.std.specs.Int.{IsInRange}
use Rattle.std.specs.Str.Parse.{digits_value}
use Rattle.std.proofs.lemmas.Int.Digits.{digits_value_more}
use Rattle.far_text.proofs.Numbers.{digit_tells, digit_value_is}
use Rattle.far_text.proofs.cursor.digits_first.Goals as goal

-- one more digit, modulo M
wrapped : (v d : ℕ) → (v % 2 ^ 64 * 10 % 2 ^ 64 + d) % 2 ^ 64 ≡ (v * 10 + d) % 2 ^ 64
wrapped v d = omega arith

pub loop-len-preserved : goal.loop-len-preserved
loop-len-preserved c =
    let byte = get_or c.args.text.now c.loop-len.len 0 in
    let digit = digit_tells byte (sym c.is_ascii_digit.ensures.value ∙ c.if-is_ascii_digit.true) in
    let more = digits_value_more 10 c.args.text.now c.loop-len.len (omega arith) in
    let value = digit_value_is byte digit in
    let from = c.from.ensures in
    record {
      fits = omega arith;
      digits = below_more (λ k. IsInRange 48 57 (get_or c.args.text.now k 0)) c.loop-len.len c.loop-len.invariant.digits digit;
      value = omega (arith, wrapped (digits_value 10 (take c.loop-len.len c.args.text.now)) (byte - 48));
    }

pub returns-else-is_ascii_digit-clause-stops : goal.returns-else-is_ascii_digit-clause-stops
returns-else-is_ascii_digit-clause-stops c less = sym c.is_ascii_digit.ensures.value ∙ c.if-is_ascii_digit.false
