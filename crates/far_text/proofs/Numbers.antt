-- Which words are numbers.
use Rattle.std.proofs.Common.{inl, inr, ◌-◌, ◌≡◌, ℕ, ◌<◌, ◌≤◌, ◌+◌, ◌*◌, ◌^◌, ◌&&◌, ◌==◌, length, take, get_or, nat_lt, nat_le, List, decimal, Some, None, true, false, sym, ◌∙◌, ap, refl, arith}
use Rattle.std.specs.Str.{bytes_eq}
use Rattle.std.proofs.lemmas.Option.{cond_some}
use Rattle.std.proofs.lemmas.Bool.{and_parts, cases_lt, leb-true}
use Rattle.std.specs.Str.Parse.{digits_value, AllDigits}
use Rattle.std.proofs.lemmas.Slice.Eq.{bytes_eq-Decides}
use Rattle.std.proofs.lemmas.Bool.Decides.{Decides-ltb, nat_tests}
use Rattle.std.specs.Int.{IsInRange}
use Rattle.std.specs.Char.{digit_value, is_ascii_digit}
use Rattle.std.proofs.lemmas.Fmt.{decimal_is_IsNumeral, decimal-digits_value, decimal_nonempty, first_decimal, decimal_digit}
use Rattle.std.proofs.lemmas.Str.Parse.{numerals_by_value, tells_by_index, digit_at, digits_value-take-le}
use Rattle.std.proofs.Common.{add-one}
use Rattle.std.proofs.Math.Nat.{pow-suc, pow-le-pow_right}
use Rattle.far_text.specs.Grammar.{number_of}

value_is : (w : List ℕ) (n : ℕ) → n < 2 ^ 64 → w ≡ decimal n → digits_value 10 w ≡ n
value_is w n h e = ap (digits_value 10) e ∙ (decimal_is_IsNumeral n h).1

-- a printed number is that number
pub number_is : (w : List ℕ) (n : ℕ) → n < 2 ^ 64 → w ≡ decimal n → number_of w ≡ Some n
unfolding number_of
number_is w n h e =
    let v = value_is w n h e in
    let same = (bytes_eq-Decides w (decimal (digits_value 10 w))).1 (e ∙ ap decimal (sym v)) in
    let below = (Decides-ltb (digits_value 10 w) (2 ^ 64)).1 (rw v h) in
    rw (same, below, v) refl

-- a word is a number only where it is one printed
pub number_only : (w : List ℕ) (n : ℕ) → number_of w ≡ Some n → (n < 2 ^ 64) × (w ≡ decimal n)
unfolding number_of
number_only w n e =
    let v = digits_value 10 w in
    let parts = cond_some (bytes_eq w (decimal v) && nat_lt v (2 ^ 64)) v n e in
    let tests = and_parts (bytes_eq w (decimal v)) (nat_lt v (2 ^ 64)) parts.0 in
    let below : v < 2 ^ 64 = (Decides-ltb v (2 ^ 64)).0 tests.1 in
    let same : w ≡ decimal v = (bytes_eq-Decides w (decimal v)).0 tests.0 in
    (rw (← parts.1) below, same ∙ ap decimal parts.1)

-- no other word is
pub number_not : (w : List ℕ) → ((n : ℕ) → n < 2 ^ 64 → w ≡ decimal n → ⊥) → number_of w ≡ None
number_not w none =
    elim (number_of w) as (λ r. number_of w ≡ r → number_of w ≡ None) [
      | Some n ↦ λ e. let f = number_only w n e in absurd (none n f.0 f.1)
      | None ↦ λ e. e
    ] refl

abbrev pub AllInRange : List ℕ → Type 0
AllInRange w = (k : ℕ) → k < length w → IsInRange 48 57 (get_or w k 0)

-- the value of a digit
pub digit_value_is : (c : ℕ) → IsInRange 48 57 c → digit_value c ≡ c - 48
digit_value_is c h = grind (arith, nat_tests)

-- digits with no leading zero are the number that they print
pub number_by_digits : (w : List ℕ) (n : ℕ) → AllInRange w → 0 < length w → (get_or w 0 0 ≡ 48 → length w ≡ 1) → n ≡ digits_value 10 w → n < 2 ^ 64 → number_of w ≡ Some n
number_by_digits w n digits some lead same small =
    number_is w n small (sym (ap decimal same ∙ decimal-digits_value (numerals_by_value _ tells_by_index) w digits some lead (rw (← same) small)))

-- no number is empty
pub number_empty : (w : List ℕ) → length w ≡ 0 → number_of w ≡ None
number_empty w none = number_not w (λ m h same. let k = decimal_nonempty m h in let e : length w ≡ length (decimal m) = ap length same in absurd (omega arith))

-- no longer number begins with a zero
pub number_zero : (w : List ℕ) → get_or w 0 0 ≡ 48 → 1 < length w → number_of w ≡ None
number_zero w zero long = number_not w (λ m h same.
    elim (cases_lt 0 m) [
      | inl some ↦ let k = first_decimal m some h in let e : get_or w 0 0 ≡ get_or (decimal m) 0 0 = ap (λ l. get_or l 0 0) same in absurd (omega arith)
      | inr none ↦ let e : length w ≡ length (decimal m) = ap length same in let d : length (decimal m) ≡ 1 = ap length (decimal_digit m (omega arith)) in absurd (omega arith)
    ])

-- a number is digits alone
pub number_other : (w : List ℕ) (i : ℕ) → i < length w → (IsInRange 48 57 (get_or w i 0) → ⊥) → number_of w ≡ None
number_other w i inside other = number_not w (λ m h same.
    let digits : AllDigits 10 w = rw same (decimal_is_IsNumeral m h).0.1 in
    absurd (other (digit_at w i digits inside)))

-- a number is below 2^64
pub number_large : (w : List ℕ) (i : ℕ) → 2 ^ 64 ≤ digits_value 10 (take i w) → number_of w ≡ None
number_large w i large = number_not w (λ m h same.
    let v = value_is w m h same in
    let most = digits_value-take-le 10 w i (omega arith) in
    absurd (omega arith))

pub digit_tells : (c : ℕ) → is_ascii_digit c ≡ true → IsInRange 48 57 c
digit_tells c e = let parts = and_parts (nat_le 48 c) (nat_le c 57) e in (leb-true 48 c parts.0, leb-true c 57 parts.1)

pub other_tells : (c : ℕ) → is_ascii_digit c ≡ false → IsInRange 48 57 c → ⊥
other_tells c e h = grind (arith, nat_tests)

pub some_bytes : (n : ℕ) → (n == 0) ≡ false → 0 < n
some_bytes n e = grind (arith, nat_tests)

-- one more digit takes a number below ten times as much
pub below_ten : (n d i : ℕ) → n < 10 ^ i → d < 10 → n * 10 + d < 10 ^ (i + 1)
below_ten n d i h small = let next : 10 ^ (i + 1) ≡ 10 ^ i * 10 = ap (λ k. 10 ^ k) (add-one i) ∙ pow-suc 10 i in omega arith

-- nineteen digits are below 2 ^ 64
pub ten_most : (i : ℕ) → i ≤ 19 → 10 ^ i < 2 ^ 64
ten_most i h = let most : 10 ^ i ≤ 10 ^ 19 = pow-le-pow_right (omega arith) h in omega arith
