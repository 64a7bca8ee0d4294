-- A number at the front of a text.
use Rattle.std.proofs.Common.{◌≡◌, ℕ, ◌<◌, ◌≤◌, ◌+◌, ◌*◌, ◌-◌, ◌^◌, List, [], ◌∷◌, ◌++◌, length, take, drop, get_or, Some, None, Bool, true, false, inl, inr, zero, suc, add-one, subst, sym, ◌∙◌, ap, refl, arith, below_more}
use Rattle.std.specs.Int.{IsInRange}
use Rattle.std.specs.Str.Parse.{digits_value}
use Rattle.std.proofs.lemmas.Bool.{cases_eq}
use Rattle.std.proofs.lemmas.Bool.Decides.{nat_tests}
use Rattle.std.proofs.lemmas.Int.Digits.{digits_value_more}
use Rattle.std.proofs.lemmas.List.{get_or-take, get_or_append_left, take-append-le, length-append, length-take-le}
use Rattle.std.proofs.Math.Seq.{take-length}
use Rattle.far_text.specs.Grammar.{number_of, next_number}
use Rattle.far_text.specs.Cursor.{is_end, front_of, words_in}
use Rattle.far_text.proofs.Cuts.{NoEnds, space_on, word_at, word_stops}
use Rattle.far_text.proofs.Numbers.{below_ten, ten_most, number_empty, number_zero, number_other, number_large, number_by_digits, digit_value_is}

abbrev pub Digits : List ℕ → ℕ → Type 0
Digits text i = (k : ℕ) → k < i → IsInRange 48 57 (get_or text k 0)

digit_on : (c : ℕ) → IsInRange 48 57 c → is_end c ≡ false
digit_on c h = grind (arith, nat_tests)

pub no_ends : (text : List ℕ) (i : ℕ) → Digits text i → NoEnds text i
no_ends text i digits k less = digit_on (get_or text k 0) (digits k less)

next_none : (words : List (List ℕ)) (w : List ℕ) (rest : List (List ℕ)) → words ≡ w ∷ rest → number_of w ≡ None → next_number words ≡ None
next_none words w rest e n = ap next_number e ∙ rw n refl

next_some : (words : List (List ℕ)) (w : List ℕ) (rest : List (List ℕ)) (n : ℕ) → words ≡ w ∷ rest → number_of w ≡ Some n → next_number words ≡ Some (n, rest)
next_some words w rest n e is = ap next_number e ∙ rw is refl

-- digits that are too large
pub large_at : (text : List ℕ) (i : ℕ) → i ≤ length text → Digits text i → 2 ^ 64 ≤ digits_value 10 (take i text) → next_number (words_in text) ≡ None
large_at text i fits digits large =
    let at = word_at text i fits (no_ends text i digits) in
    let more = front_of (words_in (drop i text)) in
    let front = take i text in
    let len : length front ≡ i = length-take-le i text fits in
    let same : take i (front ++ more) ≡ front = take-append-le i front more (omega arith) ∙ ap (λ m. take m front) (sym len) ∙ take-length front in
    next_none (words_in text) (front ++ more) _ at.0 (number_large (front ++ more) i (rw same large))

-- so many digits are below as great a power of ten
pub digits_below : (text : List ℕ) (i : ℕ) → i ≤ length text → Digits text i → digits_value 10 (take i text) < 10 ^ i
digits_below text zero fits digits = omega arith
digits_below text (suc i) fits digits =
    let one : suc i ≡ i + 1 = sym (add-one i) in
    let more = digits_value_more 10 text i (omega arith) in
    let value = digit_value_is (get_or text i 0) (digits i (omega arith)) in
    let last = digits i (omega arith) in
    let next = below_ten (digits_value 10 (take i text)) (get_or text i 0 - 48) i (digits_below text i (omega arith) (λ k less. digits k (omega arith))) (omega arith) in
    subst (λ j. digits_value 10 (take j text) < 10 ^ j) (sym one) (subst (λ v. v < 10 ^ (i + 1)) (sym (more ∙ ap (λ d. digits_value 10 (take i text) * 10 + d) value)) next)

-- nineteen digits are below 2^64
pub nineteen_fit : (text : List ℕ) (i : ℕ) → i ≤ length text → Digits text i → i < 20 → digits_value 10 (take i text) < 2 ^ 64
nineteen_fit text i fits digits short =
    let small = digits_below text i fits digits in
    let most = ten_most i (omega arith) in
    omega arith

-- a byte that is no digit, and does not end the word
pub other_at : (text : List ℕ) (i : ℕ) → i < length text → Digits text i → (IsInRange 48 57 (get_or text i 0) → ⊥) → is_end (get_or text i 0) ≡ false
    → next_number (words_in text) ≡ None
other_at text i inside digits other on =
    let ends = below_more (λ k. is_end (get_or text k 0) ≡ false) i (no_ends text i digits) on in
    let at = word_at text (i + 1) (omega arith) ends in
    let more = front_of (words_in (drop (i + 1) text)) in
    let front = take (i + 1) text in
    let len : length front ≡ i + 1 = length-take-le (i + 1) text (omega arith) in
    let sum = length-append front more in
    let same : get_or (front ++ more) i 0 ≡ get_or text i 0 = get_or_append_left front more 0 i (omega arith) ∙ get_or-take (i + 1) text i 0 (omega arith) in
    next_none (words_in text) (front ++ more) _ at.0 (number_other (front ++ more) i (omega arith) (rw same other))

-- no digit
ended : (b : ℕ) (text : List ℕ) → is_end b ≡ true → (rest : List (List ℕ)) × (words_in (b ∷ text) ≡ [] ∷ rest)
ended b text e =
    elim (cases_eq b 32) [
      | inl space ↦ (words_in text, rw space (space_on text).0)
      | inr other ↦ let newline : b ≡ 10 = grind (arith, nat_tests) in ([], rw newline refl)
    ]

pub none_at : (text : List ℕ) → (0 < length text → IsInRange 48 57 (get_or text 0 0) → ⊥) → next_number (words_in text) ≡ None
none_at [] other = next_none (words_in []) [] [] refl (number_empty [] refl)
none_at (b ∷ text) other =
    by (is_end b) refl
  where
    by : (end : Bool) → is_end b ≡ end → next_number (words_in (b ∷ text)) ≡ None
    by true e = let stops = ended b text e in next_none (words_in (b ∷ text)) [] stops.0 stops.1 (number_empty [] refl)
    by false e = other_at (b ∷ text) 0 (omega arith) (λ k less. absurd (omega arith)) (other (omega arith)) e

-- a zero before other digits
pub zero_at : (text : List ℕ) (i : ℕ) → i ≤ length text → Digits text i → get_or text 0 0 ≡ 48 → 1 < i → next_number (words_in text) ≡ None
zero_at text i fits digits lead long =
    let at = word_at text i fits (no_ends text i digits) in
    let more = front_of (words_in (drop i text)) in
    let front = take i text in
    let len : length front ≡ i = length-take-le i text fits in
    let sum = length-append front more in
    let first : get_or (front ++ more) 0 0 ≡ 48 = get_or_append_left front more 0 0 (omega arith) ∙ get_or-take i text 0 0 (omega arith) ∙ lead in
    next_none (words_in text) (front ++ more) _ at.0 (number_zero (front ++ more) first (omega arith))

-- digits without leading zeros
pub number_at : (text : List ℕ) (i n : ℕ) (rest : List (List ℕ)) → i ≤ length text → Digits text i → words_in (drop i text) ≡ [] ∷ rest → 0 < i
    → (get_or text 0 0 ≡ 48 → i ≡ 1) → n ≡ digits_value 10 (take i text) → n < 2 ^ 64 → next_number (words_in text) ≡ Some (n, rest)
number_at text i n rest h digits e some lead value small =
    let len : length (take i text) ≡ i = length-take-le i text h in
    let first : get_or (take i text) 0 0 ≡ get_or text 0 0 = get_or-take i text 0 0 some in
    let alone : get_or (take i text) 0 0 ≡ 48 → length (take i text) ≡ 1 = λ z. len ∙ lead (sym first ∙ z) in
    let all : (k : ℕ) → k < length (take i text) → IsInRange 48 57 (get_or (take i text) k 0) = λ k less.
    rw (get_or-take i text k 0 (omega arith)) (digits k (omega arith)) in
    next_some (words_in text) (take i text) rest n (word_stops text i rest h (no_ends text i digits) e)
    (number_by_digits (take i text) n all (omega arith) alone value small)
