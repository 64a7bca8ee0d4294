-- Words as sums of fields.
use Rattle.std.proofs.Common.{◌≡◌, ℕ, ◌+◌, ◌-◌, ◌*◌, ◌/◌, ◌%◌, ◌^◌, ◌<◌, Bool, true, false, cond, sym, ◌∙◌, ap, refl, arith, Option, None, bit_or, bit_and, IfSome}
use Rattle.std.proofs.lemmas.Nat.{shr_split, shr-shr, pow_below, and-not, and_comm}
use Rattle.std.proofs.lemmas.Bool.Decides.{nat_tests}
use Rattle.std.proofs.lemmas.Nat.Bits.{and_pow}
use Rattle.std.specs.Int.{bit_at}
use native.Mathlib.Nat.{add_comm}
use mir.Val.{bool_byte}
use lib.Bits.{or_add_and, or_shifted_r}
use Rattle.far_word.specs.Mark.{field, is_set, bit_of}

-- ---- one field more on top of lower ones
pub or_up : (b x k : ℕ) → b < 2 ^ k → bit_or b (x * 2 ^ k) ≡ b + x * 2 ^ k
or_up b x k h = or_shifted_r x k b h ∙ add_comm (x * 2 ^ k) b

pub no_wrap : (a k : ℕ) → a * k < 2 ^ 64 → a * k % 2 ^ 64 ≡ a * k
no_wrap a k h = omega arith

-- ---- the fields of a word make it
pub split_at : (w low bits : ℕ) → w / 2 ^ low ≡ field w low bits + w / 2 ^ (low + bits) * 2 ^ bits
split_at w low bits = sym (shr_split (w / 2 ^ low) bits) ∙ add_comm _ _ ∙ ap (λ q. field w low bits + q * 2 ^ bits) (shr-shr w low bits)

-- ---- one bit
pub bit_small : (b : Bool) → bit_of b < 2
bit_small true = omega arith
bit_small false = omega arith

pub byte_bit : (b : Bool) → bool_byte b ≡ bit_of b
byte_bit true = refl
byte_bit false = refl

pub bit_set : (w k : ℕ) → bit_of (is_set w k) ≡ field w k 1
bit_set w k = grind (arith, nat_tests)

pub set_from : (w k : ℕ) (b : Bool) → field w k 1 ≡ bit_of b → is_set w k ≡ b
set_from w k true h = grind (arith, nat_tests)
set_from w k false h = grind (arith, nat_tests)

or_bit : (w k : ℕ) → bit_or w (2 ^ k) + bit_at w k * 2 ^ k ≡ w + 2 ^ k
or_bit w k = ap (λ x. bit_or w (2 ^ k) + x) (sym (and_pow w k)) ∙ or_add_and w (2 ^ k)

-- b is the bit that stands there: it is set by one `|`, and cleared by one `&`
pub or_mark : (w k : ℕ) (b : Bool) → field w k 1 ≡ bit_of b → bit_or w (2 ^ k) + bit_of b * 2 ^ k ≡ w + 2 ^ k
or_mark w k b h = rw (← h) (or_bit w k)

pub and_mark : (w k : ℕ) (b : Bool) → w < 2 ^ 64 → k < 64 → field w k 1 ≡ bit_of b → bit_and w (2 ^ 64 - 1 - 2 ^ k) + bit_of b * 2 ^ k ≡ w
and_mark w k b fits small h =
    let below : 2 ^ k < 2 ^ 64 = pow_below k 64 small in
    omega (arith, and-not 64 (2 ^ k) w below fits, and_comm w (2 ^ 64 - 1 - 2 ^ k), and_comm (2 ^ k) w, and_pow w k, ap (λ x. x * 2 ^ k) h)

-- ---- tests
pub at_guard : {X : Type 0} (P : X → Type 0) (b : Bool) (r : Option X) → (b ≡ true → IfSome r P) → IfSome (cond b r None) P
at_guard P true r h = h refl
at_guard P false r h = tt

pub at_choice : {X : Type 0} (P : X → Type 0) (b : Bool) (r s : Option X) → (b ≡ true → IfSome r P) → (b ≡ false → IfSome s P) → IfSome (cond b r s) P
at_choice P true r s h k = h refl
at_choice P false r s h k = k refl
