-- When the numbers of a call refuse it, in the words of whoever makes it: by bytes, and in numerals.
use Rattle.std.specs.Prelude.{◌≡◌, ◌⊎◌, ◌↔◌, ℕ, ◌+◌, ◌<◌, ◌≤◌, true, false, Some, None}
use Rattle.far_word.specs.declared.refused.Refused.TheVariants.{Held, NotHeld, Range}
use Rattle.far_heap.specs.Copiers.{is_many}
use Rattle.far_heap.specs.Mine.{Mine, access_refusal, drop_refusal, is_length, len_in, uses, views}

-- a byte of a range that isn't the object's
abbrev pub PassesEnd : Mine → ℕ → ℕ → ℕ → Type 0
PassesEnd m p from count = (k : ℕ) × (from ≤ k) × (k < from + count) × (len_in m p ≤ k)

-- a heap with copiers has 1 to 8; an object has 1 to 4,088 bytes; bytes are read and written of an object that is viewed, at least one, and none past the object's end; and an
-- object is dropped that is used and isn't viewed
pub record RefusalsAreSo : Type 0 where
  pub copiers : (n : ℕ) → (is_many n ≡ true) ↔ ((1 ≤ n) × (n ≤ 8))
  pub lengths : (len : ℕ) → (is_length len ≡ true) ↔ ((1 ≤ len) × (len ≤ 4088))
  pub reached : (m : Mine) (p from count : ℕ) → (access_refusal m p from count ≡ None) ↔ ((views m p ≡ true) × (1 ≤ count) × ((k : ℕ) → from ≤ k → k < from + count → k < len_in m p))
  pub unviewed : (m : Mine) (p from count : ℕ) → (access_refusal m p from count ≡ Some NotHeld) ↔ (views m p ≡ false)
  pub outside : (m : Mine) (p from count : ℕ) → (access_refusal m p from count ≡ Some Range) ↔ ((views m p ≡ true) × ((count ≡ 0) ⊎ PassesEnd m p from count))
  pub dropped : (m : Mine) (p : ℕ) → (drop_refusal m p ≡ None) ↔ ((uses m p ≡ true) × (views m p ≡ false))
  pub unused : (m : Mine) (p : ℕ) → (drop_refusal m p ≡ Some NotHeld) ↔ (uses m p ≡ false)
  pub viewed : (m : Mine) (p : ℕ) → (drop_refusal m p ≡ Some Held) ↔ ((uses m p ≡ true) × (views m p ≡ true))
