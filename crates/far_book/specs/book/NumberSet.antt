-- A set of numbers below 64, as one word has it.
use Rattle.std.specs.Prelude.{◌≡◌, ℕ, ◌<◌, ◌==◌, Bool, true, false}
use Rattle.std.specs.Int.{bit_at}
use Rattle.far_book.specs.declared.number_set.NumberSet.{NumberSet}

-- a number is in the set
unfoldable pub has : NumberSet → ℕ → Bool
has set k = bit_at set.word k == 1

-- it is the lowest of the set
abbrev pub IsLowest : NumberSet → ℕ → Type 0
IsLowest set k = (k < 64) × (has set k ≡ true) × ((i : ℕ) → i < k → has set i ≡ false)

-- the same; where the lowest is to be left if it is the only one, another is in the set too
abbrev pub IsLowestLeft : NumberSet → Bool → ℕ → Type 0
IsLowestLeft set reserve k = IsLowest set k × (reserve ≡ true → (i : ℕ) × (k < i) × (i < 64) × (has set i ≡ true))

-- there is no such number: the set has one number at most, and none where the only one isn't to be left
abbrev pub HasNoneLeft : NumberSet → Bool → Type 0
HasNoneLeft set reserve = ((i k : ℕ) → i < k → k < 64 → has set i ≡ true → has set k ≡ false) × (reserve ≡ false → (k : ℕ) → k < 64 → has set k ≡ false)
