-- Bytes at positions.
use Rattle.std.specs.Prelude.{◌≡◌, ◌⊎◌, ℕ, ◌+◌, ◌<◌, ◌≤◌, List, length, slice_index}

-- these bytes stand from a position on
abbrev pub HoldsAt : (ℕ → ℕ) → ℕ → List ℕ → Type 0
HoldsAt seen at bytes = (k : ℕ) → k < length bytes → seen (at + k) ≡ slice_index bytes k

-- all stays but so many bytes from a position on
abbrev pub KeepsOutside : (ℕ → ℕ) → (ℕ → ℕ) → ℕ → ℕ → Type 0
KeepsOutside old new at count = (k : ℕ) → (k < at) ⊎ (at + count ≤ k) → new k ≡ old k
