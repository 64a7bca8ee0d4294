-- How many numbers have a property.
use Rattle.std.specs.Prelude.{◌≡◌, ◌↔◌, ℕ, eqb, List, length, Contains}
use Rattle.std.specs.List.{IsDistinct}

-- so many numbers have it: a list has each of them once, and no other
abbrev pub IsHowMany : (ℕ → Type 0) → ℕ → Type 0
IsHowMany P n = (ks : List ℕ) × (length ks ≡ n) × IsDistinct eqb ks × ((k : ℕ) → Contains ks k ↔ P k)
