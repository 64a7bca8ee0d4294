-- The rows of least live bytes.
use Rattle.std.specs.Prelude.{◌≡◌, ◌<◌, ◌==◌, ◌&&◌, ◌||◌, ◌⊎◌, nat_lt, ℕ, Bool, List, [], ◌∷◌, length, take, min, AllPairs, Contains, if◌then◌else◌}
use Rattle.far_log.specs.declared.row.LogRow.{LogRow}

-- a row goes before another: it has fewer live bytes, or as many and the lower number
abbrev pub GoesBefore : LogRow → LogRow → Type 0
GoesBefore r s = (r.live < s.live) ⊎ ((r.live ≡ s.live) × (r.log < s.log))

-- these are the rows of least live bytes, in that order: as many as there are, at most so many; each goes before all that
-- follow; and before each row that is left out
pub record TakesLeast (rows : List LogRow) (most : ℕ) (taken : List LogRow) : Type 0 where
  pub count : length taken ≡ min most (length rows)
  pub ordered : AllPairs GoesBefore taken
  pub members : (row : LogRow) → Contains taken row → Contains rows row
  pub least : (row : LogRow) → Contains rows row → Contains taken row ⊎ ((other : LogRow) → Contains taken other → GoesBefore other row)

-- ---- the same as a list, made by putting each row in its place

abbrev pub goes_before : LogRow → LogRow → Bool
goes_before r s = nat_lt r.live s.live || ((r.live == s.live) && nat_lt r.log s.log)

-- a row in its place among rows that are in order
abbrev pub with_row : LogRow → List LogRow → List LogRow
with_row row [] = row ∷ []
with_row row (other ∷ rows) = if goes_before row other then row ∷ other ∷ rows else other ∷ with_row row rows

-- the rows in order
abbrev pub ranked : List LogRow → List LogRow
ranked [] = []
ranked (row ∷ rows) = with_row row (ranked rows)

-- the rows of least live bytes
abbrev pub least_live : List LogRow → ℕ → List LogRow
least_live rows most = take most (ranked rows)
