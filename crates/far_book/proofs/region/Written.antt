-- Words of which some are those of a row.
use Rattle.std.proofs.Common.{◌≡◌, ℕ, ◌+◌, ◌<◌, ◌≤◌, inl, inr}
use Rattle.std.proofs.lemmas.Bool.{cases_lt}
use Rattle.far_events.specs.events.Ranges.{with_row}
use Rattle.far_events.proofs.Rows.{row_out}

-- where the row doesn't reach
pub row_other : (word : ℕ → ℕ) (a n : ℕ) (row : ℕ → ℕ) (k : ℕ) → (a ≤ k → k < a + n → ⊥) → with_row word a n row k ≡ word k
row_other word a n row k outside = elim (cases_lt k a) [
  | inl low ↦ row_out word a n row k (inl low)
  | inr le ↦ elim (cases_lt k (a + n)) [
    | inl lt ↦ absurd (outside le lt)
    | inr high ↦ row_out word a n row k (inr high)
  ]
]
