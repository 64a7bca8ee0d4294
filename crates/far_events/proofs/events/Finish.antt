-- What the test of the event Finish looks at.
use Rattle.std.proofs.Common.{◌≡◌, ℕ, ◌<◌, ◌∙◌, Bool, true, false, suc, zero, arith, inl, inr, ap, refl, sym}
use Rattle.std.proofs.lemmas.Bool.{cases_eq, false_from_ne_true, false≢true}
use Rattle.far_events.specs.events.Tasks.{AllWritten, all_written}
use Rattle.far_events.proofs.Guards.{parts}

-- ---- the guard
pub written_below : (written : ℕ → Bool) (n i : ℕ) → all_written written n ≡ true → i < n → written i ≡ true
written_below written zero i h lt = absurd (omega arith)
written_below written (suc n) i h lt = elim (cases_eq i n) [
  | inl e ↦ ap written e ∙ (parts _ _ h).1
  | inr ne ↦ written_below written n i (parts _ _ h).0 (omega arith)
]

pub written_all : (written : ℕ → Bool) (n : ℕ) → AllWritten written n → all_written written n ≡ true
written_all written zero h = refl
written_all written (suc n) h = rw (written_all written n (λ i lt. h i (omega arith)), h n (omega arith)) refl

-- a word that isn't written shows
pub unwritten_at : (written : ℕ → Bool) (n i : ℕ) → i < n → written i ≡ false → all_written written n ≡ false
unwritten_at written n i lt h = false_from_ne_true _ (λ all. false≢true (sym h ∙ written_below written n i all lt))
