-- What is stored, by the list of what was stored.
use Rattle.std.proofs.Common.{◌≡◌, ℕ, ◌<◌, ◌≤◌, ◌∙◌, arith, refl, List, [], ◌∷◌, length, get_or}
use Rattle.far_word.specs.declared.sizes.TheConstants.{LOG_WORDS}
use Rattle.far_events.specs.state.Rows.{with_first}
use Rattle.far_events.specs.state.Stored.{StoredEnds, stored_by}
use Rattle.far_events.proofs.Put.{put_both}
use Rattle.far_events.proofs.KeptRows.{beyond}

-- at first nothing is stored
pub none_ends : (pointers : ℕ) → StoredEnds pointers []
none_ends pointers = record { few = λ p i le. refl; short = λ p i le. refl }

-- what is stored of a pointer ends where it did
pub ends_noted : (pointers : ℕ) (xs : List (ℕ × List ℕ)) (p : ℕ) (ws : List ℕ) → p < pointers → length ws ≤ LOG_WORDS → StoredEnds pointers xs → StoredEnds pointers ((p, ws) ∷ xs)
ends_noted pointers xs p ws inside short ends = record {
  few = λ q i le. put_both (λ (f : ℕ → ℕ). f i ≡ 0) (stored_by xs) p (with_first (length ws) (λ j. get_or ws j 0) (stored_by xs p)) q (λ e. absurd (omega (arith, e, le, inside))) (λ _. ends.few q i le);
  short = λ q i le. put_both (λ (f : ℕ → ℕ). f i ≡ 0) (stored_by xs) p (with_first (length ws) (λ j. get_or ws j 0) (stored_by xs p)) q
      (λ _. beyond (length ws) (get_or ws i 0) (stored_by xs p i) i (omega (arith, short, le)) ∙ ends.short p i le) (λ _. ends.short q i le);
}
