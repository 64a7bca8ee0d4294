-- Each event of an owner keeps the law.
use Rattle.std.proofs.Common.{Option, Some, ap, bit_or, refl, subst, sym, true, ℕ, ◌^◌, ◌∙◌, ◌≡◌, ◌≢◌}
use Rattle.std.proofs.lemmas.Bool.{false≢true}
use Rattle.far_events.proofs.Cells.{Remarked, Remarked-map_mark, HasEvac-mark, unused, map_mark, read_hot, held_place-mark, in_use-mark}
use Rattle.far_core.proofs.Frames.{law_with_cell_marks}
use Rattle.far_events.proofs.Put.{put_both}
use Rattle.far_events.specs.state.Law.{Law, HasEvac, held_place, in_use}
use Rattle.far_events.specs.state.State.{State, put}
use Rattle.far_word.specs.Mark.{position}
use Rattle.far_word.specs.Pointer.{read_of}
use Rattle.far_word.specs.Scope.{scope_of}
use Rattle.far_word.specs.declared.mark.Mark.TheVariants.{Hot}
use Rattle.far_word.specs.declared.pointer.PtrWord.{PtrWord}
use Rattle.far_word.specs.declared.scope.ScopeWord.TheVariants as scoped

-- ---- scopes
pub closed_word : scope_of 0 ≡ Some scoped.Closed
unfolding scope_of
closed_word = refl

-- ---- a cell gets HOT, and its place is held
abbrev pub hot_cell : State → ℕ → State
hot_cell s p = record s { cell = put s.cell p (bit_or (s.cell p) (2 ^ position Hot)) }

module _ (s : State) (law : Law s) (p : ℕ) (used : s.used p ≡ true) where
  live : in_use (read_of (s.cell p)) ≡ true
  live = law.views.used_cell p used

  pub hot_read : read_of (bit_or (s.cell p) (2 ^ position Hot)) ≡ map_mark Hot (read_of (s.cell p))
  hot_read = (read_hot (s.cell p) (law.cells.cell_read p).0 live).0

  -- what is true of what each cell says, and of that with HOT, is true of what the new cell says
  pub at_cell : (P : Option PtrWord → Type 0) (q : ℕ) → (P (read_of (s.cell q)) → P (map_mark Hot (read_of (s.cell q)))) → P (read_of (s.cell q)) → P (read_of (put s.cell p (bit_or (s.cell p) (2 ^ position Hot)) q))
  at_cell P q step h = put_both (λ w. P (read_of w)) s.cell p _ q (λ e. subst P (sym hot_read) (subst (λ r. P (map_mark Hot (read_of (s.cell r)))) e (step h))) (λ _. h)

  -- a cell that is used isn't 0
  pub nonzero : s.cell p ≢ 0
  nonzero z = false≢true (sym (ap in_use (ap read_of z ∙ unused)) ∙ live)

  pub keeps_hot : Law (hot_cell s p)
  keeps_hot = law_with_cell_marks s law p _ (read_hot (s.cell p) (law.cells.cell_read p).0 live).1 (subst (λ o. Remarked (read_of (s.cell p)) o) (sym hot_read) (Remarked-map_mark Hot _))
      (subst (HasEvac s.round) (sym hot_read) (HasEvac-mark Hot s.round _ (law.rounds.round_evac p))) nonzero
      (λ place h. ap held_place hot_read ∙ held_place-mark Hot _ (λ e. cc) (λ e. cc) ∙ law.views.held_names p place h) (λ _. ap in_use hot_read ∙ in_use-mark Hot _ (λ e. cc) ∙ live)
