-- What a mutator knows of its views after a command.
use Rattle.std.proofs.Common.{◌≡◌, ◌≢◌, ℕ, ◌/◌, Bool, true, false, ◌&&◌, nat_eq, is_some, sym, ap, ◌∙◌, Option, inl, inr}
use Rattle.std.proofs.lemmas.Bool.{cases_eq, eq-eqb, ne_eqb}
use mathlib.Core.Path.{fun_ext}
use Rattle.far_word.specs.declared.pointer.Place.{Place}
use Rattle.far_word.specs.declared.sizes.TheConstants.{CELLS}
use Rattle.far_events.specs.state.State.{State, put}
use Rattle.far_core.specs.world.WorldOf.{world_of}
use Rattle.far_events.proofs.Put.{put_same, put_other}
use Rattle.far_replay.specs.Changes.{ViewsObject}
use Rattle.far_replay_laws.specs.Headline.{ViewsNothing}
use Rattle.far_alone.proofs.AloneRuns.{views_of}

-- views that stay
pub views_still : (s t : State) (m : ℕ) → t.held ≡ s.held → views_of (world_of t) m ≡ views_of (world_of s) m
unfolding world_of
views_still s t m e = ap {B = ℕ → Bool} (λ (f : ℕ → Option Place) q. nat_eq (q / CELLS) m && is_some (f q)) e

-- a view of an object of the mutator
pub views_mine : (s t : State) (k p : ℕ) → ViewsObject s t p → p / CELLS ≡ k → views_of (world_of t) k ≡ put (views_of (world_of s) k) p true
unfolding world_of
views_mine s t k p h own = fun_ext (λ q. elim (cases_eq q p) [
  | inl e ↦ (let here : nat_eq (q / CELLS) k ≡ true = eq-eqb (q / CELLS) k (ap (λ x. x / CELLS) e ∙ own) in
      ap (λ b. b && is_some (t.held q)) here ∙ ap (λ x. is_some (t.held x)) e ∙ h.viewed ∙ sym (put_same (λ x. nat_eq (x / CELLS) k && is_some (s.held x)) p true q e))
  | inr ne ↦ (ap (λ o. nat_eq (q / CELLS) k && is_some o) (h.others q ne) ∙ sym (put_other (λ x. nat_eq (x / CELLS) k && is_some (s.held x)) p true q ne))
])

-- and of another's
pub views_others : (s t : State) (k m p : ℕ) → ViewsObject s t p → p / CELLS ≡ k → k ≢ m → views_of (world_of t) m ≡ views_of (world_of s) m
unfolding world_of
views_others s t k m p h own ne = fun_ext (λ q. elim (cases_eq q p) [
  | inl e ↦ (let off : nat_eq (q / CELLS) m ≡ false = ne_eqb (q / CELLS) m (λ same. ne (sym own ∙ ap (λ x. x / CELLS) (sym e) ∙ same)) in
      ap (λ b. b && is_some (t.held q)) off ∙ sym (ap (λ b. b && is_some (s.held q)) off))
  | inr apart ↦ ap (λ o. nat_eq (q / CELLS) m && is_some o) (h.others q apart)
])

-- a mutator's views that are gone
pub views_gone : (s t : State) (k : ℕ) → ViewsNothing s t k → views_of (world_of t) k ≡ (λ _. false)
unfolding world_of
views_gone s t k h = fun_ext (λ q. elim (cases_eq (q / CELLS) k) [
  | inl e ↦ (ap (λ b. b && is_some (t.held q)) (eq-eqb (q / CELLS) k e) ∙ ap is_some (h.none q e))
  | inr ne ↦ ap (λ b. b && is_some (t.held q)) (ne_eqb (q / CELLS) k ne)
])

-- and another's, which stay
pub views_left : (s t : State) (k m : ℕ) → ViewsNothing s t k → k ≢ m → views_of (world_of t) m ≡ views_of (world_of s) m
unfolding world_of
views_left s t k m h ne = fun_ext (λ q. elim (cases_eq (q / CELLS) k) [
  | inl e ↦ (let off : nat_eq (q / CELLS) m ≡ false = ne_eqb (q / CELLS) m (λ same. ne (sym e ∙ same)) in
      ap (λ b. b && is_some (t.held q)) off ∙ sym (ap (λ b. b && is_some (s.held q)) off))
  | inr apart ↦ ap (λ o. nat_eq (q / CELLS) m && is_some o) (h.others q apart)
])
