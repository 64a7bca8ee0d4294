-- What accesses leave whose owners are closed before and after them.
use Rattle.std.proofs.Common.{◌≡◌, ◌≢◌, ℕ, ◌*◌, ◌/◌, ◌<◌, true, false, refl, sym, ap, subst, ◌∙◌, arith, Some, None}
use Rattle.std.specs.Prelude.{IsSome, ◌||◌}
use Rattle.std.proofs.lemmas.Bool.Decides.{nat_tests}
use mathlib.Core.Path.{fun_ext}
use Rattle.far_word.specs.declared.mark.Mark.TheVariants.{Moved}
use Rattle.far_word.specs.declared.mark.Marks.{Marks}
use Rattle.far_word.specs.declared.pointer.Place.{Place}
use Rattle.far_word.specs.declared.pointer.PtrWord.{PtrWord}
use Rattle.far_word.specs.declared.pointer.PtrWord.TheVariants.{Near}
use Rattle.far_word.specs.declared.sizes.TheConstants.{CELLS}
use Rattle.far_word.specs.Pointer.{read_of, without_owner_marks, word_of}
use Rattle.far_word.proofs.MaskLaws.{IsPtr-without_owner_marks}
use Rattle.far_word.proofs.PointerLaws.{read_back, read_says}
use Rattle.far_events.specs.declared.event.Event.TheVariants.{Ask}
use Rattle.far_events.specs.events.Accesses.{IsAtRest, hot_word, moved_word, with_cell}
use Rattle.far_events.specs.events.Legal.{Legal}
use Rattle.far_events.specs.events.Pin.{place_to_view}
use Rattle.far_events.specs.events.Step.{after}
use Rattle.far_events.specs.state.Law.{Law}
use Rattle.far_events.specs.state.State.{State, put}
use Rattle.far_core.specs.world.World.{World}
use Rattle.far_core.specs.world.WorldOf.{object_of, world_of}
use Rattle.far_events.proofs.Rests.{rest_is}
use Rattle.far_core.proofs.Accesses.{unheld}
use Rattle.far_events.proofs.Bounds.{some_of}
use Rattle.far_core.proofs.KeepOwner.{nonzero}
use Rattle.far_core.proofs.Owing.{does}
use Rattle.far_events.proofs.Put.{put_both}
use Rattle.far_core.proofs.events.Pin.{hot_world}
use Rattle.far_private.specs.Objects.{Settled}
use Rattle.far_private.specs.Steps.{Keeps}
use Rattle.far_private.proofs.Keeping.{same_world}

-- a cell that isn't free gets another word
cell_busy : (s : State) (p word : ℕ) → s.cell p ≢ 0 → (q : ℕ) → s.cell q ≡ 0 → put s.cell p word q ≡ 0
cell_busy s p word busy q e = put_both (λ w. w ≡ 0) s.cell p word q (λ at. absurd (busy (ap s.cell (sym at) ∙ e))) (λ _. e)

reworded_keeps : (s : State) (p word : ℕ) → s.cell p ≢ 0 → (world_of (with_cell s p word)).object ≡ (world_of s).object → Keeps s (with_cell s p word)
reworded_keeps s p word busy same = record {
  mutators = refl;
  used = refl;
  named = cell_busy s p word busy;
  objects = same_world s (with_cell s p word) refl refl same;
  scope = refl;
  remembered = refl;
}

module _ (s : State) (law : Law s) (settled : Settled s) (p : ℕ) (used : s.used p ≡ true) where
  pub owner_within : p / CELLS < s.mutators
  owner_within = let below : p < CELLS * s.mutators = law.cells.cell_range p (nonzero s law p used) in omega (arith, below)

  pub at_rest : IsAtRest s (p / CELLS) p
  at_rest = record { closed = (owner_within, settled.closed (p / CELLS)); fresh = settled.fresh (p / CELLS); own = refl; used = used }

  pub unheld_now : s.held p ≡ None
  unheld_now = unheld s law (p / CELLS) p at_rest p refl

  -- HOT is set
  pub heat_keeps : Keeps s (with_cell s p (hot_word (s.cell p)))
  heat_keeps = reworded_keeps s p (hot_word (s.cell p)) (nonzero s law p used) (ap (λ (w : World). w.object) (hot_world s law p used))

  -- its owner asks for it to be moved
  pub ask_legal : Legal s (Ask (p / CELLS) p Moved)
  ask_legal = (refl, owner_within, refl, used, unheld_now)

  pub ask_keeps : Keeps s (after s (Ask (p / CELLS) p Moved))
  ask_keeps = reworded_keeps s p (moved_word (s.cell p)) (nonzero s law p used) (ap (λ (w : World). w.object) (does s (Ask (p / CELLS) p Moved) law tt ask_legal))

  -- HOT is taken away where a view may rest
  module _ (t : State) (rests : IsSome (place_to_view (read_of (s.cell p)))) (is : (v : PtrWord) → read_of (s.cell p) ≡ Some v → t ≡ with_cell s p (word_of (without_owner_marks v))) where
    module _ (len ds : ℕ) (place : Place) (k : Marks) (near : read_of (s.cell p) ≡ Some (Near len ds place k)) (loud : (k.evac || k.moved || k.dropped) ≡ false) where
      abbrev cold : ℕ
      cold = word_of (without_owner_marks (Near len ds place k))

      kept : k.dropped ≡ false
      kept = grind (arith, nat_tests)

      says : read_of cold ≡ Some (Near len ds place record k { hot = false; moved = false; dropped = false })
      says = read_back (without_owner_marks (Near len ds place k)) (IsPtr-without_owner_marks (Near len ds place k) (read_says (s.cell p) (Near len ds place k) (law.cells.cell_read p).0 near).0)

      as_before : (q : ℕ) → object_of s.word (s.stored q) q (read_of (put s.cell p cold q)) ≡ object_of s.word (s.stored q) q (read_of (s.cell q))
      as_before q = put_both (λ w. object_of s.word (s.stored q) q (read_of w) ≡ object_of s.word (s.stored q) q (read_of (s.cell q))) s.cell p cold q
          (λ e. let there : read_of (s.cell q) ≡ Some (Near len ds place k) = ap (λ x. read_of (s.cell x)) e ∙ near in rw (says, there, kept) refl) (λ _. refl)

      cold_objects : (world_of (with_cell s p cold)).object ≡ (world_of s).object
      unfolding world_of
      cold_objects = fun_ext as_before

    pub cool_keeps : Keeps s t
    cool_keeps =
        let at = some_of (place_to_view (read_of (s.cell p))) rests in
        let x = rest_is (read_of (s.cell p)) at.0 at.1 in
        subst (Keeps s) (sym (is (Near x.0 x.1 at.0 x.2) x.3)) (reworded_keeps s p (cold x.0 x.1 at.0 x.2 x.3 x.4) (nonzero s law p used) (cold_objects x.0 x.1 at.0 x.2 x.3 x.4))
