-- What the event Soil owes.
use Rattle.std.proofs.Common.{inr, ◌≡◌, ℕ, ◌<◌, ◌^◌, ◌∙◌, true, arith, ap, refl, sym, subst, bit_or, Option, Some, None}
use Rattle.std.specs.Prelude.{IsSome}
use Rattle.std.proofs.lemmas.Bool.{eq-eqb}
use Rattle.std.proofs.lemmas.Bool.Decides.{nat_tests}
use Rattle.far_word.specs.declared.mark.Mark.TheVariants.{Dirty}
use Rattle.far_word.specs.declared.pointer.Place.{Place}
use Rattle.far_word.specs.declared.pointer.PtrWord.{PtrWord}
use Rattle.far_word.specs.declared.pointer.PtrWord.TheVariants.{Free, Near, Far}
use Rattle.far_word.specs.Mark.{position}
use Rattle.far_word.specs.Pointer.{read_of}
use Rattle.far_word.proofs.PointerLaws.{with_mark_read, with_mark_fits}
use Rattle.far_events.specs.declared.event.Event.TheVariants.{Soil}
use Rattle.far_events.specs.events.Soil.{after_soil}
use Rattle.far_events.specs.events.Step.{change_of}
use Rattle.far_events.specs.events.Touch.{Soils}
use Rattle.far_core.specs.laws.Worlds.{Caused}
use Rattle.far_events.specs.state.Law.{Law, HasEvac, held_place, in_use, is_dirty}
use Rattle.far_events.specs.state.State.{State, put}
use Rattle.far_core.specs.world.WorldOf.{world_of, is_marked, object_of}
use Rattle.far_events.proofs.Bounds.{some_of}
use Rattle.far_events.proofs.Cells.{Remarked, Remarked-map_mark, HasEvac-mark, map_mark, held_place-mark, in_use-mark, in_use_nonzero}
use Rattle.far_core.proofs.Cells.{object_of-mark}
use Rattle.far_core.proofs.Frames.{law_with_cell_marks, law_with_owners}
use Rattle.far_core.proofs.Marking.{same_world}
use Rattle.far_core.proofs.Owed.{Owed, replies}
use Rattle.far_events.proofs.Put.{put_both, put_same, put_other}
use Rattle.far_core.proofs.Touching.{by_owner, one_cell, touched_soiled}

abbrev pub soiled_word : ℕ → ℕ
soiled_word w = bit_or w (2 ^ position Dirty)

-- a word whose place is held reads, with DIRTY or-ed in, as it did, with DIRTY
read_dirty : (w : ℕ) (o : Option PtrWord) (place : Place) → w < 2 ^ 64 → read_of w ≡ o → held_place o ≡ Some place →
    (read_of (soiled_word w) ≡ map_mark Dirty o) × (soiled_word w < 2 ^ 64) × (is_dirty (map_mark Dirty o) ≡ true)
read_dirty w None place fits e h = absurd cc
read_dirty w (Some Free) place fits e h = absurd cc
read_dirty w (Some (Near len ds at m)) place fits e h = (
  with_mark_read Dirty w (Near len ds at m) fits e refl,
  with_mark_fits Dirty w (Near len ds at m) fits e refl,
  refl,
)
read_dirty w (Some (Far len ds m)) place fits e h = absurd cc

is_marked-dirty : (o : Option PtrWord) → is_marked (map_mark Dirty o) ≡ is_marked o
is_marked-dirty None = refl
is_marked-dirty (Some Free) = refl
is_marked-dirty (Some (Near len ds place m)) = refl
is_marked-dirty (Some (Far len ds m)) = refl

module _ (s : State) (law : Law s) (p : ℕ) (held : IsSome (s.held p)) where
  rests : (place : Place) × (s.held p ≡ Some place)
  rests = some_of (s.held p) held

  pub reads : (read_of (soiled_word (s.cell p)) ≡ map_mark Dirty (read_of (s.cell p))) × (soiled_word (s.cell p) < 2 ^ 64) × (is_dirty (map_mark Dirty (read_of (s.cell p))) ≡ true)
  reads = read_dirty (s.cell p) (read_of (s.cell p)) rests.0 (law.cells.cell_read p).0 refl (law.views.held_names p rests.0 rests.1)

  live : in_use (read_of (s.cell p)) ≡ true
  live = law.views.used_cell p (law.views.held_used p held)

  keeps_dirty : Law record s { cell = put s.cell p (soiled_word (s.cell p)) }
  keeps_dirty = law_with_cell_marks s law p _ reads.1 (subst (λ o. Remarked (read_of (s.cell p)) o) (sym reads.0) (Remarked-map_mark Dirty _))
      (subst (HasEvac s.round) (sym reads.0) (HasEvac-mark Dirty s.round _ (law.rounds.round_evac p))) (in_use_nonzero _ live)
      (λ place h. ap held_place reads.0 ∙ held_place-mark Dirty _ (λ e. cc) (λ e. cc) ∙ law.views.held_names p place h) (λ _. ap in_use reads.0 ∙ in_use-mark Dirty _ (λ e. cc) ∙ live)

  pub keeps_soil : Law (after_soil s p)
  keeps_soil =
      let dirty : State = record s { cell = put s.cell p (soiled_word (s.cell p)) } in
      let kept : Law dirty = keeps_dirty in
      law_with_owners dirty s.scope s.remembered s.used s.held (put s.soiled p true) kept kept.scopes kept.views kept.clears kept.unadopted (record {
        soiled_held = λ q. put_both (λ b. b ≡ true → IsSome (s.held q)) s.soiled p true q (λ e _. subst (λ x. IsSome (s.held x)) (sym e) held) (λ _. law.soils.soiled_held q);
        soiled_dirty = λ q. put_both (λ b. b ≡ true → is_dirty (read_of (dirty.cell q)) ≡ true) s.soiled p true q
            (λ e _. ap (λ w. is_dirty (read_of w)) (put_same s.cell p (soiled_word (s.cell p)) q e) ∙ ap is_dirty reads.0 ∙ reads.2) (λ _. kept.soils.soiled_dirty q);
      })

  pub soil_stays : world_of (after_soil s p) ≡ world_of s
  unfolding world_of
  soil_stays = same_world s p (soiled_word (s.cell p)) (λ f g q. ap (object_of f g q) reads.0 ∙ object_of-mark Dirty f g q _ (λ e. cc)) (ap is_marked reads.0 ∙ is_marked-dirty (read_of (s.cell p)))

-- what the event owes
module _ (m p : ℕ) where
  pub soil_owed : Owed (Soil m p)
  soil_owed = record {
    fact = λ s law h. (grind (arith, nat_tests), grind (arith, nat_tests));
    test = λ s h. rw (eq-eqb _ _ h.0, h.1) refl;
    keeps = λ s law fits h. keeps_soil s law p h.1;
    does = λ s law fits h. soil_stays s law p h.1;
    within = λ s. touched_soiled (one_cell s.epoch s.scope s.cell s.word s.copying.word p _) (λ k a b. refl) (λ q a. refl) (λ q a b. refl) (λ q a b. put_other s.soiled p true q (λ e. a (ap Soils (sym e))));
    part = λ s h. by_owner Soil m p p (grind (arith, nat_tests)) refl;
    word = λ s h. inr (inr (inr (inr (inr (by_owner Soil m p p (grind (arith, nat_tests)) refl)))));
    reports = λ s law h. (refl, put_same s.soiled p true p refl, λ v e. ap read_of (put_same s.cell p (soiled_word (s.cell p)) p refl) ∙ (reads s law p h.1).0 ∙ ap (map_mark Dirty) e);
    silent = λ s t h. h;
    answers = λ s x. cc;
    causes = replies (λ r. Caused (Soil m p) (change_of (Soil m p) r)) tt tt (λ n. tt) (λ x. tt) (λ place. tt);
  }
