-- What the event Mark owes.
use Rattle.std.proofs.Common.{inl, inr, ◌≡◌, ◌≢◌, ◌*◌, ◌<◌, ◌^◌, ◌∙◌, ℕ, Bool, true, false, cond, arith, ap, refl, sym, subst, nat_lt, bit_or, Option, Some, None}
use Rattle.std.specs.Prelude.{◌||◌, ◌&&◌, not, is_some}
use Rattle.std.proofs.lemmas.Bool.{false≢true}
use Rattle.std.proofs.lemmas.Bool.Decides.{nat_tests}
use Rattle.far_word.specs.declared.mark.Mark.TheVariants.{Evac}
use Rattle.far_word.specs.declared.pointer.PtrWord.{PtrWord}
use Rattle.far_word.specs.declared.pointer.PtrWord.TheVariants.{Free, Near, Far}
use Rattle.far_word.specs.declared.sizes.TheConstants.{CELLS}
use Rattle.far_word.specs.Mark.{position}
use Rattle.far_word.specs.Pointer.{read_of}
use Rattle.far_word.proofs.PointerLaws.{with_mark_read, with_mark_fits}
use Rattle.far_events.specs.declared.event.Event.TheVariants.{Mark}
use Rattle.far_events.specs.events.Mark.{may_mark, IsSealedNear}
use Rattle.far_events.specs.state.Law.{Law, HasEvac, held_place, in_use}
use Rattle.far_events.specs.state.State.{State, put}
use Rattle.far_events.specs.events.Step.{change_of}
use Rattle.far_core.specs.world.World.{Object}
use Rattle.far_core.specs.laws.Worlds.{Caused}
use Rattle.far_core.specs.world.WorldOf.{world_of, object_of, is_marked}
use Rattle.far_core.specs.world.Steps as world
use Rattle.far_events.proofs.Cells.{Remarked, Remarked-map_mark, HasEvac-mark, unused, map_mark, held_place-mark, in_use-mark}
use Rattle.far_core.proofs.Cells.{object_of-mark}
use Rattle.far_core.proofs.Frames.{law_with_cell_marks}
use Rattle.far_events.proofs.Guards.{sealed_fact}
use Rattle.far_core.proofs.Marking.{marks_world}
use Rattle.far_core.proofs.Owed.{Owed, replies}
use Rattle.far_events.proofs.Put.{put_same}
use Rattle.far_core.proofs.Touching.{touched, one_cell}

abbrev evac : ℕ → ℕ
evac w = bit_or w (2 ^ position Evac)

-- ---- the guard
near_fact : (s : State) (p : ℕ) (o : Option PtrWord) → read_of (s.cell p) ≡ o → may_mark s o ≡ true → IsSealedNear s p
near_fact s p None e h = absurd (false≢true h)
near_fact s p (Some Free) e h = absurd (false≢true h)
near_fact s p (Some (Near len ds place m)) e h = (len, ds, place, m, e, grind (arith, nat_tests), sealed_fact _ (grind (arith, nat_tests)))
near_fact s p (Some (Far len ds m)) e h = absurd (false≢true h)

near_test : (s : State) (p : ℕ) → IsSealedNear s p → may_mark s (read_of (s.cell p)) ≡ true
near_test s p (len, ds, place, m, e, low, shut) =
    let a : nat_lt place.log s.logs ≡ true = grind (arith, nat_tests) in
    rw (e, a, shut) refl

-- ---- what EVAC leaves as it is
read_evac : (s : State) (w : ℕ) (o : Option PtrWord) → w < 2 ^ 64 → read_of w ≡ o → may_mark s o ≡ true → (read_of (evac w) ≡ map_mark Evac o) × (evac w < 2 ^ 64)
read_evac s w None fits e h = absurd (false≢true h)
read_evac s w (Some Free) fits e h = absurd (false≢true h)
read_evac s w (Some (Near len ds place m)) fits e h = (
  with_mark_read Evac w (Near len ds place m) fits e refl,
  with_mark_fits Evac w (Near len ds place m) fits e refl,
)
read_evac s w (Some (Far len ds m)) fits e h = absurd (false≢true h)

-- ---- the world
at_drop : (d e v : Bool) (x : Object) → (not d && (true || v)) ≡ (is_some (cond d None (Some x)) || (not d && (e || v)))
at_drop true e v x = refl
at_drop false e v x = refl

is_marked-evac : (s : State) (f g : ℕ → ℕ) (p : ℕ) (o : Option PtrWord) → may_mark s o ≡ true → is_marked (map_mark Evac o) ≡ (is_some (object_of f g p o) || is_marked o)
is_marked-evac s f g p None h = absurd (false≢true h)
is_marked-evac s f g p (Some Free) h = absurd (false≢true h)
is_marked-evac s f g p (Some (Near len ds place m)) h = at_drop m.dropped m.evac m.moved _
is_marked-evac s f g p (Some (Far len ds m)) h = absurd (false≢true h)

mark_marks : (s : State) (p new : ℕ) → read_of new ≡ map_mark Evac (read_of (s.cell p)) → may_mark s (read_of (s.cell p)) ≡ true → world.Marks (world_of s) p (world_of record s { cell = put s.cell p new })
mark_marks s p new says h = marks_world s p new (λ f g q. ap (object_of f g q) says ∙ object_of-mark Evac f g q _ (λ e. cc))
    (ap is_marked says ∙ is_marked-evac s s.word (s.stored p) p _ h)

-- a near cell isn't 0
nonzero : (s : State) (p : ℕ) → may_mark s (read_of (s.cell p)) ≡ true → s.cell p ≢ 0
nonzero s p h z = false≢true (sym (ap (λ w. may_mark s (read_of w)) z ∙ ap (may_mark s) unused) ∙ h)

-- ---- what the event owes
module _ (p : ℕ) where
  keeps_mark : (s : State) → Law s → may_mark s (read_of (s.cell p)) ≡ true → Law record s { cell = put s.cell p (evac (s.cell p)) }
  keeps_mark s law h =
      let x = read_evac s (s.cell p) _ (law.cells.cell_read p).0 refl h in
      law_with_cell_marks s law p _ x.1 (subst (λ o. Remarked (read_of (s.cell p)) o) (sym x.0) (Remarked-map_mark Evac _))
      (subst (HasEvac s.round) (sym x.0) (HasEvac-mark Evac s.round _ (law.rounds.round_evac p))) (nonzero s p h)
      (λ place k. ap held_place x.0 ∙ held_place-mark Evac _ (λ e. cc) (λ e. cc) ∙ law.views.held_names p place k) (λ k. ap in_use x.0 ∙ in_use-mark Evac _ (λ e. cc) ∙ law.views.used_cell p k)

  pub mark_owed : Owed (Mark p)
  mark_owed = record {
    fact = λ s law h. (grind (arith, nat_tests), near_fact s p (read_of (s.cell p)) refl (grind (arith, nat_tests)));
    test = λ s h. let low : p < CELLS * s.mutators = h.0 in let a : nat_lt p (CELLS * s.mutators) ≡ true = grind (arith, nat_tests) in rw (a, near_test s p h.1) refl;
    keeps = λ s law fits h. keeps_mark s law (near_test s p h.1);
    does = λ s law fits h. mark_marks s p _ (read_evac s (s.cell p) _ (law.cells.cell_read p).0 refl (near_test s p h.1)).0 (near_test s p h.1);
    within = λ s. touched (one_cell s.epoch s.scope s.cell s.word s.copying.word p _) (λ k a b. refl) (λ q a. refl) (λ q a b. refl);
    part = λ s h. tt;
    word = λ s h. inr (inl refl);
    reports = λ s law h. (refl, λ v e. ap read_of (put_same s.cell p (evac (s.cell p)) p refl) ∙ (read_evac s (s.cell p) _ (law.cells.cell_read p).0 refl (near_test s p h.1)).0 ∙ ap (map_mark Evac) e);
    silent = λ s t h. h;
    answers = λ s x. cc;
    causes = replies (λ r. Caused (Mark p) (change_of (Mark p) r)) tt tt (λ n. tt) (λ x. inl refl) (λ place. tt);
  }
