-- What the event Open owes.
use Rattle.std.proofs.Common.{inl, None, Option, Some, ap, arith, false, nat_eq, nat_lt, refl, sym, true, ℕ, ◌%◌, ◌*◌, ◌+◌, ◌/◌, ◌<◌, ◌∙◌, ◌≡◌, ◌≢◌, ◌≤◌}
use Rattle.std.proofs.lemmas.Bool.{false≢true, ne_eqb}
use Rattle.std.proofs.lemmas.Bool.Decides.{nat_tests}
use Rattle.std.specs.Prelude.{IsSome, not}
use Rattle.far_core.proofs.Frames.{law_with_owners}
use Rattle.far_events.proofs.Guards.{closed_fact, closed_test}
use Rattle.far_core.proofs.Touching.{touched, one_scope}
use Rattle.far_core.proofs.Owed.{Owed, replies}
use Rattle.far_core.specs.laws.Worlds.{Caused}
use Rattle.far_events.specs.events.Step.{change_of, scope_word_of}
use Rattle.far_events.proofs.Put.{put_both, put_other, put_same}
use Rattle.far_core.proofs.Worlds.{World-ext, closed_is}
use Rattle.far_core.specs.world.Happens.{Happens}
use Rattle.far_events.specs.state.Law.{Law}
use Rattle.far_events.specs.state.State.{State, put}
use Rattle.far_events.specs.events.Reports.{Reports}
use Rattle.far_core.specs.world.WorldOf.{world_of}
use Rattle.far_core.specs.world.Steps.{Opens}
use Rattle.far_events.specs.declared.event.Event.TheVariants.{Open}
use Rattle.far_events.specs.declared.event.Reply.TheVariants.{Done}
use Rattle.far_word.specs.Scope.{scope_of}
use Rattle.far_word.specs.declared.sizes.TheConstants.{CELLS, EPOCH_END}
use mathlib.Core.Path.{fun_ext}
use Rattle.far_word.specs.declared.scope.ScopeWord.TheVariants as scoped

pub open_word : (e : ℕ) → e < EPOCH_END → scope_of (2 * e + 1) ≡ Some (scoped.Open e)
unfolding scope_of
open_word e below =
    let some : nat_eq (2 * e + 1) 0 ≡ false = grind (arith, nat_tests) in
    let odd : nat_eq ((2 * e + 1) % 2) 1 ≡ true = grind (arith, nat_tests) in
    let fits : nat_lt (2 * e + 1) (2 * EPOCH_END) ≡ true = grind (arith, nat_tests) in
    let half : (2 * e + 1) / 2 ≡ e = omega arith in
    rw (some, odd, fits, half) refl

pub keeps_open : (s : State) (m e : ℕ) → Law s → m < s.mutators → s.scope m ≡ 0 → s.remembered m ≡ Some e → Law record s { scope = put s.scope m (2 * e + 1) }
keeps_open s m e law within shut read =
    let low : e ≤ s.epoch = law.scopes.remembered_bound m e read in
    let word : scope_of (2 * e + 1) ≡ Some (scoped.Open e) = open_word e (omega (arith, law.scopes.epoch_below)) in
    law_with_owners s (put s.scope m (2 * e + 1)) s.remembered s.used s.held s.soiled law
    (record {
      scope_read = λ k. put_both (λ w. IsSome (scope_of w)) s.scope m (2 * e + 1) k (λ _. rw word refl) (λ _. law.scopes.scope_read k);
      scope_range = λ k. put_both (λ w. w ≢ 0 → k < s.mutators) s.scope m (2 * e + 1) k (λ same _. omega arith) (λ _. law.scopes.scope_range k);
      epoch_below = law.scopes.epoch_below;
      open_bound = λ k f. put_both (λ w. scope_of w ≡ Some (scoped.Open f) → f ≤ s.epoch) s.scope m (2 * e + 1) k
          (λ _ is. let same : Some (scoped.Open e) ≡ Some (scoped.Open f) = sym word ∙ is in let eq : e ≡ f = cc in omega arith) (λ _. law.scopes.open_bound k f);
      remembered_bound = law.scopes.remembered_bound;
      remembered_range = law.scopes.remembered_range;
    })
    (record {
      held_open = λ p h. put_both (λ w. w ≢ 0) s.scope m (2 * e + 1) (p / CELLS) (λ _ z. absurd (omega arith)) (λ _. law.views.held_open p h);
      held_names = law.views.held_names;
      held_used = law.views.held_used;
      used_cell = law.views.used_cell;
    })
    (record {
      clear_unviewed = law.clears.clear_unviewed;
      late_unviewed = λ p f at h. put_both (λ w. scope_of w ≡ Some (scoped.Open f) → s.round_epoch ≤ f → s.round at.log ≡ false) s.scope m (2 * e + 1) (p / CELLS)
          (λ own _ _. absurd (law.views.held_open p (rw h refl) (ap s.scope own ∙ shut))) (λ _. law.clears.late_unviewed p f at h);
    })
    law.unadopted law.soils

at_remembered : (s : State) (m : ℕ) (o : Option ℕ) → Law s → m < s.mutators → s.scope m ≡ 0 → s.remembered m ≡ o → IsSome o → Law record s { scope = put s.scope m (scope_word_of o) }
at_remembered s m None law within shut e h = absurd (false≢true h)
at_remembered s m (Some e) law within shut is h = keeps_open s m e law within shut is

pub open_opens : (s : State) (m e : ℕ) → s.scope m ≡ 0 → Opens (world_of s) m (world_of record s { scope = put s.scope m (2 * e + 1) })
unfolding world_of
open_opens s m e shut = record {
  closed = closed_is s m shut;
  after = World-ext _ _ refl
      (fun_ext (λ k. put_both (λ x. not (nat_eq x 0) ≡ put (λ j. not (nat_eq (s.scope j) 0)) m true k) s.scope m (2 * e + 1) k
      (λ same. ap not (ne_eqb (2 * e + 1) 0 (λ z. omega arith)) ∙ sym (put_same (λ j. not (nat_eq (s.scope j) 0)) m true k same))
      (λ ne. sym (put_other (λ j. not (nat_eq (s.scope j) 0)) m true k ne))))
      refl refl refl refl;
}

do_open : (s : State) (m : ℕ) (o : Option ℕ) → s.scope m ≡ 0 → IsSome o → Happens (world_of s) (Open m) Done (world_of record s { scope = put s.scope m (scope_word_of o) })
do_open s m None shut h = absurd (false≢true h)
do_open s m (Some e) shut h = open_opens s m e shut

reports_open : (s : State) (m : ℕ) (o : Option ℕ) → s.remembered m ≡ o → IsSome o → Reports s (Open m) Done record s { scope = put s.scope m (scope_word_of o) }
reports_open s m None e h = absurd (false≢true h)
reports_open s m (Some x) e h = (x, e, put_same s.scope m (scope_word_of (Some x)) m refl)

-- what the event owes
module _ (m : ℕ) where
  pub open_owed : Owed (Open m)
  open_owed = record {
    fact = λ s law h. (closed_fact s m (grind (arith, nat_tests)), grind (arith, nat_tests));
    test = λ s h. rw (closed_test s m h.0, h.1) refl;
    keeps = λ s law fits h. at_remembered s m (s.remembered m) law h.0.0 h.0.1 refl h.1;
    does = λ s law fits h. do_open s m (s.remembered m) h.0.1 h.1;
    within = λ s. touched (one_scope s.epoch s.scope s.cell s.word s.copying.word m _) (λ k a b. refl) (λ q a. refl) (λ q a b. refl);
    part = λ s h. tt;
    word = λ s h. inl refl;
    reports = λ s law h. reports_open s m (s.remembered m) refl h.1;
    silent = λ s t h. h;
    answers = λ s x. cc;
    causes = replies (λ r. Caused (Open m) (change_of (Open m) r)) tt refl (λ n. tt) (λ x. tt) (λ place. tt);
  }
