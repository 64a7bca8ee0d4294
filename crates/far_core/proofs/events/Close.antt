-- What the event Close owes.
use Rattle.std.proofs.Common.{inr, Bool, None, Option, Some, ap, cond, false, nat_eq, refl, subst, sym, true, ℕ, ◌/◌, ◌<◌, ◌∙◌, ◌≡◌, ◌≢◌, ◌≤◌}
use Rattle.std.proofs.lemmas.Bool.{cond_both, eq-eqb, eqb-false, eqb-true, false≢true}
use Rattle.std.specs.Prelude.{IsSome, is_some, not}
use Rattle.far_core.proofs.Frames.{law_with_owners}
use Rattle.far_events.proofs.Guards.{open_fact, open_test}
use Rattle.far_core.proofs.KeepOwner.{closed_word}
use Rattle.far_core.proofs.Touching.{touched_soiled, one_scope}
use Rattle.far_events.specs.events.Touch.{LetsGo}
use Rattle.far_core.proofs.Owed.{Owed, replies}
use Rattle.far_core.specs.laws.Worlds.{Caused}
use Rattle.far_events.specs.events.Step.{change_of, after_close}
use Rattle.far_events.proofs.Put.{put_both, put_other, put_same}
use Rattle.far_core.proofs.Worlds.{World-ext, opened_is}
use Rattle.far_events.specs.state.Law.{Law, held_place}
use Rattle.far_events.specs.state.State.{State, put}
use Rattle.far_core.specs.world.WorldOf.{world_of}
use Rattle.far_core.specs.world.Steps.{Closes}
use Rattle.far_events.specs.declared.event.Event.TheVariants.{Close}
use Rattle.far_word.specs.Pointer.{read_of}
use Rattle.far_word.specs.Scope.{scope_of}
use Rattle.far_word.specs.declared.pointer.Place.{Place}
use Rattle.far_word.specs.declared.sizes.TheConstants.{CELLS}
use mathlib.Core.Path.{fun_ext}
use Rattle.far_word.specs.declared.scope.ScopeWord.TheVariants as scoped

-- what an owner goes on holding at a close, it held, and it is of another owner
left_over : (s : State) (m p : ℕ) (P : Option Place → Type 0) → ((o : Option Place) → o ≡ None → P o) → (nat_eq (p / CELLS) m ≡ false → P (s.held p)) → P (cond (nat_eq (p / CELLS) m) None (s.held p))
left_over s m p P none other = cond_both (nat_eq (p / CELLS) m) None (s.held p) P (λ _. none None refl) other

-- the same of what it goes on having soiled
still_soiled : (b x : Bool) → cond b false x ≡ true → (b ≡ false) × (x ≡ true)
still_soiled true x h = absurd (false≢true h)
still_soiled false x h = (refl, h)

pub keeps_close : (s : State) (m : ℕ) → Law s → Law (after_close s m)
keeps_close s m law = law_with_owners s (put s.scope m 0) (put s.remembered m None) s.used (after_close s m).held (after_close s m).soiled law
    (record {
      scope_read = λ k. put_both (λ w. IsSome (scope_of w)) s.scope m 0 k (λ _. rw closed_word refl) (λ _. law.scopes.scope_read k);
      scope_range = λ k. put_both (λ w. w ≢ 0 → k < s.mutators) s.scope m 0 k (λ _ ne. absurd (ne refl)) (λ _. law.scopes.scope_range k);
      epoch_below = law.scopes.epoch_below;
      open_bound = λ k f. put_both (λ w. scope_of w ≡ Some (scoped.Open f) → f ≤ s.epoch) s.scope m 0 k
          (λ _ is. let odd : Some scoped.Closed ≡ Some (scoped.Open f) = sym closed_word ∙ is in absurd cc) (λ _. law.scopes.open_bound k f);
      remembered_bound = λ k e. put_both (λ (o : Option ℕ). o ≡ Some e → e ≤ s.epoch) s.remembered m None k (λ _ is. absurd cc) (λ _. law.scopes.remembered_bound k e);
      remembered_range = λ k e. put_both (λ (o : Option ℕ). o ≡ Some e → k < s.mutators) s.remembered m None k (λ _ is. absurd cc) (λ _. law.scopes.remembered_range k e);
    })
    (record {
      held_open = λ p. left_over s m p (λ o. IsSome o → put s.scope m 0 (p / CELLS) ≢ 0) (λ o e h. absurd (false≢true (sym (ap (λ x. is_some x) e) ∙ h)))
          (λ other h. put_both (λ w. w ≢ 0) s.scope m 0 (p / CELLS) (λ same. absurd (eqb-false (p / CELLS) m other same)) (λ _. law.views.held_open p h));
      held_names = λ p place. left_over s m p (λ o. o ≡ Some place → held_place (read_of (s.cell p)) ≡ Some place) (λ o e h. let odd : None ≡ Some place = sym e ∙ h in absurd cc) (λ _. law.views.held_names p place);
      held_used = λ p. left_over s m p (λ o. IsSome o → s.used p ≡ true) (λ o e h. absurd (false≢true (sym (ap (λ x. is_some x) e) ∙ h))) (λ _. law.views.held_used p);
      used_cell = law.views.used_cell;
    })
    (record {
      clear_unviewed = λ p place. left_over s m p (λ o. o ≡ Some place → s.clear (p / CELLS) ≡ true → s.round place.log ≡ false)
          (λ o e h. let odd : None ≡ Some place = sym e ∙ h in absurd cc) (λ _. law.clears.clear_unviewed p place);
      late_unviewed = λ p e place. left_over s m p (λ o. o ≡ Some place → scope_of (put s.scope m 0 (p / CELLS)) ≡ Some (scoped.Open e) → s.round_epoch ≤ e → s.round place.log ≡ false)
          (λ o is h. let odd : None ≡ Some place = sym is ∙ h in absurd cc)
          (λ other h is. law.clears.late_unviewed p e place h (sym (ap scope_of (put_other s.scope m 0 (p / CELLS) (eqb-false (p / CELLS) m other))) ∙ is));
    })
    law.unadopted
    (record {
      soiled_held = λ p h. let x = still_soiled _ _ h in subst (λ b. IsSome (cond b None (s.held p))) (sym x.0) (law.soils.soiled_held p x.1);
      soiled_dirty = λ p h. law.soils.soiled_dirty p (still_soiled _ _ h).1;
    })

pub close_closes : (s : State) (m : ℕ) → s.scope m ≢ 0 → Closes (world_of s) m (world_of (after_close s m))
unfolding world_of
close_closes s m opened = record {
  open_before = opened_is s m opened;
  after = World-ext _ _ refl
      (fun_ext (λ k. put_both (λ x. not (nat_eq x 0) ≡ put (λ j. not (nat_eq (s.scope j) 0)) m false k) s.scope m 0 k
      (λ e. sym (put_same (λ j. not (nat_eq (s.scope j) 0)) m false k e)) (λ ne. sym (put_other (λ j. not (nat_eq (s.scope j) 0)) m false k ne))))
      (fun_ext (λ p. cond_both (nat_eq (p / CELLS) m) None (s.held p) (λ (o : Option Place). is_some o ≡ cond (nat_eq (p / CELLS) m) false (is_some (s.held p)))
      (λ e. ap (λ b. cond b false (is_some (s.held p))) (sym e)) (λ e. ap (λ b. cond b false (is_some (s.held p))) (sym e))))
      refl refl refl;
}

-- what the event owes
module _ (m : ℕ) where
  pub close_owed : Owed (Close m)
  close_owed = record {
    fact = λ s law h. open_fact s m h;
    test = λ s h. open_test s m h;
    keeps = λ s law fits h. keeps_close s m law;
    does = λ s law fits h. close_closes s m h.1;
    within = λ s. touched_soiled (one_scope s.epoch s.scope s.cell s.word s.copying.word m 0) (λ k a b. put_other s.remembered m None k (λ e. b (ap LetsGo (sym e)))) (λ q a. refl)
        (λ q a b. cond_both (nat_eq (q / CELLS) m) None (s.held q) (λ x. x ≡ s.held q) (λ e. absurd (b (ap LetsGo (sym (eqb-true (q / CELLS) m e))))) (λ _. refl))
        (λ q a b. cond_both (nat_eq (q / CELLS) m) false (s.soiled q) (λ x. x ≡ s.soiled q) (λ e. absurd (b (ap LetsGo (sym (eqb-true (q / CELLS) m e))))) (λ _. refl));
    part = λ s h. refl;
    word = λ s h. inr refl;
    reports = λ s law h. (put_same s.scope m 0 m refl, put_same s.remembered m None m refl, λ q own. (ap (λ b. cond b None (s.held q)) (eq-eqb (q / CELLS) m own), ap (λ b. cond b false (s.soiled q)) (eq-eqb (q / CELLS) m own)));
    silent = λ s t h. h;
    answers = λ s x. cc;
    causes = replies (λ r. Caused (Close m) (change_of (Close m) r)) tt refl (λ n. tt) (λ x. tt) (λ place. tt);
  }
