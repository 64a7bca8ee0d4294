-- What the event Look owes.
use Rattle.std.proofs.Common.{◌≡◌, ℕ, ◌/◌, ◌<◌, ◌∙◌, Bool, true, false, nat_le, arith, ap, refl, sym, inl, inr, Option, Some, None}
use Rattle.std.specs.Prelude.{◌⊎◌, ◌||◌}
use Rattle.std.proofs.lemmas.Bool.{false≢true}
use Rattle.std.proofs.lemmas.Bool.Decides.{nat_tests}
use Rattle.far_word.specs.declared.pointer.Place.{Place}
use Rattle.far_word.specs.declared.scope.ScopeWord.{ScopeWord}
use Rattle.far_word.specs.declared.scope.ScopeWord.TheVariants as scoped
use Rattle.far_word.specs.declared.sizes.TheConstants.{CELLS}
use Rattle.far_word.specs.Scope.{scope_of}
use Rattle.far_word.proofs.ScopeLaws.{scope_says}
use Rattle.far_events.specs.declared.event.Event.TheVariants.{Look}
use Rattle.far_events.specs.events.Look.{shows_clear, ShowsClear, looked, Looks}
use Rattle.far_events.specs.events.Step.{change_of}
use Rattle.far_core.specs.laws.Worlds.{Caused}
use Rattle.far_events.specs.state.Law.{Law}
use Rattle.far_events.specs.state.State.{State}
use Rattle.far_core.specs.world.WorldOf.{world_of}
use Rattle.far_core.proofs.KeepJobs.{copies_fewer}
use Rattle.far_core.proofs.Owed.{Owed, replies}
use Rattle.far_events.proofs.Put.{put_both, put_same, put_other}
use Rattle.far_core.proofs.Touching.{same_copier}

or_fact : (a b : Bool) → (a || b) ≡ true → (a ≡ true) ⊎ (b ≡ true)
or_fact true b h = inl refl
or_fact false b h = inr h

or_left : (a b : Bool) → a ≡ true → (a || b) ≡ true
or_left true b h = refl
or_left false b h = absurd (false≢true h)

pub or_right : (a b : Bool) → b ≡ true → (a || b) ≡ true
or_right true b h = refl
or_right false b h = h

-- ---- what a scope word shows, as a test and as a fact
shows_fact : (epoch w : ℕ) (o : Option ScopeWord) → scope_of w ≡ o → shows_clear epoch o ≡ true → ShowsClear epoch w
shows_fact epoch w None is h = absurd (false≢true h)
shows_fact epoch w (Some scoped.Closed) is h = inl is
shows_fact epoch w (Some (scoped.Open e)) is h = inr (e, is, grind (arith, nat_tests))

shows_test : (epoch w : ℕ) → ShowsClear epoch w → shows_clear epoch (scope_of w) ≡ true
shows_test epoch w (inl is) = ap (shows_clear epoch) is
shows_test epoch w (inr (e, is, le)) = ap (shows_clear epoch) is ∙ (let t : nat_le epoch e ≡ true = grind (arith, nat_tests) in t)

module _ (m : ℕ) where
  -- who shows itself clear views nothing in the round's logs
  shown_unviewed : (s : State) → Law s → (p : ℕ) (place : Place) → s.held p ≡ Some place → ShowsClear s.round_epoch (s.scope (p / CELLS)) → s.round place.log ≡ false
  shown_unviewed s law p place held (inl shut) = absurd (law.views.held_open p (rw held refl) (sym (scope_says (s.scope (p / CELLS)) scoped.Closed shut).1))
  shown_unviewed s law p place held (inr (e, is, late)) = law.clears.late_unviewed p e place held is late

  keeps_look : (s : State) → Law s → Law (looked s m)
  keeps_look s law = record {
    shape = law.shape;
    cells = law.cells;
    spans = law.spans;
    logs = law.logs;
    scopes = law.scopes;
    views = law.views;
    rounds = law.rounds;
    clears = record {
      clear_unviewed = λ p place held. put_both (λ b. b ≡ true → s.round place.log ≡ false) s.clear m (s.clear m || shows_clear s.round_epoch (scope_of (s.scope m))) (p / CELLS)
          (λ own c. elim (or_fact _ _ c) [
            | inl before ↦ law.clears.clear_unviewed p place held (ap s.clear own ∙ before)
            | inr shows ↦ shown_unviewed s law p place held (shows_fact s.round_epoch _ _ refl (ap (λ k. shows_clear s.round_epoch (scope_of (s.scope k))) own ∙ shows))
          ])
          (λ _. law.clears.clear_unviewed p place held);
      late_unviewed = law.clears.late_unviewed;
    };
    unadopted = law.unadopted;
    copies = copies_fewer s s.round (looked s m).clear law (λ l h. h) (λ k h. put_both (λ b. b ≡ true) s.clear m _ k (λ e. or_left (s.clear m) _ (ap s.clear (sym e) ∙ h)) (λ _. h));
    soils = law.soils;
    cleans = law.cleans;
  }

  looks : (s : State) → Looks s m (looked s m)
  looks s =
      let here : (looked s m).clear m ≡ (s.clear m || shows_clear s.round_epoch (scope_of (s.scope m))) = put_same s.clear m _ m refl in
      record {
        seen = λ h. here ∙ or_right (s.clear m) _ (shows_test s.round_epoch (s.scope m) h);
        still = λ h. here ∙ or_left (s.clear m) _ h;
        only = λ h. elim (or_fact _ _ (sym here ∙ h)) [ inl before ↦ inl before | inr shows ↦ inr (shows_fact s.round_epoch (s.scope m) _ refl shows) ];
        others = λ k ne. put_other s.clear m _ k ne;
        rest = refl;
      }

  stays : (s : State) → world_of (looked s m) ≡ world_of s
  unfolding world_of
  stays s = refl

  pub look_owed : Owed (Look m)
  look_owed = record {
    fact = λ s law h. grind (arith, nat_tests);
    test = λ s h. let low : m < s.mutators = h in grind (arith, nat_tests);
    keeps = λ s law fits h. keeps_look s law;
    does = λ s law fits h. stays s;
    within = λ s. record {
      words = λ a ne. refl;
      remembered = λ k a b. refl;
      used = λ q a. refl;
      held = λ q a b. refl;
      soiled = λ q a b. refl;
      book = λ ne. absurd (ne refl);
      copiers = λ c ne. same_copier;
      rest = (refl, refl, refl, refl);
    };
    part = λ s h. inr (inr (inr (inr (inl (m, refl)))));
    word = λ s h. tt;
    reports = λ s law h. (refl, looks s);
    silent = λ s t h. h;
    answers = λ s x. cc;
    causes = replies (λ r. Caused (Look m) (change_of (Look m) r)) tt tt (λ n. tt) (λ x. tt) (λ place. tt);
  }
