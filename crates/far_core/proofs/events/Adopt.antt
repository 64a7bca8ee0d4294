-- What the event Adopt owes.
use Rattle.std.proofs.Common.{inl, ap, sym, arith, false, nat_lt, refl, true, ℕ, ◌<◌, ◌≡◌}
use Rattle.std.proofs.lemmas.Bool.{eq-eqb, true≢false}
use Rattle.std.proofs.lemmas.Bool.Decides.{nat_tests}
use Rattle.far_core.proofs.Frames.{law_with_owners}
use Rattle.far_core.proofs.Touching.{by_owner, touched}
use Rattle.far_events.specs.events.Touch.{Uses}
use Rattle.far_core.proofs.Owed.{Owed, replies}
use Rattle.far_core.specs.laws.Worlds.{Caused}
use Rattle.far_events.specs.events.Step.{change_of}
use Rattle.far_events.proofs.Put.{put_both, put_other, put_same}
use Rattle.far_events.specs.state.Law.{IsBlank, Law, in_use}
use Rattle.far_events.specs.state.State.{State, put}
use Rattle.far_core.specs.world.WorldOf.{world_of}
use Rattle.far_events.specs.declared.event.Event.TheVariants.{Adopt}
use Rattle.far_word.specs.Pointer.{read_of}

pub keeps_adopt : (s : State) (p : ℕ) → Law s → in_use (read_of (s.cell p)) ≡ true → Law record s { used = put s.used p true }
keeps_adopt s p law live = law_with_owners s s.scope s.remembered (put s.used p true) s.held s.soiled law
    (law.scopes)
    (record {
      held_open = law.views.held_open;
      held_names = law.views.held_names;
      held_used = λ q h. put_both (λ b. b ≡ true) s.used p true q (λ _. refl) (λ _. law.views.held_used q h);
      used_cell = λ q. put_both (λ b. b ≡ true → in_use (read_of (s.cell q)) ≡ true) s.used p true q (λ e _. rw e live) (λ _. law.views.used_cell q);
    })
    law.clears
    (λ honest q. put_both (λ b. b ≡ false → IsBlank s.word (s.stored q) (read_of (s.cell q))) s.used p true q (λ _ h. absurd (true≢false h)) (λ _. law.unadopted honest q))
    law.soils

pub adopt_stays : (s : State) (p : ℕ) → world_of record s { used = put s.used p true } ≡ world_of s
unfolding world_of
adopt_stays s p = refl

-- what the event owes
module _ (m p : ℕ) where
  pub adopt_owed : Owed (Adopt m p)
  adopt_owed = record {
    fact = λ s law h. (grind (arith, nat_tests), grind (arith, nat_tests), grind (arith, nat_tests), grind (arith, nat_tests));
    test = λ s h.
        let within : m < s.mutators = h.0 in
        let a : nat_lt m s.mutators ≡ true = grind (arith, nat_tests) in
        rw (a, eq-eqb _ _ h.1, h.2, h.3) refl;
    keeps = λ s law fits h. keeps_adopt s p law h.3;
    does = λ s law fits h. adopt_stays s p;
    within = λ s. touched (λ a ne. refl) (λ k a b. refl) (λ q a. put_other s.used p true q (λ e. a (ap Uses (sym e)))) (λ q a b. refl);
    part = λ s h. inl (by_owner Adopt m p p (grind (arith, nat_tests)) refl);
    word = λ s h. tt;
    reports = λ s law h. (refl, refl, put_same s.used p true p refl);
    silent = λ s t h. h;
    answers = λ s x. cc;
    causes = replies (λ r. Caused (Adopt m p) (change_of (Adopt m p) r)) tt tt (λ n. tt) (λ x. tt) (λ place. tt);
  }
