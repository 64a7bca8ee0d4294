-- What giving the log in front back leaves of the round.
use Rattle.std.proofs.Common.{◌≡◌, ◌≢◌, ℕ, suc, ◌+◌, ◌-◌, ◌<◌, ◌≤◌, ◌||◌, true, false, List, [], ◌∷◌, length, drop, eqb, inl, inr, arith, ap, sym, refl, ◌∙◌, subst, Bool}
use Rattle.std.specs.List.{IsDistinct}
use Rattle.std.proofs.Math.ListN.{drop_of_length-le}
use Rattle.std.proofs.lemmas.Bool.{cases_eq, ne_eqb, false≢true}
use Rattle.std.proofs.lemmas.List.{length-drop}
use Rattle.std.proofs.lemmas.Map.Keys.{IsDistinct-tail}
use Rattle.far_events.specs.declared.event.Kind.TheVariants as kinds
use Rattle.far_events.specs.state.Law.{Law}
use Rattle.far_events.specs.state.State.{State}
use Rattle.far_events.proofs.Put.{put_other, put_same}
use Rattle.far_hand.specs.Known.{Forgets}
use Rattle.far_book.specs.book.Own.{own_part}
use Rattle.far_book.specs.book.Releasing.{released}
use Rattle.far_book.proofs.region.NextLives.{lives_from_start}
use Rattle.far_evac.specs.declared.phase.Phase.{Phase}
use Rattle.far_evac.specs.declared.phase.Phase.TheVariants.{Idle, Marking, Waiting, Evacuating}
use Rattle.far_evac.specs.declared.round.Round.{Round}
use Rattle.far_evac.specs.AnyHand.{Knows}
use Rattle.far_evac.specs.Live.{is_empty}
use Rattle.far_evac.specs.MomentLaw.{has_risen, is_idle}
use Rattle.far_evac.specs.RoundSteps.{among}
use Rattle.far_evac.specs.Standing.{HoldsJobs, InRound, collection_in, collection_of}
use Rattle.far_evac.proofs.SmallSteps.{drop_next}
use Rattle.far_evac.proofs.Hands.{knows_forgotten}
use Rattle.far_evac.proofs.HeldJobs.{KeepsJobs, jobs_freed, jobs_more, jobs_over, keeps_released, knows_jobs}
use Rattle.far_evac.proofs.LiveOnce.{member_each}
use Rattle.far_evac.proofs.Standings.{idle_round}
use Rattle.far_evac.proofs.Tours.{others}
use Rattle.far_evac.proofs.Walking.{drops_front}
use Rattle.far_evac.proofs.Bools.{or_right}

not_marking : (phase : Phase) → phase ≡ Evacuating → phase ≡ Marking → ⊥
not_marking phase walks marks = let odd : Evacuating ≡ Marking = sym walks ∙ marks in absurd cc

not_waiting : (phase : Phase) → phase ≡ Evacuating → phase ≡ Waiting → ⊥
not_waiting phase walks waits = let odd : Evacuating ≡ Waiting = sym walks ∙ waits in absurd cc

-- ---- what is known of it
pub given_known : (s t : State) (l : ℕ) → t ≡ record (released s l) { word = t.word } → Forgets s t → Law (own_part t) → Knows (released s l) t
given_known s t l is forgot law = knows_forgotten (released s l) t is record { known = forgot.known; headers = forgot.headers } law

-- ---- which logs are the collection set then
module _ (r : Round) (walks : r.phase ≡ Evacuating) (l : ℕ) (ls : List ℕ) (front : collection_in r ≡ l ∷ ls) where
  pub held_next : (drop (r.index + 1) r.chosen ≡ ls) × (r.index + 1 ≤ length r.chosen)
  held_next =
      let n = drop_next r.index r.chosen l ls (drops_front r walks l ls front) in
      let more : suc r.index ≡ r.index + 1 = omega arith in
      (sym (ap (λ k. drop k r.chosen) more) ∙ n.0, omega (arith, n.1))

  pub held_then : collection_of r.phase r.chosen (r.index + 1) ≡ ls
  held_then = ap (λ phase. collection_of phase r.chosen (r.index + 1)) walks ∙ held_next.0

  pub last_held : length r.chosen ≤ r.index + 1 → ls ≡ []
  last_held all = sym held_next.0 ∙ drop_of_length-le r.chosen all

  some_left : (ks : List ℕ) → 0 < length ks → is_empty ks ≡ false
  some_left [] h = absurd (omega (arith, h))
  some_left (k ∷ ks) h = refl

  pub more_held : r.index + 1 < length r.chosen → is_empty ls ≡ false
  more_held some =
      let long : length ls ≡ length r.chosen - (r.index + 1) = ap length (sym held_next.0) ∙ length-drop (r.index + 1) r.chosen in
      some_left ls (omega (arith, long, some))

-- ---- the round goes on, or is over
module _ (s t : State) (r : Round) (in_round : InRound s r) (law : Law (own_part t)) (walks : r.phase ≡ Evacuating) (l : ℕ) (ls : List ℕ) (front : collection_in r ≡ l ∷ ls)
    (knows : Knows (released s l) t) where
  once : IsDistinct eqb (l ∷ ls)
  once = subst (IsDistinct eqb) front in_round.holds.once

  apart : (k : ℕ) → among ls k ≡ true → k ≢ l
  apart k member = member_each (λ x. x ≢ l) ls (others l ls once) k member

  was_held : (k : ℕ) → among ls k ≡ true → among (collection_in r) k ≡ true
  was_held k member = ap (λ held. among held k) front ∙ or_right (eqb k l) (among ls k) member

  held : collection_of r.phase r.chosen (r.index + 1) ≡ ls
  held = held_then r walks l ls front

  held_among : (k : ℕ) → among (collection_of r.phase r.chosen (r.index + 1)) k ≡ true → among ls k ≡ true
  held_among k h = sym (ap (λ ks. among ks k) held) ∙ h

  -- the log that was given back is out of the round, and every other log of the round is in the collection set still
  held_only : has_risen r.phase ≡ true → (k : ℕ) → t.round k ≡ true → among (collection_of r.phase r.chosen (r.index + 1)) k ≡ true
  held_only risen k is =
      let then : (released s l).round k ≡ true = sym (ap (λ (u : State). u.round k) knows.rest) ∙ is in
      elim (cases_eq k l) [
        | inl e ↦ absurd (false≢true (sym (put_same s.round l false k e) ∙ then))
        | inr ne ↦ ap (λ ks. among ks k) held ∙ sym (ap (λ b. b || among ls k) (ne_eqb k l ne)) ∙ sym (ap (λ ks. among ks k) front)
            ∙ in_round.holds.only risen k (sym (put_other s.round l false k ne) ∙ then)
      ]

  pub goes_on : is_empty ls ≡ false → InRound t (record r { index = r.index + 1; at = 0 })
  goes_on some = record {
    holds = record {
      sealed = λ k h. ap (λ (u : State). u.kind k) knows.rest ∙ put_other s.kind l kinds.Free k (apart k (held_among k h)) ∙ in_round.holds.sealed k (was_held k (held_among k h));
      once = subst (IsDistinct eqb) (sym held) (IsDistinct-tail eqb l ls once);
      runs = ap is_empty held ∙ some ∙ sym (ap is_idle walks);
      round = λ risen k h. ap (λ (u : State). u.round k) knows.rest ∙ put_other s.round l false k (apart k (held_among k h)) ∙ in_round.holds.round risen k (was_held k (held_among k h));
      only = held_only;
      clear = λ leaves k lt. ap (λ (u : State). u.clear k) knows.rest ∙ in_round.holds.clear leaves k (subst (λ (u : State). k < u.mutators) knows.rest lt);
      later = λ marks. absurd (not_marking r.phase walks marks);
    };
    stands = record {
      index = (held_next r walks l ls front).1;
      begins = λ running k ks e. (lives_from_start t law k).0;
      marked = λ marks. absurd (not_marking r.phase walks marks);
      marked_here = λ marks. absurd (not_marking r.phase walks marks);
      left = λ leaves k ks e p len ds place marks near log. omega arith;
      seen = λ waits. absurd (not_waiting r.phase walks waits);
      unseen = λ waits. absurd (not_waiting r.phase walks waits);
    };
  }

  pub ends : InRound t (record r { phase = Idle; index = r.index + 1; at = 0 })
  ends = idle_round t (record r { phase = Idle; index = r.index + 1; at = 0 }) refl (held_next r walks l ls front).1

  -- jobs, once it is out of the round: t's words may have been forgotten
  jobs_given : KeepsJobs s t
  jobs_given = jobs_more s (released s l) t (keeps_released s l) (knows_jobs (released s l) t knows)

  out : t.round l ≡ false
  out = ap (λ (u : State). u.round l) knows.rest ∙ put_same s.round l false l refl

  jobs_next : {copying : Bool} → HoldsJobs s copying r.phase (collection_in r) → HoldsJobs t copying r.phase ls
  jobs_next {copying} h = jobs_freed s t copying jobs_given r.phase l ls out (subst (HoldsJobs s copying r.phase) front h)

  pub jobs_on : {copying : Bool} → HoldsJobs s copying r.phase (collection_in r) → HoldsJobs t copying r.phase (collection_of r.phase r.chosen (r.index + 1))
  jobs_on {copying} h = subst (HoldsJobs t copying r.phase) (sym held) (jobs_next h)

  pub jobs_end : length r.chosen ≤ r.index + 1 → {copying : Bool} → HoldsJobs s copying r.phase (collection_in r) → HoldsJobs t copying Idle []
  jobs_end all {copying} h = jobs_over t copying r.phase Idle (subst (HoldsJobs t copying r.phase) (last_held r walks l ls front all) (jobs_next h))
