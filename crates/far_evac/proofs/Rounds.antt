-- What polls and whole rounds do where no word changes but by them, they may do over any hand.
use Rattle.std.proofs.Common.{◌≡◌, ℕ, suc, ◌/◌, ◌≤◌, Bool, true, false, cond, ◌||◌, ◌==◌, nat_le, Option, Some, None, List, [], ◌∷◌, length, arith, ap, sym, refl, ◌∙◌, subst}
use Rattle.std.proofs.lemmas.Bool.{cond_both, false≢true, true≢false, or_parts, not-true}
use Rattle.std.proofs.lemmas.Bool.Decides.{nat_tests}
use Rattle.far_events.specs.state.Law.{Law}
use Rattle.far_book.proofs.region.Owns.{own_law}
use Rattle.far_evac.specs.declared.answers.Polled.{Polled}
use Rattle.far_evac.specs.declared.answers.Polled.TheVariants.{Clear, StillOpen}
use Rattle.far_evac.specs.declared.answers.RoundEnd.TheVariants.{Done, Limit}
use Rattle.far_evac.specs.declared.phase.Phase.{Phase}
use Rattle.far_evac.specs.declared.phase.Phase.TheVariants.{Idle, Marking, Waiting, Evacuating}
use Rattle.far_evac.specs.AnyHand.{Evacuates, Polls, WalksTo}
use Rattle.far_evac.specs.AnyTurns.{EndsRound, TurnsMade, TurnsTo, sum_of}
use Rattle.far_evac.specs.Beside.{EvacuatesBeside}
use Rattle.far_evac.specs.ByCopying.{EvacuatesBy}
use Rattle.far_evac.specs.Choosing.{after_selecting}
use Rattle.far_evac.specs.Laws.{RoundIsAllowed, TurnIsAllowed}
use Rattle.far_evac.specs.Marking.{after_marking, leaves_some, marked_core, newly_marked, waiting_for}
use Rattle.far_evac.specs.Moment.{Moment, Tally, nothing, plus, progress_of}
use Rattle.far_evac.specs.MomentLaw.{IsLawful, MomentLaw, is_idle}
use Rattle.far_evac.specs.RoundSteps.{advanced, is_clear_now}
use Rattle.far_evac.specs.Turns.{Turned, round_end, turn_size, turned, turns_made}
use Rattle.far_evac.specs.Waiting.{after_polling, first_open, holds_up, polled, polled_at, polled_to}
use Rattle.far_evac.specs.Walk.{Walked, ended, is_done, left, walked}
use Rattle.far_evac.proofs.BesideRounds.{walks_so}
use Rattle.far_evac.proofs.Bools.{by_copying}
use Rattle.far_evac.proofs.Joined.{plus_nothing}
pub use Rattle.far_evac.proofs.Unviewed.{found_in}
use Rattle.far_evac.proofs.Leading.{selecting}
use Rattle.far_evac.proofs.LeadingTurns.{through_turns}
use Rattle.far_evac.proofs.Walks.{moment_same, walk_is}
use Rattle.far_evac.proofs.SmallSteps.{walks_kept}

-- ---- a poll
polls_at : (m : Moment) (o : Option ℕ) → first_open m.core ≡ o → Polls m (polled_to m o) (polled_at m.core o)
polls_at m None e = moment_same (polled_to m None)
polls_at m (Some k) e =
    let found = found_in (holds_up m.core) k 0 m.core.mutators e in
    let why = or_parts (m.core.clear k) (is_clear_now m.core k) (not-true (m.core.clear k || is_clear_now m.core k) found.0) in
    let late : nat_le m.core.round_epoch (m.core.scope k / 2) ≡ false = (or_parts (m.core.scope k == 0) (nat_le m.core.round_epoch (m.core.scope k / 2)) why.1).1 in
    record { leaves = moment_same (polled_to m (Some k)); owner = omega (arith, found.1); unseen = why.0; older = grind (arith, nat_tests, late) }

pub polls_is : (m : Moment) → Polls m (after_polling m) (polled m.core)
polls_is m = polls_at m (first_open m.core) refl

-- ---- the phase in which a turn leaves a round
pub walks_phase : (m : Moment) (k : ℕ) (w : Walked) → WalksTo m k w → w.moment.phase ≡ m.phase
walks_phase m k w walks = (walks_kept false (λ k w. w.moment.phase ≡ m.phase) record {
  learns = λ k w t known h. ap (λ (x : Moment). x.phase) known.moment.rest ∙ h;
  gives = λ k w l ls none h. h;
  deals = λ k w l ls p ps word here finds h. h;
} m refl k w walks).0

pub walked_phase : (m : Moment) (n : ℕ) → (walked m n).moment.phase ≡ m.phase
walked_phase m n = let walk = walk_is m n in walks_phase m walk.0 (walked m n) walk.1.walks

marking_runs : (m : Moment) → m.phase ≡ Marking → is_idle (after_marking m turn_size).phase ≡ false
marking_runs m e = cond_both (leaves_some m turn_size) (record m { core = marked_core m turn_size }) (record m { core = advanced (marked_core m turn_size) m.collection; phase = Waiting })
    (λ (t : Moment). is_idle t.phase ≡ false) (λ _. ap is_idle e) (λ _. refl)

polled_runs : (m t : Moment) (answer : Polled) → m.phase ≡ Waiting → Polls m t answer → is_idle t.phase ≡ false
polled_runs m t Clear e leaves = ap (λ (x : Moment). is_idle x.phase) leaves.rest
polled_runs m t (StillOpen k epoch) e held_up = ap (λ (x : Moment). is_idle x.phase) held_up.leaves.rest ∙ ap is_idle e

ends_so : (m : Moment) → m.phase ≡ Evacuating → (done : Bool) → is_idle (cond done (record m { phase = Idle }) m).phase ≡ done
ends_so m leaves true = refl
ends_so m leaves false = ap is_idle leaves

-- the round is over then exactly where the turn says so
pub turn_ends : (m t : Moment) (phase : Phase) (tally : Tally) (done : Bool) → m.phase ≡ phase → TurnsTo m phase tally done t → is_idle t.phase ≡ done
turn_ends m t Idle tally done e odd = absurd odd
turn_ends m t Marking tally done e (_, goes, (count, waiting, marks)) = ap (λ (x : Moment). is_idle x.phase) marks.leaves.rest ∙ marking_runs m e ∙ sym goes
turn_ends m t Waiting tally done e (_, goes, (answer, polls)) = polled_runs m t answer e polls ∙ sym goes
turn_ends m t Evacuating tally done e turn = by_copying m.copying (λ alone. ends_alone (turn.alone alone)) (λ copying. ends_beside (turn.beside copying)) where
  ends_alone : Evacuates m turn_size t tally done → is_idle t.phase ≡ done
  ends_alone (k, w, walks, is, _, over) = ap (λ (x : Moment). is_idle x.phase) is ∙ ends_so w.moment (walks_phase m k w walks.walks ∙ e) (is_done w) ∙ sym over

  ends_beside : EvacuatesBeside m turn_size t tally done → is_idle t.phase ≡ done
  ends_beside h = ap (λ (x : Moment). is_idle x.phase) h.ends ∙ ends_so h.stood.moment ((walks_so m turn_size h.stood h.end h.walks).0 ∙ e) (is_done h.stood) ∙ sym h.over

-- ---- one turn
module _ (r : Turned) (alone : r.moment.copying ≡ false) (goes : r.over ≡ false) where
  turn_is : (phase : Phase) → r.moment.phase ≡ phase → is_idle r.moment.phase ≡ false →
      let t = turned r phase in (tally : Tally) × TurnsTo r.moment r.moment.phase tally t.over t.moment × (t.tally ≡ plus r.tally tally)
  turn_is Idle e runs = absurd (true≢false (sym (ap is_idle e) ∙ runs))
  turn_is Marking e runs = (
    nothing,
    subst (λ phase. TurnsTo r.moment phase nothing r.over (after_marking r.moment turn_size)) (sym e) (
      refl,
      goes,
      (length (newly_marked r.moment turn_size), waiting_for r.moment turn_size, record { leaves = moment_same (after_marking r.moment turn_size); counted = refl; epoch = refl }),
    ),
    sym (plus_nothing r.tally),
  )
  turn_is Waiting e runs = (
    nothing,
    subst (λ phase. TurnsTo r.moment phase nothing r.over (after_polling r.moment)) (sym e) (refl, goes, (polled r.moment.core, polls_is r.moment)),
    sym (plus_nothing r.tally),
  )
  turn_is Evacuating e runs =
      let w = walked r.moment turn_size in
      let walks = walk_is r.moment turn_size in
      let turn : EvacuatesBy r.moment turn_size (ended w) w.tally (is_done w) = record { alone = λ _. (walks.0, w, walks.1, refl, refl, refl); beside = λ odd. absurd (false≢true (sym alone ∙ odd)) } in
      (w.tally, subst (λ phase. TurnsTo r.moment phase w.tally (is_done w) (ended w)) (sym e) turn, refl)

pub turn_is_allowed : TurnIsAllowed
turn_is_allowed r alone goes runs = turn_is r alone goes r.moment.phase refl runs

-- ---- turn after turn
pub record Made (m : Moment) (n : ℕ) (r : Turned) : Type 0 where
  pub tallies : List Tally
  pub made : TurnsMade m tallies r.over r.moment
  pub sum : sum_of tallies ≡ r.tally
  pub most : length tallies ≤ n
  pub every : r.over ≡ false → length tallies ≡ n
  pub runs : r.over ≡ false → is_idle r.moment.phase ≡ false

one_more : (a n : ℕ) → a ≡ n → suc a ≡ suc n
one_more a n e = ap (λ x. suc x) e

turn_made : (m : Moment) (n : ℕ) (r : Turned) → Made m n r → r.moment.copying ≡ false → r.over ≡ false → IsLawful r.moment → Made m (suc n) (turned r r.moment.phase)
turn_made m n r h alone goes lawful =
    let t = turned r r.moment.phase in
    let x = turn_is_allowed r alone goes (h.runs goes) in
    record {
      tallies = x.0 ∷ h.tallies;
      made = (r.moment, tt, subst (λ over. TurnsMade m h.tallies over r.moment) goes h.made, x.1, tt, lawful);
      sum = ap (λ tally. plus tally x.0) h.sum ∙ sym x.2;
      most = omega (arith, h.most);
      every = λ _. one_more (length h.tallies) n (h.every goes);
      runs = λ more. turn_ends r.moment t.moment r.moment.phase x.0 t.over refl x.1 ∙ more;
    }

over_still : (m : Moment) (n : ℕ) (r : Turned) → r.over ≡ true → Made m n r → Made m (suc n) r
over_still m n r over h = record {
  tallies = h.tallies;
  made = h.made;
  sum = h.sum;
  most = omega (arith, h.most);
  every = λ goes. absurd (true≢false (sym over ∙ goes));
  runs = h.runs;
}

pub turns_are : (m : Moment) → Law m.core → MomentLaw m → m.copying ≡ false → is_idle m.phase ≡ false → (n : ℕ) → Made m n (turns_made m n)
turns_are m law moment alone runs =
    through_turns (Made m) m law moment alone runs record { tallies = []; made = (refl, refl, refl); sum = refl; most = omega arith; every = λ _. refl; runs = λ _. runs } (over_still m)
    (λ n r law moment alone goes h. turn_made m n r h alone goes (own_law r.moment.core law, moment))

ends : (turns : ℕ) (m : Moment) (r : Turned) (h : Made m turns r) (over : Bool) → r.over ≡ over → EndsRound turns h.tallies over r.moment.phase (round_end r)
ends turns m r h true e = ap (λ b. cond b (Done (progress_of r.tally true)) (Limit r.moment.phase)) e ∙ ap (λ tally. Done (progress_of tally true)) (sym h.sum)
ends turns m r h false e = (h.every e, ap (λ b. cond b (Done (progress_of r.tally true)) (Limit r.moment.phase)) e)

pub round_is : RoundIsAllowed
round_is m l ls turns law moment alone idle left once of_order =
    let u = after_selecting m (l ∷ ls) in
    let begun = selecting m (l ∷ ls) law moment idle left once of_order in
    let r = turns_made u turns in
    let h = turns_are u begun.law begun.moment alone refl turns in
    (h.tallies, r.over, h.made, h.most, ends turns u r h r.over refl)
