-- What each small step of a round keeps, turns and rounds keep: over any hand, and where no word changes but by them.
use Rattle.std.proofs.Common.{◌≡◌, ℕ, Bool, true, false, eqb, Option, Some, None, List, [], ◌∷◌, ap, sym, refl, ◌∙◌, subst}
use Rattle.std.specs.List.{IsDistinct}
use Rattle.std.proofs.lemmas.Bool.{cond_both, false≢true}
use Rattle.far_events.specs.state.Law.{Law}
use Rattle.far_evac.specs.declared.answers.Polled.{Polled}
use Rattle.far_evac.specs.declared.answers.Polled.TheVariants.{Clear, StillOpen}
use Rattle.far_evac.specs.declared.answers.Progress.{Progress}
use Rattle.far_evac.specs.declared.answers.RoundEnd.{RoundEnd}
use Rattle.far_evac.specs.declared.phase.Phase.{Phase}
use Rattle.far_evac.specs.declared.phase.Phase.TheVariants.{Idle, Marking, Waiting, Evacuating}
use Rattle.far_evac.specs.AnyHand.{Evacuates, KnowsMoment, MarksSome, Polls, StopsAt, WalksTo}
use Rattle.far_evac.specs.AnyTurns.{RunsRound, StopsRound, TurnsMade, TurnsTo, sum_of}
use Rattle.far_evac.specs.Beside.{At, End, EvacuatesBeside, StopsBeside, WalksOver}
use Rattle.far_evac.specs.ByCopying.{EvacuatesBy, StopsBy}
use Rattle.far_evac.specs.Choosing.{after_selecting, is_spent}
use Rattle.far_evac.specs.Marking.{after_marking}
use Rattle.far_evac.specs.Moment.{Moment, Tally, nothing, plus}
use Rattle.far_evac.specs.MomentLaw.{IsLawful, MomentLaw, is_idle}
use Rattle.far_evac.specs.RoundSteps.{among, with_clear_below}
use Rattle.far_evac.specs.Turns.{IsRound, Turned, turn_size, turned, turns_made}
use Rattle.far_evac.specs.Waiting.{first_open, polled_to}
use Rattle.far_evac.specs.Walk.{Walked, ended, is_done, walked}
use Rattle.far_evac.proofs.Bools.{by_copying}
use Rattle.far_evac.proofs.Joined.{plus_nothing}
use Rattle.far_evac.proofs.Leading.{selecting}
use Rattle.far_evac.proofs.LeadingTurns.{through_turns}
use Rattle.far_evac.proofs.Marks.{marking_frame}
use Rattle.far_evac.proofs.SmallSteps.{walks_kept}

-- ---- a hand is exact where no word changes but by the round
abbrev pub IsLawfulSo : Bool → Moment → Type 0
IsLawfulSo true m = Law m.core × MomentLaw m
IsLawfulSo false m = IsLawful m

abbrev pub LearnsSo : Bool → (Moment → Tally → Type 0) → Type 0
LearnsSo true P = Unit {0}
LearnsSo false P = (m t : Moment) (tally : Tally) → KnowsMoment m t → P m tally → P t tally

abbrev pub KeepsWalks : Bool → (Moment → Tally → Type 0) → Type 0
KeepsWalks true P = (m : Moment) (n : ℕ) (tally : Tally) → Law m.core → MomentLaw m → m.copying ≡ false → m.phase ≡ Evacuating → P m tally → P (walked m n).moment (plus tally (walked m n).tally)
KeepsWalks false P = (m : Moment) (k : ℕ) (w : Walked) (tally : Tally) → IsLawful m → m.phase ≡ Evacuating → WalksTo m k w → P m tally → P w.moment (plus tally w.tally)

abbrev pub KeepsBeside : Bool → (Moment → Tally → Type 0) → Type 0
KeepsBeside true P = Unit {0}
KeepsBeside false P = (m : Moment) (n : ℕ) (w : Walked) (end : End) (tally : Tally) → IsLawful m → m.copying ≡ true → m.phase ≡ Evacuating → WalksOver m n w end → P m tally → P w.moment (plus tally w.tally)

-- each small step keeps what holds of a moment, and of what was counted so far
pub record KeepsTurns (exact : Bool) (P : Moment → Tally → Type 0) : Type 0 where
  pub learns : LearnsSo exact P
  pub marks : (m : Moment) (n : ℕ) (tally : Tally) → IsLawfulSo exact m → m.phase ≡ Marking → P m tally → P (after_marking m n) tally
  pub looks : (m : Moment) (k : ℕ) (phase : Phase) (tally : Tally) → IsLawfulSo exact m → m.phase ≡ Waiting → P m tally → P (record m { core = with_clear_below m.core k; phase = phase }) tally
  pub walks : KeepsWalks exact P
  pub beside : KeepsBeside exact P
  pub ends : (m : Moment) (tally : Tally) → P m tally → P (record m { phase = Idle }) tally

module _ (exact : Bool) (P : Moment → Tally → Type 0) (keeps : KeepsTurns exact P) where
  pub ended_kept : (w : Walked) (tally : Tally) → P w.moment tally → P (ended w) tally
  ended_kept w tally h = cond_both (is_done w) (record w.moment { phase = Idle }) w.moment (λ (t : Moment). P t tally) (λ _. keeps.ends w.moment tally h) (λ _. h)

-- ---- what is kept where no copy may be offered
walks_copying : (m : Moment) (k : ℕ) (w : Walked) → WalksTo m k w → w.moment.copying ≡ m.copying
walks_copying m k w walks = (walks_kept false (λ k w. w.moment.copying ≡ m.copying) record {
  learns = λ k w t known h. ap (λ (x : Moment). x.copying) known.moment.rest ∙ h;
  gives = λ k w l ls none h. h;
  deals = λ k w l ls p ps word here finds h. h;
} m refl k w walks).0

pub record KeepsAlone (P : Moment → Tally → Type 0) : Type 0 where
  pub learns : LearnsSo false P
  pub marks : (m : Moment) (n : ℕ) (tally : Tally) → IsLawful m → m.phase ≡ Marking → P m tally → P (after_marking m n) tally
  pub looks : (m : Moment) (k : ℕ) (phase : Phase) (tally : Tally) → IsLawful m → m.phase ≡ Waiting → P m tally → P (record m { core = with_clear_below m.core k; phase = phase }) tally
  pub walks : KeepsWalks false P
  pub ends : (m : Moment) (tally : Tally) → P m tally → P (record m { phase = Idle }) tally

abbrev pub Alone : (Moment → Tally → Type 0) → Moment → Tally → Type 0
Alone P m tally = (m.copying ≡ false) × P m tally

pub keeps_alone : (P : Moment → Tally → Type 0) → KeepsAlone P → KeepsTurns false (Alone P)
keeps_alone P keeps = record {
  learns = λ m t tally known (alone, h). (ap (λ (x : Moment). x.copying) known.rest ∙ alone, keeps.learns m t tally known h);
  marks = λ m n tally lawful is (alone, h). (ap (λ (x : Moment). x.copying) (marking_frame m n) ∙ alone, keeps.marks m n tally lawful is h);
  looks = λ m k phase tally lawful is (alone, h). (alone, keeps.looks m k phase tally lawful is h);
  walks = λ m k w tally lawful is walks (alone, h). (walks_copying m k w walks ∙ alone, keeps.walks m k w tally lawful is walks h);
  beside = λ m n w end tally lawful copying is walks (alone, h). absurd (false≢true (sym alone ∙ copying));
  ends = λ m tally (alone, h). (alone, keeps.ends m tally h);
}

-- a walk, and one that was refused at an object
module _ (P : Moment → Tally → Type 0) (keeps : KeepsAlone P) (m t : Moment) (lawful : IsLawful m) (tally : Tally) (h : P m tally) where
  ended_alone : (w : Walked) (tally : Tally) → P w.moment tally → P (ended w) tally
  ended_alone w tally h = cond_both (is_done w) (record w.moment { phase = Idle }) w.moment (λ (t : Moment). P t tally) (λ _. keeps.ends w.moment tally h) (λ _. h)

  pub walk_alone : (n : ℕ) (more : Tally) (done : Bool) → m.phase ≡ Evacuating → Evacuates m n t more done → P t (plus tally more)
  walk_alone n more done is (k, w, walks, ends, counts, _) =
      subst (λ (x : Moment). P x (plus tally more)) (sym ends)
      (ended_alone w (plus tally more) (subst (λ (x : Tally). P w.moment (plus tally x)) (sym counts) (keeps.walks m k w tally lawful is walks.walks h)))

  pub stop_alone : (n : ℕ) (more : Tally) → m.phase ≡ Evacuating → StopsAt m n t more → P t (plus tally more)
  stop_alone n more is (k, w, walks, _, _, known, counts) =
      keeps.learns w.moment t (plus tally more) known (subst (λ (x : Tally). P w.moment (plus tally x)) (sym counts) (keeps.walks m k w tally lawful is walks h))

-- ---- over any hand
module _ (P : Moment → Tally → Type 0) (keeps : KeepsTurns false P) where
  as_alone : KeepsAlone P
  as_alone = record { learns = keeps.learns; marks = keeps.marks; looks = keeps.looks; walks = keeps.walks; ends = keeps.ends }

  module _ (m t : Moment) (lawful : IsLawful m) (tally : Tally) (h : P m tally) where
    pub marks_kept : (n count : ℕ) (waiting : Option ℕ) → m.phase ≡ Marking → MarksSome m t n count waiting → P t tally
    marks_kept n count waiting is marks = keeps.learns (after_marking m n) t tally marks.leaves (keeps.marks m n tally lawful is h)

    pub polls_kept : (answer : Polled) → m.phase ≡ Waiting → Polls m t answer → P t tally
    polls_kept Clear is polls = keeps.learns (record m { core = with_clear_below m.core m.core.mutators; phase = Evacuating }) t tally polls (keeps.looks m m.core.mutators Evacuating tally lawful is h)
    polls_kept (StillOpen k epoch) is polls = keeps.learns (record m { core = with_clear_below m.core k }) t tally polls.leaves (keeps.looks m k m.phase tally lawful is h)

    walk_beside : (n : ℕ) (more : Tally) (done : Bool) → m.copying ≡ true → m.phase ≡ Evacuating → EvacuatesBeside m n t more done → P t (plus tally more)
    walk_beside n more done copying is walk =
        subst (λ (x : Moment). P x (plus tally more)) (sym walk.ends)
        (ended_kept false P keeps walk.stood (plus tally more) (subst (λ (x : Tally). P walk.stood.moment (plus tally x)) (sym walk.counts) (keeps.beside m n walk.stood walk.end tally lawful copying is walk.walks h)))

    pub walk_kept : (n : ℕ) (more : Tally) (done : Bool) → m.phase ≡ Evacuating → EvacuatesBy m n t more done → P t (plus tally more)
    walk_kept n more done is walk = by_copying m.copying (λ alone. walk_alone P as_alone m t lawful tally h n more done is (walk.alone alone)) (λ copying. walk_beside n more done copying is (walk.beside copying))

    stop_beside : (n : ℕ) (more : Tally) → m.copying ≡ true → m.phase ≡ Evacuating → StopsBeside m n t more → P t (plus tally more)
    stop_beside n more copying is stop =
        subst (λ (x : Moment). P x (plus tally more)) (sym stop.stops)
        (subst (λ (x : Tally). P stop.stood.moment (plus tally x)) (sym stop.counts) (keeps.beside m n stop.stood (At stop.next stop.why) tally lawful copying is stop.walks h))

    pub stop_kept : (n : ℕ) (more : Tally) → m.phase ≡ Evacuating → StopsBy m n t more → P t (plus tally more)
    stop_kept n more is stop = by_copying m.copying (λ alone. stop_alone P as_alone m t lawful tally h n more is (stop.alone alone)) (λ copying. stop_beside n more copying is (stop.beside copying))

    none_counted : (more : Tally) → more ≡ nothing → P t tally → P t (plus tally more)
    none_counted more none then = subst (P t) (sym (ap (plus tally) none ∙ plus_nothing tally)) then

    turn_by : (phase : Phase) (more : Tally) (done : Bool) → m.phase ≡ phase → TurnsTo m phase more done t → P t (plus tally more)
    turn_by Idle more done is odd = absurd odd
    turn_by Marking more done is (none, _, (count, waiting, marks)) = none_counted more none (marks_kept turn_size count waiting is marks)
    turn_by Waiting more done is (none, _, (answer, polls)) = none_counted more none (polls_kept answer is polls)
    turn_by Evacuating more done is turn = walk_kept turn_size more done is turn

    pub turn_kept : (more : Tally) (done : Bool) → TurnsTo m m.phase more done t → P t (plus tally more)
    turn_kept more done = turn_by m.phase more done refl

  pub turns_kept : (m : Moment) → P m nothing → (tallies : List Tally) (over : Bool) (t : Moment) → TurnsMade m tallies over t → P t (sum_of tallies)
  turns_kept m h [] over t made = subst (λ (x : Moment). P x nothing) (sym made.0) h
  turns_kept m h (more ∷ tallies) over t (u, _, made, turn, _, lawful) = turn_kept u t lawful (sum_of tallies) (turns_kept m h tallies false u made) more over turn

  -- a whole round from its begin on, also one that stopped at an object
  pub round_kept : (m t : Moment) (logs : List ℕ) (turns : ℕ) (end : RoundEnd) → P (after_selecting m logs) nothing → RunsRound m logs turns end t → (tally : Tally) × P t tally
  round_kept m t [] turns end h is = (nothing, subst (λ (x : Moment). P x nothing) (sym is.1) h)
  round_kept m t (l ∷ ls) turns end h (tallies, over, made, _, _) = (sum_of tallies, turns_kept (after_selecting m (l ∷ ls)) h tallies over t made)

  pub stopped_kept : (m t : Moment) (logs : List ℕ) (turns : ℕ) (so_far : Progress) → P (after_selecting m logs) nothing → StopsRound m logs turns so_far t → (tally : Tally) × P t tally
  stopped_kept m t logs turns so_far h (tallies, u, more, made, _, leaves, stops, _, lawful) =
      (plus (sum_of tallies) more, stop_kept u t lawful (sum_of tallies) (turns_kept (after_selecting m logs) h tallies false u made) turn_size more leaves stops)

-- ---- where no copy may be offered, none may be offered after turns
abbrev any_moment : Moment → Tally → Type 0
any_moment m tally = Unit {0}

keeps_any : KeepsAlone any_moment
keeps_any = record { learns = λ m t tally known h. tt; marks = λ m n tally lawful is h. tt; looks = λ m k phase tally lawful is h. tt; walks = λ m k w tally lawful is walks h. tt; ends = λ m tally h. tt }

pub turn_alone : (m t : Moment) → IsLawful m → m.copying ≡ false → (more : Tally) (done : Bool) → TurnsTo m m.phase more done t → t.copying ≡ false
turn_alone m t lawful alone more done turn = (turn_kept (Alone any_moment) (keeps_alone any_moment keeps_any) m t lawful nothing (alone, tt) more done turn).0

pub turns_alone : (m : Moment) → m.copying ≡ false → (tallies : List Tally) (over : Bool) (t : Moment) → TurnsMade m tallies over t → t.copying ≡ false
turns_alone m alone tallies over t made = (turns_kept (Alone any_moment) (keeps_alone any_moment keeps_any) m (alone, tt) tallies over t made).0

-- ---- where no word changes but by the round
module _ (P : Moment → Tally → Type 0) (keeps : KeepsTurns true P) where
  polled_kept : (m : Moment) (tally : Tally) → Law m.core → MomentLaw m → m.phase ≡ Waiting → P m tally → (o : Option ℕ) → P (polled_to m o) tally
  polled_kept m tally law moment is h None = keeps.looks m m.core.mutators Evacuating tally (law, moment) is h
  polled_kept m tally law moment is h (Some k) = keeps.looks m k m.phase tally (law, moment) is h

  turned_kept : (r : Turned) → Law r.moment.core → MomentLaw r.moment → r.moment.copying ≡ false → P r.moment r.tally → (phase : Phase) → r.moment.phase ≡ phase → P (turned r phase).moment (turned r phase).tally
  turned_kept r law moment alone h Idle is = h
  turned_kept r law moment alone h Marking is = keeps.marks r.moment turn_size r.tally (law, moment) is h
  turned_kept r law moment alone h Waiting is = polled_kept r.moment r.tally law moment is h (first_open r.moment.core)
  turned_kept r law moment alone h Evacuating is =
      let w = walked r.moment turn_size in ended_kept true P keeps w (plus r.tally w.tally) (keeps.walks r.moment turn_size r.tally law moment alone is h)

  pub turns_kept_exactly : (m : Moment) (n : ℕ) → Law m.core → MomentLaw m → m.copying ≡ false → is_idle m.phase ≡ false → P m nothing → P (turns_made m n).moment (turns_made m n).tally
  turns_kept_exactly m n law moment alone runs h = through_turns (λ k r. P r.moment r.tally) m law moment alone runs h (λ k r over h. h) (λ k r law moment alone goes h. turned_kept r law moment alone h r.moment.phase refl) n

-- what turns keep, a whole round keeps from its begin on
pub round_kept_exactly : (P : Moment → Type 0) → ((m : Moment) (n : ℕ) → Law m.core → MomentLaw m → m.copying ≡ false → is_idle m.phase ≡ false → P m → P (turns_made m n).moment) →
    (m : Moment) (logs : List ℕ) (turns : ℕ) (end : RoundEnd) (t : Moment) → Law m.core → MomentLaw m → m.copying ≡ false → is_idle m.phase ≡ true → is_spent m.core ≡ false → IsDistinct eqb logs →
    ((l : ℕ) → among logs l ≡ true → among m.order l ≡ true) → IsRound m logs turns end t → P (after_selecting m logs) → P t
round_kept_exactly P keeps m [] turns end t law moment alone idle left once of_order is h = subst P (sym is.1) h
round_kept_exactly P keeps m (l ∷ ls) turns end t law moment alone idle left once of_order is h =
    let begun = selecting m (l ∷ ls) law moment idle left once of_order in subst P (sym is.1) (keeps (after_selecting m (l ∷ ls)) turns begun.law begun.moment alone refl h)
