-- What a policy gives is what its function says, and a round of these logs is the one that is told.
use Rattle.std.proofs.Common.{◌≡◌, ◌≢◌, ℕ, ◌<◌, Bool, true, false, cond, not, Option, Some, None, List, [], ◌∷◌, take, Result, Ok, Err, arith, ap, sym, refl, ◌∙◌, subst}
use Rattle.std.specs.Prelude.{IfErr, IfOk, OnOk}
use Rattle.std.proofs.lemmas.Bool.{false≢true}
use Rattle.far_word.specs.declared.refused.Refused.{Refused as Refusal}
use Rattle.far_word.specs.declared.refused.Refused.TheVariants.{Phase as WrongPhase, EpochsSpent}
use Rattle.far_word.specs.declared.sizes.TheConstants.{MOST_LOGS}
use Rattle.far_log.specs.declared.row.LogRow.{LogRow}
use Rattle.far_policy.specs.Choice.{IsChoice}
use Rattle.far_policy.specs.LeastLive.{TakesLeast, least_live}
use Rattle.far_policy.specs.Logs.{AreRows, is_among, logs_of}
use Rattle.far_policy.specs.Scripted.{FollowsScript, scripted}
use Rattle.far_policy.proofs.Choices.{rows_told}
use Rattle.far_policy.proofs.LeastOnes.{least_is_one_lem, least_is_there}
use Rattle.far_policy.proofs.Scripts.{follows_script, script_is_one_lem}
use Rattle.far_events.specs.declared.event.Kind.{Kind}
use Rattle.far_events.specs.declared.event.Kind.TheVariants as kinds
use Rattle.far_events.specs.events.Mark.{is_sealed}
use Rattle.far_events.specs.state.Law.{Law}
use Rattle.far_book.specs.book.Rows.{row_of}
use Rattle.far_evac.specs.declared.answers.EvacFault.{EvacFault}
use Rattle.far_evac.specs.declared.answers.RoundEnd.{RoundEnd}
use Rattle.far_evac.specs.Choosing.{is_spent}
use Rattle.far_evac.specs.Moment.{Moment}
use Rattle.far_evac.specs.MomentLaw.{MomentLaw, is_idle}
use Rattle.far_evac.specs.Refusals.{unselectable}
use Rattle.far_evac.specs.Turns.{IsRound}
use Rattle.far_text.specs.Command.{Choice, By, Script, LeastLive, Oldest, Policy, Evacuator, Select}
use Rattle.far_reply.specs.Reply.{Ended}
use Rattle.far_replay.specs.Rounds.{after_round, choice_causes, chosen_by, given_by, logs_given, round_told, rows_in}
use Rattle.far_replay.specs.Turn.{first_cause, refusal}

abbrev Same : Result (List ℕ) Refusal → Result (List ℕ) Refusal → Type 0
Same a b = a ≡ b

abbrev barring : Bool → Bool → Option Refusal
barring idle spent = cond idle (cond spent (Some EpochsSpent) None) (Some WrongPhase)

-- ---- outcomes that are alike
ok_alike : (a b : List ℕ) → Same (Ok a) (Ok b) → a ≡ b
ok_alike a b e = cc

err_alike : (a b : Refusal) → Same (Err a) (Err b) → a ≡ b
err_alike a b e = cc

never_both : (a : List ℕ) (b : Refusal) → Same (Ok a) (Err b) → ⊥
never_both a b e = absurd cc

-- ---- a round of these logs is what is told of it
abbrev RanSo : Moment → List ℕ → ℕ → RoundEnd → Moment → Type 0
RanSo now logs turns end t = (end ≡ round_told now logs turns) × (t ≡ after_round now logs turns)

ran_so : (now : Moment) (logs : List ℕ) (turns : ℕ) (end : RoundEnd) (t : Moment) → IsRound now logs turns end t → RanSo now logs turns end t
ran_so now [] turns end t ran = ran
ran_so now (l ∷ ls) turns end t ran = ran

-- the logs of least live bytes
abbrev pub Least : Moment → ℕ → List ℕ → Type 0
Least now most logs = (taken : List LogRow) × TakesLeast (rows_in now) most taken × Same (Ok logs) (Ok (logs_of taken))

-- ---- the rows of the sealed logs may be chosen from
sealed_used : (kind : Kind) → is_sealed kind ≡ true → kind ≢ kinds.Free
sealed_used kinds.Sealed h = λ free. absurd cc
sealed_used _ h = absurd (false≢true h)

module _ (now : Moment) (law : Law now.core) (agrees : MomentLaw now) where
  in_range : (l : ℕ) → is_among now.order l ≡ true → l < MOST_LOGS
  in_range l h = omega (arith, law.logs.log_range l (sealed_used (now.core.kind l) (sym (agrees.order l) ∙ h)), law.shape.few_logs)

  rows_are : AreRows (rows_in now)
  rows_are = (rows_told now.order (row_of now.core) (λ l. refl) agrees.order_once in_range).0

  least_are : (most : ℕ) (logs : List ℕ) → Least now most logs → logs_of (least_live (rows_in now) most) ≡ logs
  least_are most logs (taken, takes, is) =
      ok_alike (logs_of (least_live (rows_in now) most)) logs
      (ap (λ (rows : List LogRow). Ok (logs_of rows)) (least_is_one_lem (rows_in now) most (least_live (rows_in now) most) taken (least_is_there (rows_in now) most rows_are) takes) ∙ sym is)

  -- a round of least live bytes begins with these
  pub least_given : (c : Choice) (n most : ℕ) (r : Result (List ℕ) Refusal) → c ≡ By LeastLive → n ≡ most → IfOk r (Least now n) → IfOk r (λ logs. logs_given (given_by c (rows_in now) most) ≡ logs)
  least_given c n most (Ok logs) chosen same gives =
      ap (λ (x : Choice). logs_given (given_by x (rows_in now) most)) chosen ∙ least_are most logs (subst (λ k. Least now k logs) same gives)
  least_given c n most (Err why) chosen same gives = tt

  least_ran : (policy : Policy) (n most turns : ℕ) (end : RoundEnd) (t : Moment) → policy ≡ LeastLive → n ≡ most →
      (logs : List ℕ) × Least now n logs × IsRound now logs turns end t × IsChoice (rows_in now) n logs → RanSo now (logs_of (least_live (rows_in now) most)) turns end t
  least_ran policy n most turns end t chosen same (logs, gives, ran, choice) =
      subst (λ ls. RanSo now ls turns end t) (sym (least_are most logs (subst (λ k. Least now k logs) same gives))) (ran_so now logs turns end t ran)

  pub least_leads : (policy : Policy) (n most turns : ℕ) (r : Result RoundEnd EvacFault) (t : Moment) → policy ≡ LeastLive → n ≡ most →
      IfOk r (λ end. (logs : List ℕ) × Least now n logs × IsRound now logs turns end t × IsChoice (rows_in now) n logs) → OnOk r (t ≡ after_round now (chosen_by policy (rows_in now) most) turns)
  least_leads policy n most turns (Ok end) t chosen same runs =
      (least_ran policy n most turns end t chosen same runs).1 ∙ ap (λ (x : Policy). after_round now (chosen_by x (rows_in now) most) turns) (sym chosen)
  least_leads policy n most turns (Err fault) t chosen same runs = tt

  pub least_ends : (policy : Policy) (n most turns : ℕ) (r : Result RoundEnd EvacFault) (t : Moment) → policy ≡ LeastLive → n ≡ most →
      IfOk r (λ end. (logs : List ℕ) × Least now n logs × IsRound now logs turns end t × IsChoice (rows_in now) n logs) → IfOk r (λ end. Ended end ≡ Ended (round_told now (chosen_by policy (rows_in now) most) turns))
  least_ends policy n most turns (Ok end) t chosen same runs =
      ap Ended ((least_ran policy n most turns end t chosen same runs).0 ∙ ap (λ (x : Policy). round_told now (chosen_by x (rows_in now) most) turns) (sym chosen))
  least_ends policy n most turns (Err fault) t chosen same runs = tt

  -- a round of the oldest logs ends so too
  pub oldest_ends : (policy : Policy) (n most turns : ℕ) (r : Result RoundEnd EvacFault) (t : Moment) → policy ≡ Oldest → n ≡ most →
      IfOk r (λ end. (logs : List ℕ) × Same (Ok logs) (Ok (take n (logs_of (rows_in now)))) × IsRound now logs turns end t × IsChoice (rows_in now) n logs) →
      IfOk r (λ end. Ended end ≡ Ended (round_told now (chosen_by policy (rows_in now) most) turns))
  oldest_ends policy n most turns (Ok end) t chosen same (logs, gives, ran, choice) =
      let is : logs ≡ chosen_by policy (rows_in now) most = ok_alike logs (take n (logs_of (rows_in now))) gives ∙ ap (λ k. take k (logs_of (rows_in now))) same ∙ ap (λ (x : Policy). chosen_by x (rows_in now) most) (sym chosen) in
      ap Ended ((ran_so now logs turns end t ran).0 ∙ ap (λ ls. round_told now ls turns) is)
  oldest_ends policy n most turns (Err fault) t chosen same runs = tt

  -- what is given is what its function says
  pub least_chosen : (policy : Policy) (n most : ℕ) → policy ≡ LeastLive → n ≡ most → (logs : List ℕ) → Least now n logs → logs ≡ chosen_by policy (rows_in now) most
  least_chosen policy n most chosen same logs gives =
      sym (least_are most logs (subst (λ k. Least now k logs) same gives)) ∙ ap (λ (x : Policy). chosen_by x (rows_in now) most) (sym chosen)

  pub oldest_chosen : (policy : Policy) (n most : ℕ) → policy ≡ Oldest → n ≡ most → (logs : List ℕ) → Same (Ok logs) (Ok (take n (logs_of (rows_in now)))) → logs ≡ chosen_by policy (rows_in now) most
  oldest_chosen policy n most chosen same logs gives =
      ok_alike logs (take n (logs_of (rows_in now))) gives ∙ ap (λ k. take k (logs_of (rows_in now))) same ∙ ap (λ (x : Policy). chosen_by x (rows_in now) most) (sym chosen)

-- ---- a script gives what its function says
-- no step is barred, or its first cause is why
unbarred : (idle spent : Bool) (causes : List (Bool × Refusal)) → ((why : Refusal) → barring idle spent ≡ Some why → ⊥) → first_cause causes ≡ None → first_cause ((not idle, WrongPhase) ∷ (spent, EpochsSpent) ∷ causes) ≡ None
unbarred true true causes bars rest = absurd (bars EpochsSpent refl)
unbarred true false causes bars rest = rest
unbarred false spent causes bars rest = absurd (bars WrongPhase refl)

held_by : (idle spent : Bool) (causes : List (Bool × Refusal)) (why : Refusal) → ((x : Refusal) → barring idle spent ≡ Some x → why ≡ x) → (barring idle spent ≡ None → first_cause causes ≡ Some why) →
    first_cause ((not idle, WrongPhase) ∷ (spent, EpochsSpent) ∷ causes) ≡ Some why
held_by true true causes why bars rest = ap Some (sym (bars EpochsSpent refl))
held_by true false causes why bars rest = rest refl
held_by false spent causes why bars rest = ap Some (sym (bars WrongPhase refl))

module _ (now : Moment) (named : List ℕ) (c : Choice) (scripts : c ≡ Script named) (n most : ℕ) (same : n ≡ most) where
  followed : (outcome : Result (List ℕ) Refusal) → FollowsScript (rows_in now) n named outcome → given_by c (rows_in now) most ≡ outcome
  followed outcome follows =
      ap (λ (x : Choice). given_by x (rows_in now) most) scripts
      ∙ script_is_one_lem (rows_in now) most named (scripted (rows_in now) most named) outcome (follows_script (rows_in now) most named) (subst (λ k. FollowsScript (rows_in now) k named outcome) same follows)

  pub script_given : (X : Type 0) (r : Result (List ℕ) Refusal) → IfOk r (λ logs. FollowsScript (rows_in now) n named (Ok logs) × X) → IfOk r (λ logs. logs_given (given_by c (rows_in now) most) ≡ logs)
  script_given X (Ok logs) follows = ap logs_given (followed (Ok logs) follows.0)
  script_given X (Err why) follows = tt

  pub script_allowed : (X Y : Type 0) (r : Result (List ℕ) Refusal) → ((why : Refusal) → unselectable now ≡ Some why → (r ≡ Err why) × X) →
      IfOk r (λ logs. FollowsScript (rows_in now) n named (Ok logs) × Y) → IfOk r (λ _. refusal now (Evacuator (Select c most)) ≡ None)
  script_allowed X Y (Ok logs) barred follows =
      unbarred (is_idle now.phase) (is_spent now.core) (choice_causes (given_by c (rows_in now) most)) (λ why bars. never_both logs why (barred why bars).0)
      (ap (λ (x : Result (List ℕ) Refusal). first_cause (choice_causes x)) (followed (Ok logs) follows.0))
  script_allowed X Y (Err why) barred follows = tt

  pub script_refused : (X Y : Type 0) (r : Result (List ℕ) Refusal) → ((why : Refusal) → unselectable now ≡ Some why → (r ≡ Err why) × X) →
      IfErr r (λ why. unselectable now ≡ None → FollowsScript (rows_in now) n named (Err why) × Y) →
      IfErr r (λ why. refusal now (Evacuator (Select c most)) ≡ Some why)
  script_refused X Y (Ok logs) barred follows = tt
  script_refused X Y (Err why) barred follows =
      held_by (is_idle now.phase) (is_spent now.core) (choice_causes (given_by c (rows_in now) most)) why (λ x bars. err_alike why x (barred x bars).0)
      (λ none. ap (λ (x : Result (List ℕ) Refusal). first_cause (choice_causes x)) (followed (Err why) (follows none).0))
