-- The worked calls go by what the evacuator's contracts say.
use Rattle.std.proofs.Common.{◌≡◌, ◌≢◌, ℕ, Bool, true, false, cond, not, Some, None, List, [], ◌∷◌, ap, sym, refl, ◌∙◌}
use Rattle.std.proofs.lemmas.Bool.{true≢false}
use Rattle.far_word.specs.declared.refused.Refused.{Refused as Refusal}
use Rattle.far_word.specs.declared.refused.Refused.TheVariants.{Phase as WrongPhase, EpochsSpent}
use Rattle.far_evac.specs.declared.answers.RoundEnd.{RoundEnd}
use Rattle.far_evac.specs.declared.phase.Phase.{Phase}
use Rattle.far_evac.specs.declared.phase.Phase.TheVariants.{Idle, Marking, Waiting, Evacuating}
use Rattle.far_evac.specs.Choosing.{after_selecting, is_spent}
use Rattle.far_evac.specs.Moment.{Moment}
use Rattle.far_evac.specs.MomentLaw.{is_idle}
use Rattle.far_evac.specs.Turns.{IsRound, turns_made}
use Rattle.far_evac.specs.worked.AsCalled.{AsCalled, BeginsSo, GoesByPhase}
use Rattle.far_evac.specs.worked.Calls.{Answer, Ends, Refused, is_evacuating, is_marking, is_waiting, only_in, round_of}

-- ---- what bars a round
bars_of : (m : Moment) (turn : Moment × Answer) (idle spent : Bool) (why : Refusal) → cond idle (cond spent (Some EpochsSpent) None) (Some WrongPhase) ≡ Some why →
    only_in idle m (cond spent (m, Refused EpochsSpent) turn) ≡ (m, Refused why)
bars_of m turn true true why e = let same : EpochsSpent ≡ why = cc in ap (λ w. (m, Refused w)) same
bars_of m turn true false why e = absurd cc
bars_of m turn false spent why e = let same : WrongPhase ≡ why = cc in ap (λ w. (m, Refused w)) same

goes_of : (m : Moment) (turn : Moment × Answer) (idle spent : Bool) → cond idle (cond spent (Some EpochsSpent) None) (Some WrongPhase) ≡ None → only_in idle m (cond spent (m, Refused EpochsSpent) turn) ≡ turn
goes_of m turn true false e = refl
goes_of m turn _ _ e = absurd cc

round_is : (m : Moment) (turns : ℕ) (logs : List ℕ) (end : RoundEnd) (t : Moment) → IsRound m logs turns end t → round_of m turns logs ≡ (t, Ends end)
round_is m turns [] end t (ends, is) = ap (λ (e : RoundEnd). (m, Ends e)) (sym ends) ∙ ap (λ (u : Moment). (u, Ends end)) (sym is)
round_is m turns (l ∷ ls) end t (ends, is) =
    ap (λ (e : RoundEnd). ((turns_made (after_selecting m (l ∷ ls)) turns).moment, Ends e)) (sym ends) ∙ ap (λ (u : Moment). (u, Ends end)) (sym is)

begins_so : (m : Moment) (most turns : ℕ) → BeginsSo m most turns
begins_so m most turns = record {
  barred = λ why e. (bars_of m _ (is_idle m.phase) (is_spent m.core) why e, bars_of m _ (is_idle m.phase) (is_spent m.core) why e, bars_of m _ (is_idle m.phase) (is_spent m.core) why e);
  selects = λ e. goes_of m _ (is_idle m.phase) (is_spent m.core) e;
  emptiest = λ e. goes_of m _ (is_idle m.phase) (is_spent m.core) e;
  makes = λ end t e is. goes_of m _ (is_idle m.phase) (is_spent m.core) e ∙ round_is m turns _ end t is;
}

-- ---- phases
in_phase : (m : Moment) (turn : Moment × Answer) (b : Bool) → b ≡ true → only_in b m turn ≡ turn
in_phase m turn true e = refl
in_phase m turn false e = absurd (true≢false (sym e))

off_phase : (m : Moment) (turn : Moment × Answer) (b : Bool) → b ≡ false → only_in b m turn ≡ (m, Refused WrongPhase)
off_phase m turn true e = absurd (true≢false e)
off_phase m turn false e = refl

not_marking : (phase : Phase) → phase ≢ Marking → is_marking phase ≡ false
not_marking Marking other = absurd (other refl)
not_marking _ other = refl

not_waiting : (phase : Phase) → phase ≢ Waiting → is_waiting phase ≡ false
not_waiting Waiting other = absurd (other refl)
not_waiting _ other = refl

not_evacuating : (phase : Phase) → phase ≢ Evacuating → is_evacuating phase ≡ false
not_evacuating Evacuating other = absurd (other refl)
not_evacuating _ other = refl

runs : (phase : Phase) → phase ≢ Idle → not (is_idle phase) ≡ true
runs Idle other = absurd (other refl)
runs _ other = refl

goes_by_phase : (m : Moment) (n : ℕ) → GoesByPhase m n
goes_by_phase m n = record {
  marks = λ e. in_phase m _ (is_marking m.phase) (ap is_marking e);
  marks_not = λ other. off_phase m _ (is_marking m.phase) (not_marking m.phase other);
  waits = λ e. in_phase m _ (is_waiting m.phase) (ap is_waiting e);
  waits_not = λ other. off_phase m _ (is_waiting m.phase) (not_waiting m.phase other);
  leaves = λ e. in_phase m _ (is_evacuating m.phase) (ap is_evacuating e);
  leaves_not = λ other. off_phase m _ (is_evacuating m.phase) (not_evacuating m.phase other);
  gives_up = λ other. in_phase m _ (not (is_idle m.phase)) (runs m.phase other);
  gives_up_not = λ e. off_phase m _ (not (is_idle m.phase)) (ap (λ phase. not (is_idle phase)) e);
}

pub as_called : AsCalled
as_called m most turns n = (begins_so m most turns, goes_by_phase m n)
