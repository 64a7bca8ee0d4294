-- Rounds that a caller asks for.
use Rattle.std.proofs.Common.{◌≡◌, ℕ, Bool, true, false, cond, sym, ap, ◌∙◌, Some, None, inl, inr, List, Result, Ok, Err}
use Rattle.std.specs.Prelude.{IfOk, IfErr, ◌⊎◌}
use Rattle.far_word.specs.declared.refused.Refused.{Refused}
use Rattle.far_word.specs.declared.refused.Refused.TheVariants as refusals
use Rattle.far_log.specs.declared.row.LogRow.{LogRow}
use Rattle.far_policy.specs.Choice.{IsBadChoice}
use Rattle.far_evac.specs.declared.phase.Phase.TheVariants.{Idle}
use Rattle.far_evac.specs.Choosing.{after_aborting, is_spent}
use Rattle.far_evac.specs.EvacOf.{EvacOf, moment_alone}
use Rattle.far_evac.specs.Moment.{Moment}
use Rattle.far_evac.specs.MomentLaw.{is_idle}
use Rattle.far_evac.specs.Refusals.{unselectable}
use Rattle.far_hand.specs.declared.plain.Plain.{Plain}
use Rattle.far_private.specs.NoRound.{IsNoRound}

spent_by : (b : Bool) (why : Refused) → cond b (Some refusals.EpochsSpent) None ≡ Some why → why ≡ refusals.EpochsSpent
spent_by true why e = let same : Some refusals.EpochsSpent ≡ Some why = e in cc
spent_by false why e = absurd cc

-- where no round stands, only the epochs keep one from beginning
pub spent_is : (m : Moment) (why : Refused) → m.phase ≡ Idle → unselectable m ≡ Some why → why ≡ refusals.EpochsSpent
spent_is m why idle e = spent_by (is_spent m.core) why (sym (ap (λ p. cond (is_idle p) (cond (is_spent m.core) (Some refusals.EpochsSpent) None) (Some refusals.Phase)) idle) ∙ e)

pub no_round : {P : Type 0} (gives : P → List LogRow → ℕ → Result (List ℕ) Refused → P → Type 0) (policy later : P) (rows : List LogRow) (most : ℕ) (why : Refused) (m : Moment) (result : Result (List ℕ) Refused) → m.phase ≡ Idle →
    ((w : Refused) → unselectable m ≡ Some w → (result ≡ Err w) × (later ≡ policy)) → (unselectable m ≡ Some why) ⊎ (IsBadChoice why × gives policy rows most (Err why) later) → IsNoRound gives policy later most why
no_round gives policy later rows most why m result idle barred (inl e) = inl (spent_is m why idle e, (barred why e).1)
no_round gives policy later rows most why m result idle barred (inr h) = inr (h.0, (rows, h.1))

-- none stands once it was given up
pub ended_idle : {D : Type 0} (old new : EvacOf Plain D) (result : Result (Unit {0}) Refused) → IfOk result (λ _. moment_alone new ≡ after_aborting (moment_alone old)) →
    IfErr result (λ why. (why ≡ refusals.Phase) × (old.phase ≡ Idle)) → IfErr result (λ _. new ≡ old) → new.phase ≡ Idle
ended_idle old new (Ok done) e idle same = ap (λ (m : Moment). m.phase) e
ended_idle {D} old new (Err why) e idle same = ap (λ (x : EvacOf Plain D). x.phase) same ∙ idle.1
