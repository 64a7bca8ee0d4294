-- Turns of a round one after the other, and their sum.
use Rattle.std.proofs.Common.{◌≡◌, ◌≢◌, ◌⊎◌, inr, ℕ, ◌+◌, Bool, true, false, Option, List, [], ◌∷◌, length, Result, Ok, Err, refl, sym, ap, ◌∙◌, arith}
use Rattle.std.specs.Prelude.{◌==◌, IfOk, IfErr}
use Rattle.std.proofs.lemmas.Bool.{eqb-true, false≢true}
use Rattle.far_device.specs.declared.fault.DeviceFault.{DeviceFault}
use Rattle.far_evac.specs.declared.phase.Phase.{Phase}
use Rattle.far_evac.specs.declared.phase.Phase.TheVariants.{Evacuating, Idle, Marking, Waiting}
use Rattle.far_evac.specs.declared.answers.EvacFault.{EvacFault}
use Rattle.far_evac.specs.declared.answers.Progress.{Progress}
use Rattle.far_evac.specs.declared.answers.RoundEnd.{RoundEnd}
use Rattle.far_evac.specs.declared.answers.RoundEnd.TheVariants.{Nothing}
use Rattle.far_evac.specs.AnyTurns.{sum_of}
use Rattle.far_evac.specs.Moment.{Tally, plus, progress_of, tally_of}
use Rattle.far_evac.specs.MomentLaw.{is_idle}
use Rattle.far_heap.specs.HeapId.{HeapId}
use Rattle.far_heap.specs.Rounds.{EndsAfter, EndsTurns, StopsTurns, TurnsMade, told, told_of}

told_on : (a b : ℕ) → told (told a + b) ≡ told (a + b)
told_on a b = omega arith

-- what was told of a sum, and more
pub sum_on : (a b : Tally) → told_of (plus (told_of a) b) ≡ told_of (plus a b)
sum_on a b = λ i. record { moved = told_on a.moved b.moved i; far = told_on a.far b.far i; dropped = told_on a.dropped b.dropped i; freed = told_on a.freed b.freed i }

pub sum_more : (total sum : Progress) (tallies : List Tally) (tally : Tally) (over : Bool) → total ≡ progress_of (told_of (sum_of tallies)) false →
    sum ≡ progress_of (told_of (plus (tally_of total) tally)) over → sum ≡ progress_of (told_of (plus (sum_of tallies) tally)) over
sum_more total sum tallies tally over so_far is = is ∙ ap (λ (t : Tally). progress_of t over) (ap (λ (p : Progress). told_of (plus (tally_of p) tally)) so_far ∙ sum_on (sum_of tallies) tally)

pub idle_is : (phase : Phase) → is_idle phase ≡ true → phase ≡ Idle
idle_is Idle e = refl
idle_is Marking e = absurd (false≢true e)
idle_is Waiting e = absurd (false≢true e)
idle_is Evacuating e = absurd (false≢true e)

pub not_idle : (phase : Phase) → is_idle phase ≡ false → phase ≢ Idle
not_idle phase e is = false≢true (sym e ∙ ap is_idle is)

-- over the device's writes, the keys that it lets go of, and what it holds
module _ {D : Type 0} (writes : D → ℕ → List ℕ → Result (Unit {0}) DeviceFault → D → Type 0) (lets_go : D → ℕ → D → Type 0) (contents : D → ℕ → Option (List ℕ)) (heap : HeapId) where
  pub turns_run : (logs : List ℕ) (tallies : List Tally) (phase : Phase) → TurnsMade writes lets_go contents heap logs tallies false phase → is_idle phase ≡ false
  turns_run logs [] phase made = ap is_idle made.1
  turns_run logs (t ∷ ts) phase made = made.1.turns.ends

  -- ---- a round of the logs that were chosen
  pub ends_nothing : (logs : List ℕ) (turns : ℕ) → (length logs == 0) ≡ true → EndsAfter writes lets_go contents heap logs turns Nothing
  ends_nothing [] turns none = refl
  ends_nothing (l ∷ ls) turns none = absurd (omega (arith, eqb-true (length (l ∷ ls)) 0 none))

  module _ (logs : List ℕ) (turns : ℕ) (result : Result RoundEnd EvacFault) where
    ends_some : (end : RoundEnd) (ls : List ℕ) → (length ls == 0) ≡ false → EndsTurns writes lets_go contents heap ls turns end → EndsAfter writes lets_go contents heap ls turns end
    ends_some end [] some ends = absurd (false≢true (sym some))
    ends_some end (l ∷ ls) some ends = ends

    some_chosen : (ls : List ℕ) → (length ls == 0) ≡ false → ls ≢ []
    some_chosen ls some none = false≢true (sym some ∙ ap (λ (xs : List ℕ). length xs == 0) none)

    ends_by : (C : List ℕ → Type 0) → C logs → (length logs == 0) ≡ false → (r : Result RoundEnd EvacFault) → IfOk r (EndsTurns writes lets_go contents heap logs turns) →
        IfOk r (λ end. (ls : List ℕ) × C ls × EndsAfter writes lets_go contents heap ls turns end)
    ends_by C chose some (Ok end) ends = (logs, chose, ends_some end logs some ends)
    ends_by C chose some (Err fault) ends = tt

    pub ends_turns : (C : List ℕ → Type 0) → C logs → (length logs == 0) ≡ false → IfOk result (EndsTurns writes lets_go contents heap logs turns) →
        IfOk result (λ end. (ls : List ℕ) × C ls × EndsAfter writes lets_go contents heap ls turns end)
    ends_turns C chose some ends = ends_by C chose some result ends

    stops_by : (N : EvacFault → Type 0) (C : List ℕ → Type 0) → C logs → (length logs == 0) ≡ false → (r : Result RoundEnd EvacFault) → IfErr r (StopsTurns writes lets_go contents heap logs turns) →
        IfErr r (λ fault. N fault ⊎ ((ls : List ℕ) × C ls × (ls ≢ []) × StopsTurns writes lets_go contents heap ls turns fault))
    stops_by N C chose some (Ok end) stops = tt
    stops_by N C chose some (Err fault) stops = inr (logs, chose, some_chosen logs some, stops)

    pub stops_turns : (N : EvacFault → Type 0) (C : List ℕ → Type 0) → C logs → (length logs == 0) ≡ false → IfErr result (StopsTurns writes lets_go contents heap logs turns) →
        IfErr result (λ fault. N fault ⊎ ((ls : List ℕ) × C ls × (ls ≢ []) × StopsTurns writes lets_go contents heap ls turns fault))
    stops_turns N C chose some stops = stops_by N C chose some result stops
