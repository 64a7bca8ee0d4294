use Rattle.std.proofs.Common.{◌≡◌, ℕ, take}
use Rattle.far_events.specs.events.Advance.{is_among}
use Rattle.far_evac.specs.RoundSteps.{among}
use Rattle.far_evac.proofs.evac.marking.set_of.Given as goal

abbrev pub invariant-loop-log : goal.invariant-loop-log
invariant-loop-log l = (k : ℕ) → is_among l.logs k ≡ among (take l.log-index l.chosen) k
