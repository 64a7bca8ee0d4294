use Rattle.std.proofs.Common.{◌≡◌, ℕ, List, ◌≤◌, ◌-◌, true, length, take}
use Rattle.far_large.specs.Parts.{Holds}
use Rattle.far_seen.proofs.read.holds_long.Given as goal

abbrev pub invariant-loop-done : goal.invariant-loop-done
invariant-loop-done g l = record {
  far : g.O.Objects.far l.worker ≡ g.O.Objects.far l.fn.worker;
  within : l.done ≤ length l.line;
  same : (xs : List ℕ) → (g.O.Objects.far l.fn.worker).honest ≡ true → Holds (g.O.Objects.far l.fn.worker) l.large xs → take l.done xs ≡ take l.done l.line;
}

abbrev pub decreases-loop-done : goal.decreases-loop-done
decreases-loop-done g l = length l.line - l.done
