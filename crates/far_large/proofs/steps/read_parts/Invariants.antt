use Rattle.std.proofs.Common.{◌≡◌, ℕ, ◌-◌, ◌≤◌, List, true, length, take, drop}
use Rattle.far_large.specs.Parts.{HasParts}
use Rattle.far_large.proofs.steps.read_parts.Given as goal

abbrev pub invariant-loop-done : goal.invariant-loop-done
invariant-loop-done g l = record {
  same : g.O.Objects.far l.worker ≡ g.O.Objects.far l.fn.worker;
  within : l.done ≤ length l.out;
  long : length l.out ≡ length l.fn.out;
  read : (bytes : List ℕ) → (g.O.Objects.far l.fn.worker).honest ≡ true → HasParts (g.O.Objects.far l.fn.worker) l.numbers bytes → take l.done l.out ≡ take l.done (drop l.from bytes);
}

abbrev pub decreases-loop-done : goal.decreases-loop-done
decreases-loop-done g l = length l.out - l.done
