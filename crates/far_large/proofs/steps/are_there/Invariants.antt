use Rattle.std.proofs.Common.{◌≡◌, ℕ, ◌<◌, Some}
use Rattle.far_large.specs.Parts.{number_of, part_len}
use Rattle.far_large.proofs.steps.are_there.Given as goal

abbrev pub invariant-loop-i : goal.invariant-loop-i
invariant-loop-i g l = (k : ℕ) → k < l.i → (g.O.Objects.far l.worker).sizes (number_of l.numbers k) ≡ Some (part_len l.len k)
