use Rattle.std.proofs.Common.{◌-◌, ◌≤◌, List}
use Rattle.std.specs.Prelude.{slice_index}
use Rattle.far_log.specs.declared.span.Span.{Span}
use Rattle.far_log.specs.Walk.{IsImage}
use Rattle.far_log.proofs.converting.check.Given as goal

-- the words before this one are spans
abbrev pub invariant-loop-at : goal.invariant-loop-at
invariant-loop-at l = record {
  below : l.at ≤ l.tail;
  walk : (spans : List Span) × IsImage (λ i. slice_index l.words i) l.at spans;
}

abbrev pub decreases-loop-at : goal.decreases-loop-at
decreases-loop-at l = l.tail - l.at
