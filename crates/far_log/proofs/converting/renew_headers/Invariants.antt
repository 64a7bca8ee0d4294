use Rattle.std.proofs.Common.{◌≡◌, ℕ, ◌-◌, ◌≤◌, List, length}
use Rattle.std.specs.Prelude.{slice_index, All}
use Rattle.far_word.specs.declared.version.Version.TheVariants.{First}
use Rattle.far_log.specs.declared.span.Span.{Span}
use Rattle.far_log.specs.Convert.{IsRenewed}
use Rattle.far_log.specs.Walk.{IsWalkBy}
use Rattle.far_log.proofs.converting.renew_headers.Given as goal

-- the spans before this word are renewed, all words from it on are as they were
abbrev pub invariant-loop-at : goal.invariant-loop-at
invariant-loop-at l = record {
  below : l.at ≤ l.tail;
  done : (spans : List Span) × IsWalkBy First (λ i. slice_index l.words i) l.at spans × All (IsRenewed First (λ i. slice_index l.words i) (λ i. slice_index l.out i)) spans;
  left : (i : ℕ) → l.at ≤ i → slice_index l.out i ≡ slice_index l.fn.out i;
  size : length l.out ≡ length l.fn.out;
}

abbrev pub decreases-loop-at : goal.decreases-loop-at
decreases-loop-at l = l.tail - l.at
