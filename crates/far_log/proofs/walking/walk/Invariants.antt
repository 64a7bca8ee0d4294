use Rattle.std.proofs.Common.{◌≡◌, ◌*◌, ◌-◌, ◌/◌, ◌≤◌, vec_len, vec_capacity}
use Rattle.std.specs.Prelude.{slice_index}
use Rattle.far_log.specs.Walk.{IsImage}
use Rattle.far_log.proofs.walking.walk.Given as goal

abbrev pub invariant-loop-at : goal.invariant-loop-at
invariant-loop-at l = record {
  room : vec_capacity l.spans ≡ l.tail / 2;
  count : 2 * vec_len l.spans ≤ l.at;
  below : l.at ≤ l.tail;
  walk : IsImage (λ i. slice_index l.words i) l.at l.spans.items;
}

abbrev pub decreases-loop-at : goal.decreases-loop-at
decreases-loop-at l = l.tail - l.at
