use Rattle.std.proofs.Common.{◌≡◌, ◌+◌, ◌*◌, ◌≤◌, filter, length, is_some}
use Rattle.std.specs.Prelude.{map, sum}
use Rattle.std.specs.List.{range_with_len}
use Rattle.far_private.specs.FarBytes.{far_len, lies_far}
use Rattle.far_private.specs.Objects.{objects_of, state_in}
use Rattle.far_private.proofs.counting.count_objects.Given as goal

abbrev pub invariant-loop-pointer : goal.invariant-loop-pointer
invariant-loop-pointer g l = record {
  all : l.near + l.far ≡ length (filter (λ p. is_some ((objects_of (state_in l.evac)).object p)) (range_with_len 0 l.pointer));
  far : l.far ≡ length (filter (lies_far (state_in l.evac)) (range_with_len 0 l.pointer));
  bytes : l.far_bytes ≡ sum (map (far_len (state_in l.evac)) (range_with_len 0 l.pointer));
  most : l.near + l.far ≤ l.pointer;
  most_bytes : l.far_bytes ≤ 4088 * l.pointer;
}
