use Rattle.std.proofs.Common.{◌≡◌, ◌+◌, ◌≤◌, filter, length}
use Rattle.std.specs.List.{range_with_len}
use Rattle.far_word.specs.Pointer.{read_of}
use Rattle.far_replay.specs.Audit.{lies_near, lies_far}
use Rattle.far_replay.specs.Moment.{state_in}
use Rattle.far_replay.proofs.inquiries.count_objects.Given as goal

abbrev pub invariant-loop-pointer : goal.invariant-loop-pointer
invariant-loop-pointer l = record {
  near : l.near ≡ length (filter (λ p. lies_near (read_of ((state_in l.evac).cell p))) (range_with_len 0 l.pointer));
  all : l.all ≡ l.near + length (filter (λ p. lies_far (read_of ((state_in l.evac).cell p))) (range_with_len 0 l.pointer));
  all_most : l.all ≤ l.pointer;
}
