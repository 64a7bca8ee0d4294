use Rattle.std.proofs.Common.{◌≡◌, ◌+◌, ◌≤◌, vec_len, vec_capacity}
use Rattle.far_split.proofs.Beginning.{JobsBefore, later}
use Rattle.far_split.proofs.run.jobs_of.Given as goal

abbrev pub invariant-loop-number : goal.invariant-loop-number
invariant-loop-number g l = record {
  left : l.mutators.items ≡ later g.K.HeapName.heap l.number;
  jobs : JobsBefore g.K.HeapName.heap l.number l.jobs.items;
  sum : vec_len l.mutators + l.number ≡ l.many;
  many : l.many ≡ g.K.HeapName.heap.mutators;
  buffer : l.many + 1 ≤ vec_capacity l.jobs;
}
