use Rattle.std.proofs.Common.{◌≡◌, ◌+◌}
use Rattle.std.specs.Vec.{vec_capacity, vec_len}
use Rattle.far_array.specs.Listed.{values_in}
use Rattle.far_array.proofs.reads.push_values.Given as goal

abbrev pub invariant-loop-k : goal.invariant-loop-k
invariant-loop-k g l = record {
  put : l.out.items ≡ values_in g.T.Record.decoded g.T.Record.SIZE l.k l.bytes;
  len : vec_len l.out ≡ vec_len l.fn.out + l.k;
  room : vec_capacity l.out ≡ vec_capacity l.fn.out;
}
