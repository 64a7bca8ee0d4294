use Rattle.std.proofs.Common.{◌≡◌, ◌≤◌, ◌-◌, vec_len, vec_capacity}
use Rattle.std.specs.Prelude.{replicate}
use Rattle.far_events.proofs.memory.words.zero_bytes.Given as goal

-- so far there are zeros alone
abbrev pub invariant-loop-bytes : goal.invariant-loop-bytes
invariant-loop-bytes l = record {
  room : l.len ≤ vec_capacity l.bytes;
  most : vec_len l.bytes ≤ l.len;
  zeros : l.bytes.items ≡ replicate (vec_len l.bytes) 0;
}

abbrev pub decreases-loop-bytes : goal.decreases-loop-bytes
decreases-loop-bytes l = l.len - vec_len l.bytes
