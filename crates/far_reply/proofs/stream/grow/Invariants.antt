use Rattle.std.proofs.Common.{◌≡◌, ◌≤◌, ◌-◌, take, vec_len, vec_capacity}
use Rattle.far_reply.proofs.stream.grow.Given as goal

-- what was there is the front of what is there now
abbrev pub invariant-loop-buffer : goal.invariant-loop-buffer
invariant-loop-buffer l = record {
  taken : l.to ≤ vec_capacity l.buffer;
  buffer : vec_capacity l.initial.buffer ≤ vec_capacity l.buffer;
  more : vec_len l.initial.buffer ≤ vec_len l.buffer;
  most : vec_len l.buffer ≤ l.to;
  kept : take (vec_len l.initial.buffer) l.buffer.items ≡ l.initial.buffer.items;
}

abbrev pub decreases-loop-buffer : goal.decreases-loop-buffer
decreases-loop-buffer l = l.to - vec_len l.buffer
