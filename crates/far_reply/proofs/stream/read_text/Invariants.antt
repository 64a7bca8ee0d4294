use Rattle.std.proofs.Common.{◌-◌, ◌+◌, ◌≤◌, take, vec_len, vec_capacity}
use Rattle.std.specs.Io.KnownBytes.{Consumes}
use Rattle.far_reply.proofs.stream.read_text.Given as goal

-- what was read so far is the front of what the reader had
abbrev pub invariant-loop-len : goal.invariant-loop-len
invariant-loop-len g l = record {
  taken : l.most ≤ vec_capacity l.buffer;
  fits : l.len ≤ vec_len l.buffer;
  few : vec_len l.buffer ≤ l.most;
  near : vec_len l.buffer ≤ l.len + 65536;
  bytes : Consumes (g.R.Read.remaining l.initial.reader) (g.R.Read.remaining l.reader) (take l.len l.buffer.items);
}

abbrev pub decreases-loop-len : goal.decreases-loop-len
decreases-loop-len g l = l.most - l.len
