use Rattle.std.proofs.Common.{◌≡◌, ◌+◌, ◌++◌, ◌≤◌, Ok, map, vec_len, vec_capacity}
use Rattle.far_split.proofs.run.parts_of.Given as goal

abbrev pub invariant-loop : goal.invariant-loop
invariant-loop l = record {
  parts : l.fn.ends.items ≡ map Ok l.parts.items ++ l.ends.items;
  sum : vec_len l.ends + l.counter ≡ l.many;
  many : vec_len l.parts ≡ l.counter;
  buffer : l.many ≤ vec_capacity l.parts;
}
