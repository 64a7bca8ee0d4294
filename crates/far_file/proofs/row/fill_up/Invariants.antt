use Rattle.std.proofs.Common.{◌≡◌}
use Rattle.std.specs.Vec.{vec_len}
use Rattle.far_file.specs.Row.{KeepsEntries}
use Rattle.far_file.proofs.row.fill_up.Given as goal

abbrev pub invariant-loop : goal.invariant-loop
invariant-loop g l = record {
  long : vec_len l.row ≡ l.counter;
  same : KeepsEntries l.fn.row.items l.row.items;
}
