use Rattle.std.proofs.Common.{◌≡◌, ◌+◌, ◌*◌, ◌≤◌, length}
use Rattle.far_pool.specs.Pool.{count_below}
use Rattle.far_pool.specs.Statistics.{IsWorst}
use Rattle.far_pool.proofs.worker.Worker.statistics.Given as goal

abbrev pub invariant-loop-number : goal.invariant-loop-number
invariant-loop-number g l = record {
  sum : l.all.near + l.all.far ≡ count_below l.self.shelves l.number;
  few : l.all.near + l.all.far ≤ l.number * 2048;
  shelves : length l.self.shelves ≤ 2097152;
  heaps : l.all.heaps ≡ l.number;
  worst : IsWorst l.number l.all.worst l.all.worst_faults;
}
