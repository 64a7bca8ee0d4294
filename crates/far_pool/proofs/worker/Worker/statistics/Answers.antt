use Rattle.std.proofs.Common.{◌≡◌, ◌+◌, length, ◌≤◌, subst, sym, ap, ◌∙◌, arith}
use Rattle.far_pool.specs.Pool.{Pool, count_below, count_on, no_shelf}
use Rattle.std.specs.Prelude.{slice_index_or}
use Rattle.far_pool.proofs.Counting.{count_more, count_none}
use Rattle.far_pool.proofs.Workers.{shelf_at}
use Rattle.far_pool.proofs.Worst.{worst_more, worst_none}
use Rattle.far_pool.proofs.worker.Worker.statistics.Goals as goal

pub loop-number-init : goal.loop-number-init
loop-number-init g c = record {
  sum = c.none-all.ensures.objects ∙ sym (count_none c.args.self.now.shelves);
  few = omega (arith, c.none-all.ensures.objects);
  shelves = subst (λ (x : Pool). length x.shelves ≤ 2097152) c.self.view_is c.self.invariant.2;
  heaps = c.none-all.ensures.heaps;
  worst = worst_none _ _ c.none-all.ensures.worst c.none-all.ensures.faults;
}

pub loop-number-preserved : goal.loop-number-preserved
loop-number-preserved g c =
    let n = c.loop-number.number in
    let shelves = c.args.self.now.shelves in
    let is = shelf_at c.self.inside.parts.honest c.self.inside.parts.logs c.self.inside.parts.shelves.items c.args.self.now n c.index.result.now c.self.view_is (omega arith) c.index.ensures in
    let more : c.statistics.result.near + c.statistics.result.far ≡ count_on (slice_index_or shelves n no_shelf) = c.statistics.ensures.count ∙ ap count_on (sym is) in
    let i = c.loop-number.invariant in
    let a = c.add.ensures in
    let old = c.loop-number.all in
    let new = c.add.new.self in
    let all : c.add.new.self.near + c.add.new.self.far ≡ count_below shelves n + count_on (slice_index_or shelves n no_shelf) = omega (arith, a.near, a.far, i.sum, more) in
    record {
      sum = all ∙ sym (count_more shelves n);
      few = omega (arith, a.near, a.far, i.few, c.statistics.ensures.few);
      shelves = i.shelves;
      heaps = omega (arith, a.heaps, i.heaps, i.shelves);
      worst = worst_more n old.heaps old.worst_faults c.statistics.result.device_faults old.worst new.worst new.worst_faults i.heaps i.worst a.worst a.worst_faults;
    }
