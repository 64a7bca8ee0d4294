use Rattle.std.proofs.Common.{◌≡◌, None, length}
use Rattle.far_pool.specs.declared.handle.Handle.{Handle}
use Rattle.far_pool.specs.Pool.{at, generation_in}
use Rattle.far_pool.proofs.worker.Worker.new.Given as goal

abbrev pub invariant-loop-number : goal.invariant-loop-number
invariant-loop-number g l = (length l.worker.shelves ≡ l.number) × ((h : Handle) → at l.worker h ≡ None) × ((h : Handle) → generation_in l.worker h ≡ 0) × (l.worker.honest ≡ l.honest) × (l.worker.logs ≡ l.fn.layout.logs)
