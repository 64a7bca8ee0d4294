use Rattle.std.proofs.Common.{◌≡◌, None, sym, subst}
use Rattle.far_pool.specs.Pool.{at}
use Rattle.far_pool.proofs.Workers.{none_at, pool}
use Rattle.far_pool.proofs.worker.Worker.without_heaps.Goals as goal

pub returns-clause-empty : goal.returns-clause-empty
returns-clause-empty g c = λ h. subst (λ xs. at (pool c.args.honest c.args.logs xs) h ≡ None) (sym c.new.ensures.items) (none_at c.args.honest c.args.logs h)
