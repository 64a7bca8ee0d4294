use Rattle.std.proofs.Common.{◌<◌, ◌≤◌, ◌∙◌, ap, length, subst, sym}
use Rattle.far_pool.specs.Pool.{AreAlike, Pool, Same}
use Rattle.far_pool.specs.declared.worker.TheConstants.{MOST_HEAPS}
use Rattle.far_pool.proofs.Growing.{alike_more, few_more, same_more}
use Rattle.far_pool.proofs.Workers.{pool}
use Rattle.far_pool.proofs.worker.Worker.add_shelf.Goals as goal

pub invariant_of-self-in-Ok-push : goal.invariant_of-self-in-Ok-push
invariant_of-self-in-Ok-push g c =
    let b = c.self.inside.parts.honest in
    let l = c.self.inside.parts.logs in
    let shelves = c.self.inside.parts.shelves.items in
    let n = c.args.shelf in
    let is = c.in-Ok-push.ensures.items in
    let honest = c.requires.honest ∙ sym (ap (λ (x : Pool). x.honest) c.self.view_is) in
    let logs = c.requires.logs ∙ sym (ap (λ (x : Pool). x.logs) c.self.view_is) in
    let few = subst (λ (x : Pool). length x.shelves < MOST_HEAPS) (sym c.self.view_is) c.requires.few in (
      subst (λ xs. AreAlike b l xs) (sym is) (alike_more b l shelves n c.self.invariant.0 record { honest = honest; logs = logs }),
      c.self.invariant.1,
      subst (λ xs. length xs ≤ MOST_HEAPS) (sym is) (few_more b l shelves n few),
      c.self.invariant.3,
    )

pub returns-clause-same : goal.returns-clause-same
returns-clause-same g c =
    let b = c.self.inside.parts.honest in
    let l = c.self.inside.parts.logs in
    let shelves = c.self.inside.parts.shelves.items in
    subst (λ xs. Same c.args.self.now (pool b l xs)) (sym c.in-Ok-push.ensures.items) (same_more b l shelves c.args.shelf c.requires.empty c.requires.zero c.args.self.now c.self.view_is)

pub invariant_of-self-in_default-push : goal.invariant_of-self-in_default-push
invariant_of-self-in_default-push g c =
    let is = c.in_default-push.ensures.items in (
      subst (λ xs. AreAlike c.self.inside.parts.honest c.self.inside.parts.logs xs) (sym is) c.self.invariant.0,
      c.self.invariant.1,
      subst (λ xs. length xs ≤ MOST_HEAPS) (sym is) c.self.invariant.2,
      c.self.invariant.3,
    )
