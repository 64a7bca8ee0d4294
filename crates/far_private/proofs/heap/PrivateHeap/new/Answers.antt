use Rattle.std.proofs.Common.{◌∙◌, ap, refl}
use Rattle.far_core.specs.state.CoreState.{core_state}
use Rattle.far_core.specs.world.WorldOf.{world_of}
use Rattle.far_private.specs.Objects.{objects_in, state_in}
use Rattle.far_private.proofs.Beginning.{begins_none}
use Rattle.far_private.proofs.HeapTies.{none_at}
use Rattle.far_private.proofs.Placing.{begins_kept}
use Rattle.far_private.proofs.heap.PrivateHeap.new.Goals as goal

pub returns-clause-empty : goal.returns-clause-empty
returns-clause-empty g c = none_at (objects_in c.new-2.result) (begins_none (state_in c.new-2.result) c.args.honest
    (ap (λ b. world_of (core_state b.near.core)) c.new-2.ensures.book ∙ ap (λ n. world_of (core_state n.core)) c.in-Ok-new.ensures.near ∙ c.in-Ok.ensures.world))

pub invariant_of-result : goal.invariant_of-result
invariant_of-result g c = (
  begins_kept (state_in c.new-2.result) c.all.result record { logs = c.args.logs; mutators = 8; epoch = 0 } c.args.honest
      (ap (λ b. core_state b.near.core) c.new-2.ensures.book ∙ ap (λ n. core_state n.core) c.in-Ok-new.ensures.near ∙ c.in-Ok.ensures.opening)
      (ap (λ b. world_of (core_state b.near.core)) c.new-2.ensures.book ∙ ap (λ n. world_of (core_state n.core)) c.in-Ok-new.ensures.near ∙ c.in-Ok.ensures.world) refl c.all.ensures,
  c.new-2.ensures.phase,
)
