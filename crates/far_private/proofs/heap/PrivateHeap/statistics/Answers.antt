use Rattle.std.proofs.Common.{◌≡◌, ℕ, ◌+◌, ◌*◌, ap, ◌∙◌, arith}
use Rattle.far_private.specs.Heap.{Heap}
use Rattle.far_private.specs.Objects.{objects_in, state_in}
use Rattle.far_private.proofs.Calling.{counted_so}
use Rattle.far_private.proofs.FarCounts.{far_so}
use Rattle.far_private.proofs.Lawful.{ends}
use Rattle.far_private.proofs.LiveBytes.{live_so}
use Rattle.far_private.proofs.heap.PrivateHeap.statistics.Goals as goal

pub returns-clause-objects : goal.returns-clause-objects
returns-clause-objects g c = counted_so (objects_in c.self.inside.evac) c.args.self.now _ c.self.view_is c.tell.ensures.objects

pub returns-clause-far : goal.returns-clause-far
returns-clause-far g c =
    let s = state_in c.self.inside.evac in
    let law = c.self.inside.evac.book.near.core.law in
    let past = ends s law c.self.invariant.0.settled in
    far_so s c.args.self.now c.self.view_is past _ _ _ c.tell.ensures.far c.tell.ensures.far_bytes (live_so s law c.self.invariant.0.settled c.args.self.now c.self.view_is past _ c.tell.ensures.live)

pub returns-clause-bytes : goal.returns-clause-bytes
returns-clause-bytes g c = c.tell.ensures.bytes ∙ ap (λ (h : Heap). 4096 * h.logs) c.self.view_is

pub returns-clause-rounds : goal.returns-clause-rounds
returns-clause-rounds g c = omega (arith, c.tell.ensures.rounds, c.self.inside.evac.book.near.core.law.scopes.epoch_below)
