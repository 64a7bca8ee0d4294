use Rattle.std.proofs.Common.{ℕ, refl, subst}
use Rattle.far_core.specs.declared.machine.Core.{Core}
use Rattle.far_core.specs.laws.Agreement.{ObjectAgrees}
use Rattle.far_core.specs.laws.Worlds.{ObjectsStand}
use Rattle.far_core.specs.state.CoreState.{core_state}
use Rattle.far_core.specs.world.WorldOf.{world_of}
use Rattle.tests_far_evac.proofs.KeptWords.{store_puts}
use Rattle.tests_far_evac.proofs.caller.store.Goals as goal

pub returns-clause-has : goal.returns-clause-has
returns-clause-has c =
    let stand = subst (λ (x : Core). ObjectsStand (world_of (core_state x))) c.core_of.ensures c.objects_have_one_place.ensures.stand in
    let agrees = subst (λ (x : Core). (q : ℕ) → ObjectAgrees (core_state x) q) c.core_of.ensures c.objects_have_one_place.ensures.agree in
    store_puts (core_state c.args.evac.now.book.near.core) (core_state c.owner.new.self.book.near.core) c.args.owner c.args.pointer c.args.index c.args.word c.owner.result
    c.ranges.word.fits c.requires.legal (c.owner.ensures.legal refl c.requires.legal).1 c.owner.ensures.world stand agrees c.packed_bytes.ensures.written
