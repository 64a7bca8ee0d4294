use Rattle.std.proofs.Common.{◌≡◌, arith}
use Rattle.std.specs.Prelude.{IsSome}
use Rattle.far_objects.specs.Far.{Drops}
use Rattle.far_private.specs.Heap.{object, without}
use Rattle.far_private.specs.Numbered.{far_of}
use Rattle.far_private.proofs.ByNumber.{drops_at, on_ok}
use Rattle.far_private.proofs.objects.PrivateHeapObjects.drop_object.Goals as goal

pub returns-clause-dropped : goal.returns-clause-dropped
returns-clause-dropped g c =
    let same : c.in-Ok.pointer ≡ c.args.number = omega (arith, c.in-Ok.ensures) in
    let w = c.args.self.now in
    let v = c.drop_object.new.self in
    on_ok c.drop_object.result (IsSome (object w c.in-Ok.pointer) × (v ≡ without c.in-Ok.pointer w)) (Drops c.args.number (far_of w) (far_of v))
    (λ d. drops_at w c.keeps_law.ensures.law c.in-Ok.pointer c.args.number same v d.0 d.1) c.drop_object.ensures.dropped
