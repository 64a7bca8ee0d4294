use Rattle.std.proofs.Common.{Err, ap}
use Rattle.far_split.proofs.Answered.{made, unmade}
use Rattle.far_split.proofs.slot.make_open.Goals as goal

pub returns-in-Ok-alloc : goal.returns-in-Ok-alloc
returns-in-Ok-alloc g c =
    let is = c.in-Ok-alloc.ensures.made in
    made c.args.scope.now c.keeps_law.ensures.law c.args.len c.args.structure c.in-Ok.sizes c.in-Ok.ensures.sizes c.in-Ok-alloc.pointer c.alloc.new.self is.1 is.2 is.3 c.in-Ok-alloc.ensures.had

pub returns-in-Err-alloc : goal.returns-in-Err-alloc
returns-in-Err-alloc g c =
    let is = c.in-Err-alloc.ensures in
    unmade c.args.scope.now c.keeps_law.ensures.law c.args.len c.args.structure c.in-Ok.sizes c.in-Ok.ensures.sizes c.in-Err-alloc.why c.alloc.new.self is.refused.0 is.refused.1
    (λ e. is.none (ap Err e)) (λ e. is.full (ap Err e)) (λ e. is.all (ap Err e)) (λ e. is.left (ap Err e))
