use Rattle.std.specs.Fn.{CalledAtTwo}
use Rattle.far_dict.proofs.Changes.{long_honest, short_honest}
use Rattle.far_dict.proofs.Told.{both_told}
use Rattle.far_dict.proofs.dict.Dict.for_each_with.Goals as goal

pub returns-in-Ok-clause-called : goal.returns-in-Ok-clause-called
returns-in-Ok-clause-called g c = λ h.
    let a = c.self.inside.short in
    let b = c.self.inside.long in
    let d = c.args.self.now in
    both_told (λ p k v q. CalledAtTwo g.F.FnMut p k v tt q) c.visit.result a b d c.args.visit.now c.for_each_with.new.visit c.visit.new.visit c.self.view_is c.self.invariant h
    (c.in-Ok.ensures.called (short_honest a b d c.self.view_is h)) (c.visit.ensures.called (long_honest a b d c.self.view_is h))
