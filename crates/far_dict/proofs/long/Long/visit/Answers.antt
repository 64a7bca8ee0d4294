use Rattle.std.specs.Fn.{CalledAtTwo}
use Rattle.far_dict.proofs.Told.{long_told}
use Rattle.far_dict.proofs.long.Long.visit.Goals as goal

pub returns-clause-called : goal.returns-clause-called
returns-clause-called g c = λ h.
    long_told (λ p k v q. CalledAtTwo g.F.FnMut p k v tt q) c.visit_long.result (g.O.Objects.far c.self.inside.parts.worker) c.self.inside.parts.near c.args.self.now c.args.visit.now c.visit_long.new.visit
    c.self.view_is h c.visit_long.ensures.called
