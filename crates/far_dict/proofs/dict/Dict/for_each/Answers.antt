use Rattle.std.specs.Fn.{CalledAtTwo}
use Rattle.far_dict.proofs.Told.{to_last}
use Rattle.far_dict.proofs.dict.Dict.for_each.Goals as goal

pub returns-clause-called : goal.returns-clause-called
returns-clause-called g c = λ h.
    to_last (λ p k v q. CalledAtTwo g.F.FnMut p k v tt q) c.for_each_with.result c.args.self.now c.args.visit c.for_each_with.new.visit (c.for_each_with.ensures.called h)
