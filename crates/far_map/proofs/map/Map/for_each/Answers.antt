use Rattle.std.specs.Fn.{CalledAtTwo}
use Rattle.far_map.proofs.Listing.{to_last}
use Rattle.far_map.proofs.map.Map.for_each.Goals as goal

pub returns-clause-called : goal.returns-clause-called
returns-clause-called g c = λ h.
    to_last (λ p e q. CalledAtTwo g.F.FnMut p e.0 e.1 tt q) c.for_each_with.result c.args.self.now c.args.visit c.for_each_with.new.visit (c.for_each_with.ensures.called h)
