use Rattle.std.specs.Fn.{CalledAtTwo}
use Rattle.far_map.specs.Plain.{plain}
use Rattle.far_map.proofs.Listing.{all_called}
use Rattle.far_map.proofs.map.Map.for_each_with.Goals as goal

pub returns-clause-called : goal.returns-clause-called
returns-clause-called g c = λ h.
    all_called (λ p e q. CalledAtTwo g.F.FnMut p e.0 e.1 tt q) c.visit_slots.result (plain (g.O.Objects.far c.self.inside.parts.worker) c.self.inside.parts.near) c.args.self.now c.args.visit.now c.visit_slots.new.visit
    c.self.view_is c.self.invariant h c.visit_slots.ensures.called
