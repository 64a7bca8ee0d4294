use Rattle.std.proofs.Common.{ap, ◌∙◌}
use Rattle.far_map.specs.Plain.{plain}
use Rattle.far_map.specs.Table.{Table}
use Rattle.far_map.proofs.Listing.{all_of}
use Rattle.far_map.proofs.map.Map.into_walk.Goals as goal

pub returns-clause-all : goal.returns-clause-all
returns-clause-all g c = λ h.
    all_of (plain (g.O.Objects.far c.self.inside.parts.worker) c.self.inside.parts.near) c.args.self c.self.view_is c.self.invariant (ap (λ (t : Table). t.honest) c.self.view_is ∙ h)
