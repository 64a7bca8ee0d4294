use Rattle.std.proofs.Common.{ap, ◌∙◌}
use Rattle.far_map.specs.Plain.{plain}
use Rattle.far_map.specs.Walks.{Walked}
use Rattle.far_map.proofs.Listing.{all_of}
use Rattle.far_map.proofs.Walking.{same_table, table_in}
use Rattle.far_map.proofs.walk.Walk.begin.Goals as goal

pub returns-clause-all : goal.returns-clause-all
returns-clause-all g c = λ h.
    let p = plain (g.O.Objects.far c.self.inside.parts.worker) c.self.inside.parts.near in
    all_of p (table_in c.args.self.now) (same_table p c.self.inside.place c.args.self.now c.self.view_is) c.self.invariant (ap (λ (w : Walked). w.honest) c.self.view_is ∙ h)
