use Rattle.std.proofs.Common.{sym, ap}
use Rattle.std.specs.Prelude.{is_some}
use Rattle.far_map.specs.Plain.{plain}
use Rattle.far_map.proofs.Told.{isnt_there, is_found}
use Rattle.far_map.proofs.map.Map.contains_key.Goals as goal

pub returns-in_default-clause-there : goal.returns-in_default-clause-there
returns-in_default-clause-there g c = λ h.
    sym (ap is_some (isnt_there (plain (g.O.Objects.far c.self.inside.parts.worker) c.self.inside.parts.near) c.args.self.now c.args.key.now c.in-Ok.found c.self.view_is c.in_default.is c.in-Ok.ensures.none h))

pub returns-clause-there : goal.returns-clause-there
returns-clause-there g c = λ h.
    sym (ap is_some (is_found (plain (g.O.Objects.far c.self.inside.parts.worker) c.self.inside.parts.near) c.args.self.now c.args.key.now c.in-Ok.found c.in-Some._at c.tag_of_key-tag.result
    c.self.view_is c.self.invariant c.in-Some.is c.in-Ok.ensures.stands c.in-Ok.ensures.is h).1)
