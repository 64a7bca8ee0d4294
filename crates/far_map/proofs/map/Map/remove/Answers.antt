use Rattle.std.proofs.Common.{sym, ap, ◌∙◌}
use Rattle.std.specs.Prelude.{is_some}
use Rattle.far_map.specs.Plain.{plain, table_of}
use Rattle.far_map.specs.Table.{Table}
use Rattle.far_map.proofs.Told.{isnt_there, is_found, remove_absent}
use Rattle.far_map.proofs.map.Map.remove.Goals as goal

pub returns-in-None-clause-made : goal.returns-in-None-clause-made
returns-in-None-clause-made g c = λ h.
    (λ i. (table_of (plain (c.find.ensures.far i) (c.find.ensures.near i))).entries) ∙ ap (λ (t : Table). t.entries) c.self.view_is
    ∙ remove_absent c.args.self.now.entries c.args.key.now
    (isnt_there (plain (g.O.Objects.far c.self.inside.parts.worker) c.self.inside.parts.near) c.args.self.now c.args.key.now c.in-Ok.found c.self.view_is c.in-None.is c.in-Ok.ensures.none h)

pub returns-in-None-clause-there : goal.returns-in-None-clause-there
returns-in-None-clause-there g c = λ h.
    sym (ap is_some (isnt_there (plain (g.O.Objects.far c.self.inside.parts.worker) c.self.inside.parts.near) c.args.self.now c.args.key.now c.in-Ok.found c.self.view_is c.in-None.is c.in-Ok.ensures.none h))

pub returns-in-Some-clause-there : goal.returns-in-Some-clause-there
returns-in-Some-clause-there g c = λ h.
    sym (ap is_some (is_found (plain (g.O.Objects.far c.self.inside.parts.worker) c.self.inside.parts.near) c.args.self.now c.args.key.now c.in-Ok.found c.in-Some.at c.tag_of_key-tag.result
    c.self.view_is c.self.invariant c.in-Some.is c.in-Ok.ensures.stands c.in-Ok.ensures.is h).1)
