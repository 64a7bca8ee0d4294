use Rattle.std.proofs.Common.{sym, ap}
use Rattle.std.specs.Prelude.{is_some}
use Rattle.far_map.specs.Plain.{plain}
use Rattle.far_map.proofs.Told.{isnt_there, is_found}
use Rattle.far_map.proofs.Walking.{same_table, table_in}
use Rattle.far_map.proofs.walk.Walk.contains_key.Goals as goal

pub returns-in_default-clause-there : goal.returns-in_default-clause-there
returns-in_default-clause-there g c = λ h.
    let p = plain (g.O.Objects.far c.self.inside.parts.worker) c.self.inside.parts.near in
    sym (ap is_some (isnt_there p (table_in c.args.self.now) c.args.key.now c.in-Ok.found (same_table p c.self.inside.place c.args.self.now c.self.view_is) c.in_default.is c.in-Ok.ensures.none h))

pub returns-clause-there : goal.returns-clause-there
returns-clause-there g c = λ h.
    let p = plain (g.O.Objects.far c.self.inside.parts.worker) c.self.inside.parts.near in
    sym (ap is_some (is_found p (table_in c.args.self.now) c.args.key.now c.in-Ok.found c.in-Some._at c.tag_of_key-tag.result
    (same_table p c.self.inside.place c.args.self.now c.self.view_is) c.self.invariant c.in-Some.is c.in-Ok.ensures.stands c.in-Ok.ensures.is h).1)
