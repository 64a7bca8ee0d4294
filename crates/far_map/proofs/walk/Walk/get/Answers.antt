use Rattle.std.proofs.Common.{refl, ap, ◌∙◌}
use Rattle.far_map.specs.Entries.{decoded}
use Rattle.far_map.specs.Plain.{plain}
use Rattle.far_map.proofs.Told.{isnt_there, has_value}
use Rattle.far_map.proofs.Walking.{same_table, table_in}
use Rattle.far_map.proofs.walk.Walk.get.Goals as goal

pub returns-in_default-clause-got : goal.returns-in_default-clause-got
returns-in_default-clause-got g c = λ h.
    let p = plain (g.O.Objects.far c.self.inside.parts.worker) c.self.inside.parts.near in
    rw (isnt_there p (table_in c.args.self.now) c.args.key.now c.in-Ok.found (same_table p c.self.inside.place c.args.self.now c.self.view_is) c.in_default.is c.in-Ok.ensures.none h) refl

pub returns-clause-got : goal.returns-clause-got
returns-clause-got g c = λ h.
    let p = plain (g.O.Objects.far c.self.inside.parts.worker) c.self.inside.parts.near in
    let there = has_value p (table_in c.args.self.now) c.args.key.now c.find.new.parts.buffer c.in-Ok.found c.in-Some.at c.tag_of_key-tag.result
    (same_table p c.self.inside.place c.args.self.now c.self.view_is) c.self.invariant c.in-Some.is c.in-Ok.ensures.stands c.in-Ok.ensures.is c.in-Ok.ensures.read h in
    rw there.1 (refl, c.in-Ok-value_to.ensures (c.args.key.now, there.0) (ap decoded c.part.ensures ∙ there.2))
