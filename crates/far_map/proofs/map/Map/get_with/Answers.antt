use Rattle.std.proofs.Common.{refl, ap, ◌∙◌}
use Rattle.far_map.specs.Entries.{decoded}
use Rattle.far_map.specs.Plain.{plain}
use Rattle.far_map.proofs.Told.{isnt_there, has_value}
use Rattle.far_map.proofs.map.Map.get_with.Goals as goal

pub returns-in_default-clause-got : goal.returns-in_default-clause-got
returns-in_default-clause-got g c = λ h.
    rw (isnt_there (plain (g.O.Objects.far c.self.inside.parts.worker) c.self.inside.parts.near) c.args.self.now c.args.key.now c.in-Ok.found c.self.view_is c.in_default.is c.in-Ok.ensures.none h) refl

pub returns-clause-got : goal.returns-clause-got
returns-clause-got g c = λ h.
    let there = has_value (plain (g.O.Objects.far c.self.inside.parts.worker) c.self.inside.parts.near) c.args.self.now c.args.key.now c.find.new.parts.buffer c.in-Ok.found c.in-Some.at c.tag_of_key-tag.result
    c.self.view_is c.self.invariant c.in-Some.is c.in-Ok.ensures.stands c.in-Ok.ensures.is c.in-Ok.ensures.read h in
    rw there.1 (c.look.result, refl, (c.value_of.result, c.look.ensures, c.value_of.ensures (c.args.key.now, there.0) (ap decoded c.part.ensures ∙ there.2)))
