use Rattle.std.proofs.Common.{rules, refl, sym, ◌∙◌, subst}
use Rattle.std.specs.FinMap as map
use Rattle.far_map.proofs.Told.{by_value}
use Rattle.far_dict.specs.Dictionaries.{IsHonest}
use Rattle.far_dict.proofs.dict.Dict.update.Goals as goal

pub returns-in-Ok-clause-changed : goal.returns-in-Ok-clause-changed
returns-in-Ok-clause-changed g c = λ h.
    let same = c.in-Ok-true.ensures.same in
    let made = c.in-Ok.ensures.made (subst IsHonest (sym same) h) ∙ (λ i. map.insert (same i).entries c.args.key.now (c.as_slice.ensures.value i)) in
    by_value (map.get c.args.self.now.entries c.args.key.now) c.in-Ok-true.field-0 _ c.get.new.out.items _ c.in-Ok-true.field-0-test (c.in-Ok-true.ensures.got h) (λ v e. (refl, c.get.new.out, e, search rules, made))
