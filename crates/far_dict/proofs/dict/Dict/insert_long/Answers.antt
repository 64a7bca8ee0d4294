use Rattle.std.proofs.Common.{◌≡◌, true, false, not, None, refl, sym, ◌∙◌, ap, subst}
use Rattle.std.specs.FinMap as map
use Rattle.far_map.specs.Table.{Table}
use Rattle.far_dict.specs.Dictionaries.{AreApart}
use Rattle.far_dict.proofs.Changes.{gone_again, has_long, has_short, long_put, same_tables, short_honest, short_none}
use Rattle.far_dict.proofs.Union.{apart_long, as_it_was, as_removed, not_false, not_true}
use Rattle.far_dict.proofs.dict.Dict.insert_long.Goals as goal

pub invariant_of-self : goal.invariant_of-self
invariant_of-self g c =
    let a = c.self.inside.short in
    let b = c.self.inside.long in
    let key = c.args.key.now in
    let there : map.contains_key b.entries key ≡ true = not_false _ (sym c.in-Ok-false.field-0-test ∙ c.in-Ok-false.ensures.new) in
    apart_long a b a c.put.new.self key c.in-Ok-false.ensures.made.0 refl c.self.invariant (λ h. as_it_was a.entries key None (c.self.invariant h key there)) c.in-Ok-false.ensures.made.1

pub returns-in-Ok-false-clause-made : goal.returns-in-Ok-false-clause-made
returns-in-Ok-false-clause-made g c = λ h.
    let a = c.self.inside.short in
    let b = c.self.inside.long in
    let d = c.args.self.now in
    let key = c.args.key.now in
    let there : map.contains_key b.entries key ≡ true = not_false _ (sym c.in-Ok-false.field-0-test ∙ c.in-Ok-false.ensures.new) in
    long_put a b d c.self.view_is a c.put.new.self key c.args.value.now None refl (λ h. as_it_was a.entries key None (short_none a b d c.self.view_is key c.self.invariant there h)) c.in-Ok-false.ensures.made h

pub returns-in-Ok-false-clause-new : goal.returns-in-Ok-false-clause-new
returns-in-Ok-false-clause-new g c = λ h.
    let a = c.self.inside.short in
    let b = c.self.inside.long in
    let key = c.args.key.now in
    let there : map.contains_key b.entries key ≡ true = not_false _ (sym c.in-Ok-false.field-0-test ∙ c.in-Ok-false.ensures.new) in
    sym (ap not (has_long a b c.args.self.now c.self.view_is key there))

pub invariant_of-self-in-Ok : goal.invariant_of-self-in-Ok
invariant_of-self-in-Ok g c =
    let a = c.self.inside.short in
    let b = c.self.inside.long in
    apart_long a b c.remove.new.self c.put.new.self c.args.key.now c.in-Ok-true.ensures.made.0 c.remove.ensures.honest c.self.invariant
    (λ h. as_removed a.entries c.remove.new.self.entries c.args.key.now (c.in-Ok.ensures.made h)) c.in-Ok-true.ensures.made.1

pub returns-in-Ok-clause-made : goal.returns-in-Ok-clause-made
returns-in-Ok-clause-made g c = λ h.
    let a = c.self.inside.short in
    let b = c.self.inside.long in
    let d = c.args.self.now in
    long_put a b d c.self.view_is c.remove.new.self c.put.new.self c.args.key.now c.args.value.now None refl
    (λ h. as_removed a.entries c.remove.new.self.entries c.args.key.now (c.in-Ok.ensures.made (short_honest a b d c.self.view_is h))) c.in-Ok-true.ensures.made h

pub returns-in-Ok-clause-new : goal.returns-in-Ok-clause-new
returns-in-Ok-clause-new g c = λ h.
    let a = c.self.inside.short in
    let b = c.self.inside.long in
    let d = c.args.self.now in
    let key = c.args.key.now in
    let none : map.contains_key b.entries key ≡ false = not_true _ (sym c.in-Ok-true.field-0-test ∙ c.in-Ok-true.ensures.new) in
    ap not (c.in-Ok.ensures.there (short_honest a b d c.self.view_is h) ∙ sym (has_short a b d c.self.view_is key none))

pub invariant_of-self-in-Err-remove : goal.invariant_of-self-in-Err-remove
invariant_of-self-in-Err-remove g c =
    let a = c.self.inside.short in
    let b = c.self.inside.long in
    let key = c.args.key.now in
    let none : map.contains_key b.entries key ≡ false = not_true _ (sym c.in-Ok-true.field-0-test ∙ c.in-Ok-true.ensures.new) in
    let same = gone_again b c.put.new.self c.take_out.new.self key c.args.value.now none c.in-Ok-true.ensures.honest c.take_out.ensures.honest c.in-Ok-true.ensures.made c.take_out.ensures.made in
    subst (λ (t : Table). AreApart t c.take_out.new.self) (sym c.in-Err-remove.ensures.refused) (subst (λ (t : Table). AreApart a t) (sym same) c.self.invariant)

pub returns-in-Err-remove-clause-refused : goal.returns-in-Err-remove-clause-refused
returns-in-Err-remove-clause-refused g c =
    let a = c.self.inside.short in
    let b = c.self.inside.long in
    let key = c.args.key.now in
    let none : map.contains_key b.entries key ≡ false = not_true _ (sym c.in-Ok-true.field-0-test ∙ c.in-Ok-true.ensures.new) in
    let same = gone_again b c.put.new.self c.take_out.new.self key c.args.value.now none c.in-Ok-true.ensures.honest c.take_out.ensures.honest c.in-Ok-true.ensures.made c.take_out.ensures.made in
    same_tables a b c.args.self.now c.self.view_is c.remove.new.self c.take_out.new.self c.in-Err-remove.ensures.refused same
