use Rattle.std.proofs.Common.{◌≡◌, IfOk, refl, sym, ◌∙◌, subst}
use Rattle.std.specs.FinMap as map
use Rattle.far_dict.specs.Dictionaries.{both, dictionary_of}
use Rattle.far_dict.proofs.Changes.{apart_either, gone_none, has_long, has_short, long_gone, on_err, on_ok, same_tables, short_gone, short_honest}
use Rattle.far_dict.proofs.Union.{apart_short, as_it_was}
use Rattle.far_dict.proofs.dict.Dict.remove.Goals as goal

pub invariant_of-self : goal.invariant_of-self
invariant_of-self g c =
    let a = c.self.inside.short in
    let b = c.self.inside.long in
    let key = c.args.key.now in
    apart_short a b a c.take_out.new.self key (map.get a.entries key) refl c.self.invariant (λ h. as_it_was a.entries key (map.get a.entries key) refl) c.take_out.ensures.made

pub returns-then-take_out-clause-made : goal.returns-then-take_out-clause-made
returns-then-take_out-clause-made g c = λ h.
    let a = c.self.inside.short in
    let b = c.self.inside.long in
    long_gone a b c.args.self.now c.self.view_is a c.take_out.new.self c.args.key.now c.self.invariant (sym c.take_out.ensures.there ∙ c.if-take_out.true) refl c.take_out.ensures.made h

pub returns-then-take_out-clause-there : goal.returns-then-take_out-clause-there
returns-then-take_out-clause-there g c = λ h.
    sym (has_long c.self.inside.short c.self.inside.long c.args.self.now c.self.view_is c.args.key.now (sym c.take_out.ensures.there ∙ c.if-take_out.true))

pub invariant_of-self-2 : goal.invariant_of-self-2
invariant_of-self-2 g c =
    let a = c.self.inside.short in
    let b = c.self.inside.long in
    apart_either c.remove.result a b c.remove.new.self c.take_out.new.self c.args.key.now c.self.invariant c.remove.ensures.honest c.remove.ensures.made c.remove.ensures.refused c.take_out.ensures.made

pub returns-clause-made : goal.returns-clause-made
returns-clause-made g c = λ h.
    let a = c.self.inside.short in
    let b = c.self.inside.long in
    let d = c.args.self.now in
    on_ok c.remove.result (c.remove.new.self.entries ≡ map.remove a.entries c.args.key.now) (both c.remove.new.self.entries c.take_out.new.self.entries ≡ map.remove d.entries c.args.key.now)
    (λ is. short_gone a b d c.self.view_is c.remove.new.self c.take_out.new.self c.args.key.now (λ h. is) c.take_out.ensures.made h) (c.remove.ensures.made (short_honest a b d c.self.view_is h))

pub returns-clause-there : goal.returns-clause-there
returns-clause-there g c = λ h.
    let a = c.self.inside.short in
    let b = c.self.inside.long in
    let d = c.args.self.now in
    subst (λ b. IfOk c.remove.result (λ there. there ≡ b)) (sym (has_short a b d c.self.view_is c.args.key.now (sym c.take_out.ensures.there ∙ c.if-take_out.false)))
    (c.remove.ensures.there (short_honest a b d c.self.view_is h))

pub returns-clause-refused : goal.returns-clause-refused
returns-clause-refused g c =
    let a = c.self.inside.short in
    let b = c.self.inside.long in
    let d = c.args.self.now in
    on_err c.remove.result (c.remove.new.self ≡ a) (dictionary_of c.remove.new.self c.take_out.new.self ≡ d)
    (λ is. same_tables a b d c.self.view_is c.remove.new.self c.take_out.new.self is
    (gone_none b c.take_out.new.self c.args.key.now (sym c.take_out.ensures.there ∙ c.if-take_out.false) c.take_out.ensures.honest c.take_out.ensures.made)) c.remove.ensures.refused
