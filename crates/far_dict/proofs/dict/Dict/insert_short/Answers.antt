use Rattle.std.proofs.Common.{Some}
use Rattle.far_dict.proofs.Changes.{is_new, short_honest, short_put}
use Rattle.far_dict.proofs.Union.{apart_short, as_inserted}
use Rattle.far_dict.proofs.dict.Dict.insert_short.Goals as goal

pub invariant_of-self : goal.invariant_of-self
invariant_of-self g c =
    let a = c.self.inside.short in
    let b = c.self.inside.long in
    apart_short a b c.insert.new.self c.take_out-had.new.self c.args.key.now (Some c.args.value.now) c.in-Ok.ensures.honest c.self.invariant
    (λ h. as_inserted a.entries c.insert.new.self.entries c.args.key.now c.args.value.now (c.in-Ok.ensures.made h)) c.take_out-had.ensures.made

pub returns-in-Ok-clause-made : goal.returns-in-Ok-clause-made
returns-in-Ok-clause-made g c = λ h.
    let a = c.self.inside.short in
    let b = c.self.inside.long in
    short_put a b c.args.self.now c.self.view_is c.insert.new.self c.take_out-had.new.self c.args.key.now c.args.value.now
    (λ h. c.in-Ok.ensures.made (short_honest a b c.args.self.now c.self.view_is h)) c.take_out-had.ensures.made h

pub returns-in-Ok-clause-new : goal.returns-in-Ok-clause-new
returns-in-Ok-clause-new g c = λ h.
    let a = c.self.inside.short in
    let b = c.self.inside.long in
    is_new a b c.args.self.now c.self.view_is c.args.key.now c.in-Ok.new c.take_out-had.result c.is_first.result
    (λ h. c.in-Ok.ensures.new (short_honest a b c.args.self.now c.self.view_is h)) c.take_out-had.ensures.there c.is_first.ensures h
