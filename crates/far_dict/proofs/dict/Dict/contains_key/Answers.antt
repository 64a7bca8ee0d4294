use Rattle.std.proofs.Common.{◌≡◌, IfOk, sym, ◌∙◌, subst}
use Rattle.far_dict.proofs.Changes.{has_long, has_short, short_honest}
use Rattle.far_dict.proofs.dict.Dict.contains_key.Goals as goal

pub returns-then-has-clause-there : goal.returns-then-has-clause-there
returns-then-has-clause-there g c = λ h. sym (has_long c.self.inside.short c.self.inside.long c.args.self.now c.self.view_is c.args.key.now (sym c.has.ensures ∙ c.if-has.true))

pub returns-clause-there : goal.returns-clause-there
returns-clause-there g c = λ h.
    subst (λ b. IfOk c.contains_key.result (λ there. there ≡ b))
    (sym (has_short c.self.inside.short c.self.inside.long c.args.self.now c.self.view_is c.args.key.now (sym c.has.ensures ∙ c.if-has.false)))
    (c.contains_key.ensures.there (short_honest c.self.inside.short c.self.inside.long c.args.self.now c.self.view_is h))
