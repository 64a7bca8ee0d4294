use Rattle.std.proofs.Common.{◌≡◌, IfOk, sym, ap, ◌∙◌, subst}
use Rattle.std.specs.FinMap as map
use Rattle.far_dict.specs.Walks.{Walked}
use Rattle.far_dict.proofs.Union.{in_long, in_short}
use Rattle.far_dict.proofs.walk.Walk.contains_key.Goals as goal

pub returns-then-has-clause-there : goal.returns-then-has-clause-there
returns-then-has-clause-there g c = λ h.
    let a = c.self.inside.short in
    let b = c.self.inside.long in
    sym (sym (ap (λ (w : Walked). map.contains_key w.entries c.args.key.now) c.self.view_is) ∙ in_long a.entries b.entries c.args.key.now (sym c.has.ensures ∙ c.if-has.true))

pub returns-clause-there : goal.returns-clause-there
returns-clause-there g c = λ h.
    let a = c.self.inside.short in
    let b = c.self.inside.long in
    subst (λ t. IfOk c.contains_key.result (λ there. there ≡ t))
    (sym (sym (ap (λ (w : Walked). map.contains_key w.entries c.args.key.now) c.self.view_is) ∙ in_short a.entries b.entries c.args.key.now (sym c.has.ensures ∙ c.if-has.false)))
    (c.contains_key.ensures.there (ap (λ (w : Walked). w.honest) c.self.view_is ∙ h.short))
