use Rattle.std.proofs.Common.{◌≡◌, Some, None, MatchOption, IfOk, sym, ◌∙◌, subst}
use Rattle.std.specs.Fn.{FnOnceReturnsAt}
use Rattle.far_dict.proofs.Changes.{long_honest, short_honest, value_long, value_short}
use Rattle.far_dict.proofs.dict.Dict.get_with.Goals as goal

pub returns-then-has-clause-got : goal.returns-then-has-clause-got
returns-then-has-clause-got g c = λ h.
    let a = c.self.inside.short in
    let b = c.self.inside.long in
    let d = c.args.self.now in
    subst (λ o. IfOk c.look_at.result (λ r. MatchOption o (r ≡ None) (λ value. (x : _) × (r ≡ Some x) × FnOnceReturnsAt g.F.FnOnce c.args.look value x)))
    (value_long a b d c.self.view_is c.args.key.now c.self.invariant (sym c.has.ensures ∙ c.if-has.true) h) (c.look_at.ensures.got (long_honest a b d c.self.view_is h))

pub returns-clause-got : goal.returns-clause-got
returns-clause-got g c = λ h.
    let a = c.self.inside.short in
    let b = c.self.inside.long in
    let d = c.args.self.now in
    subst (λ o. IfOk c.get_with.result (λ r. MatchOption o (r ≡ None) (λ value. (x : _) × (r ≡ Some x) × FnOnceReturnsAt g.F.FnOnce c.args.look value x)))
    (value_short a b d c.self.view_is c.args.key.now (sym c.has.ensures ∙ c.if-has.false)) (c.get_with.ensures.got (short_honest a b d c.self.view_is h))
