use Rattle.std.proofs.Common.{◌≡◌, subst, true, false}
use Rattle.std.specs.Prelude.{IfSome}
use Rattle.far_heap.specs.Mine.{Mine, len_in, uses}
use Rattle.far_heap.proofs.OwnSteps.{if_used, len_unused}
use Rattle.far_heap.proofs.own.Own.used_len.Goals as goal

pub returns-clause-used : goal.returns-clause-used
returns-clause-used g c =
    let s = c.self.inside in
    subst (λ (m : Mine). IfSome c.used_len.result (λ len. (uses m c.args.p ≡ true) × (len ≡ len_in m c.args.p))) c.self.view_is
    (if_used s.seat _ s.number s.rows c.self.invariant.0 c.args.p c.used_len.result c.used_len.ensures.used)

pub returns-clause-unused : goal.returns-clause-unused
returns-clause-unused g c = λ none.
    let s = c.self.inside in
    subst (λ (m : Mine). uses m c.args.p ≡ false) c.self.view_is (len_unused s.seat _ s.number s.rows c.self.invariant.0 c.args.p (c.used_len.ensures.unused none))
