use Rattle.std.proofs.Common.{◌≡◌, ◌≤◌, subst, true, false}
use Rattle.std.specs.Prelude.{IfSome}
use Rattle.far_word.specs.declared.sizes.TheConstants.{LONGEST}
use Rattle.far_heap.specs.Mine.{Mine, len_in, views}
use Rattle.far_heap.proofs.OwnSteps.{if_viewed, view_free}
use Rattle.far_heap.proofs.own.Own.viewed_len.Goals as goal

pub returns-clause-viewed : goal.returns-clause-viewed
returns-clause-viewed g c =
    let s = c.self.inside in
    subst (λ (m : Mine). IfSome c.viewed_len.result (λ len. (views m c.args.p ≡ true) × (len ≡ len_in m c.args.p) × (len ≤ LONGEST))) c.self.view_is
    (if_viewed s.seat _ s.number s.rows c.self.invariant.0 c.args.p c.viewed_len.result c.viewed_len.ensures.viewed)

pub returns-clause-other : goal.returns-clause-other
returns-clause-other g c = λ none.
    let s = c.self.inside in
    subst (λ (m : Mine). views m c.args.p ≡ false) c.self.view_is (view_free s.seat _ s.number s.rows c.self.invariant.0 c.args.p (c.viewed_len.ensures.other none))
