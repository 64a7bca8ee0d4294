use Rattle.std.proofs.Common.{◌∙◌, ◌<◌, arith, ap, subst, sym}
use Rattle.far_events.specs.state.State.{State}
use Rattle.tests_far_book.proofs.Offers.{may_begin}
use Rattle.tests_far_book.proofs.tests.jobs.all_have_evac.Goals as goal

pub returns-clause-chosen : goal.returns-clause-chosen
returns-clause-chosen g c =
    let s = g.N.Near.view c.loop-pointer.book.near in
    let kept = c.loop-pointer.invariant.kept in
    λ _. may_begin s c.keeps_law.ensures.law (ap (λ (x : State). x.kind 0) kept ∙ c.requires.sealed) (subst (λ n. 0 < n) (sym (ap (λ (x : State). x.logs) kept)) c.requires.log)
    (ap (λ (x : State). x.mutators) kept ∙ c.requires.one) (λ p lt. c.loop-pointer.invariant.seen p (omega (arith, lt, c.loop-pointer-test.false, c.loop-pointer.auto)))
