use Rattle.std.proofs.Common.{◌≡◌, ◌-◌, ◌∙◌, ap, arith}
use Rattle.std.specs.Arc.{arc_value}
use Rattle.far_word.specs.declared.sizes.TheConstants.{MOST_COPIERS}
use Rattle.far_core.specs.state.CoreState.{core_state}
use Rattle.far_table.specs.View.{Book}
use Rattle.far_table.specs.First.{first_copier, unseated}
use Rattle.far_table.specs.Stands.{CopierSeats}
use Rattle.far_table.proofs.Tables.{filled_more}
use Rattle.far_table.proofs.start.deal_copiers.Goals as goal

pub loop-number-init : goal.loop-number-init
loop-number-init g c = let w = c.in_ok-copiers.ensures in (c.requires.dealer, c.requires.first, w.items, w.len, w.capacity)

pub deal_copier-requires-clause-dealer : goal.deal_copier-requires-clause-dealer
deal_copier-requires-clause-dealer g c = c.loop-number.invariant.0

pub deal_copier-requires-clause-next : goal.deal_copier-requires-clause-next
deal_copier-requires-clause-next g c = c.loop-number.invariant.1

pub deal_copier-requires-clause-there : goal.deal_copier-requires-clause-there
deal_copier-requires-clause-there g c = c.requires.there c.loop-number.number c.loop-number-test.true

pub push_reserved-requires : goal.push_reserved-requires
push_reserved-requires g c = let i = c.loop-number.invariant in let l = c.loop-number-test.true in let a = i.3 in let b = i.4 in omega arith

pub loop-number-preserved : goal.loop-number-preserved
loop-number-preserved g c =
    let i = c.loop-number.invariant in
    let o = c.in_ok-copier.ensures in
    let p = c.push_reserved.ensures in
    let len = p.len in let cap = p.capacity in let a = i.3 in let b = i.4 in
    (o.dealer, o.left, p.items ∙ filled_more _ c.loop-number.number _ _ i.2 o.dealt, omega arith, omega arith)

pub returns-clause-dealer : goal.returns-clause-dealer
returns-clause-dealer g c = c.loop-number.invariant.0

pub returns-clause-left : goal.returns-clause-left
returns-clause-left g c =
    let a = c.loop-number-test.false in let b = c.loop-number.auto.number-end in
    let all : c.loop-number.number ≡ MOST_COPIERS = omega arith in
    let none : MOST_COPIERS - c.loop-number.number ≡ 0 = omega arith in
    c.loop-number.invariant.1 ∙ (λ i. Book (unseated (core_state c.args.plan.now.core) (g.D.Device.honest c.args.plan.now.device.value) (all i) (none i)))

pub returns-clause-dealt : goal.returns-clause-dealt
returns-clause-dealt g c =
    let a = c.loop-number-test.false in let b = c.loop-number.auto.number-end in
    let all : c.loop-number.number ≡ MOST_COPIERS = omega arith in
    c.loop-number.invariant.2 ∙ ap (CopierSeats (arc_value c.args.table.now).shared.table_id (first_copier (core_state c.args.plan.now.core))) all
