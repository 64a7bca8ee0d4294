use Rattle.std.proofs.Common.{◌∙◌, sym, ap, subst, arith}
use Rattle.std.proofs.lemmas.Result.{IfOk-weaker}
use Rattle.far_core.specs.state.CoreState.{core_state}
use Rattle.far_table.specs.Stands.{left_of, right_of}
use Rattle.far_table.specs.Tells.{HasState, owner_of}
use Rattle.far_table.proofs.Dealing.{deals, left_waits, next_waits, own_honest, right_waits}
use Rattle.far_table.proofs.start.deal_one.Goals as goal

pub split_seat-dealt-requires : goal.split_seat-dealt-requires
split_seat-dealt-requires g c =
    let d = c.requires.dealer in
    let h = ap (λ t. t.shared.table_id) (c.deref.ensures ∙ c.in_ok-table.ensures) in
    let wide = ap (λ t. t.words) h in
    let words = d.1 in
    (d.0 ∙ sym h, omega arith, deals _ _ _ _ _ c.requires.next (next_waits (core_state c.args.plan.now.core) (g.D.Device.honest c.args.plan.now.device.value) c.args.number _ c.requires.some))

pub new-requires-clause-owner : goal.new-requires-clause-owner
new-requires-clause-owner g c = let s = core_state c.args.plan.now.core in let h = g.D.Device.honest c.args.plan.now.device.value in
    own_honest s h c.args.number _ (ap (λ z. z.0) c.split_seat-dealt.ensures.4 ∙ (ap right_of c.requires.next ∙ right_waits s h c.args.number _ c.requires.some))

pub new-requires-clause-there : goal.new-requires-clause-there
new-requires-clause-there g c = let s = core_state c.args.plan.now.core in let h = g.D.Device.honest c.args.plan.now.device.value in
    let is = ap (λ z. z.0) c.split_seat-dealt.ensures.4 ∙ (ap right_of c.requires.next ∙ right_waits s h c.args.number _ c.requires.some) in
    subst HasState (sym (ap owner_of is)) c.requires.there

pub returns-clause-left : goal.returns-clause-left
returns-clause-left g c = let s = core_state c.args.plan.now.core in let h = g.D.Device.honest c.args.plan.now.device.value in
    IfOk-weaker c.new.result _ _ (λ _ _. ap (λ z. z.0) c.split_seat-dealt.ensures.2 ∙ (ap left_of c.requires.next ∙ left_waits s h c.args.number _ c.requires.some)) c.new.ensures

pub returns-clause-dealt : goal.returns-clause-dealt
returns-clause-dealt g c = let s = core_state c.args.plan.now.core in let h = g.D.Device.honest c.args.plan.now.device.value in
    let is = ap (λ z. z.0) c.split_seat-dealt.ensures.4 ∙ (ap right_of c.requires.next ∙ right_waits s h c.args.number _ c.requires.some) in
    IfOk-weaker c.new.result _ _ (λ _ e. e ∙ (λ i. record { table = (c.split_seat-dealt.ensures.3 ∙ c.requires.dealer.0) i; view = ap owner_of is i })) c.new.ensures
