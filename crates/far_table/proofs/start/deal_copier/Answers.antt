use Rattle.std.proofs.Common.{◌∙◌, sym, ap, subst, arith}
use Rattle.atomic_table.specs.Seated.{TableId}
use Rattle.far_core.specs.state.CoreState.{core_state}
use Rattle.far_table.specs.Layout.{table_words}
use Rattle.far_table.specs.Stands.{left_of, right_of}
use Rattle.far_table.specs.Tells.{CopierStands, copier_of}
use Rattle.far_table.specs.View.{Copier, View}
use Rattle.far_table.proofs.Dealing.{deals, left_unseated, next_unseated, right_unseated}
use Rattle.far_table.proofs.start.deal_copier.Goals as goal

pub split_seat-copier-requires : goal.split_seat-copier-requires
split_seat-copier-requires g c =
    let d = c.requires.dealer in
    let h = ap (λ t. t.shared.table_id) (c.deref.ensures ∙ c.in_ok-table.ensures) in
    let wide = ap (λ t. t.words) h in
    let words = d.1 in
    (d.0 ∙ sym h, omega arith, deals _ _ _ _ _ c.requires.next (next_unseated (core_state c.args.plan.now.core) (g.D.Device.honest c.args.plan.now.device.value) c.args.number _ c.requires.some))

pub new-requires-clause-table : goal.new-requires-clause-table
new-requires-clause-table g c =
    let d = c.requires.dealer in
    let id = c.split_seat-copier.ensures.3 ∙ d.0 in
    let is = ap (λ z. z.0) c.split_seat-copier.ensures.4 ∙ (ap right_of c.requires.next ∙ right_unseated (core_state c.args.plan.now.core) (g.D.Device.honest c.args.plan.now.device.value) c.args.number _ c.requires.some) in
    (id ∙ sym (ap (λ t. t.shared.table_id) c.in_ok-table.ensures), ap (λ (z : TableId). z.words) id ∙ (d.1 ∙ ap (λ (z : View). table_words (copier_of z).logs) (sym is)))

pub new-requires-clause-copier : goal.new-requires-clause-copier
new-requires-clause-copier g c = let is = ap (λ z. z.0) c.split_seat-copier.ensures.4 ∙ (ap right_of c.requires.next ∙ right_unseated (core_state c.args.plan.now.core) (g.D.Device.honest c.args.plan.now.device.value) c.args.number _ c.requires.some) in
    is ∙ ap Copier (sym (ap copier_of is))

pub new-requires-clause-number : goal.new-requires-clause-number
new-requires-clause-number g c = let is = ap (λ z. z.0) c.split_seat-copier.ensures.4 ∙ (ap right_of c.requires.next ∙ right_unseated (core_state c.args.plan.now.core) (g.D.Device.honest c.args.plan.now.device.value) c.args.number _ c.requires.some) in
    (ap (λ (z : View). (copier_of z).number) is, c.requires.some)

pub new-requires-clause-there : goal.new-requires-clause-there
new-requires-clause-there g c = let is = ap (λ z. z.0) c.split_seat-copier.ensures.4 ∙ (ap right_of c.requires.next ∙ right_unseated (core_state c.args.plan.now.core) (g.D.Device.honest c.args.plan.now.device.value) c.args.number _ c.requires.some) in
    subst CopierStands (sym (ap copier_of is)) c.requires.there

pub returns-clause-left : goal.returns-clause-left
returns-clause-left g c =
    ap (λ z. z.0) c.split_seat-copier.ensures.2 ∙ (ap left_of c.requires.next ∙ left_unseated (core_state c.args.plan.now.core) (g.D.Device.honest c.args.plan.now.device.value) c.args.number _ c.requires.some)

pub returns-clause-dealt : goal.returns-clause-dealt
returns-clause-dealt g c = let is = ap (λ z. z.0) c.split_seat-copier.ensures.4 ∙ (ap right_of c.requires.next ∙ right_unseated (core_state c.args.plan.now.core) (g.D.Device.honest c.args.plan.now.device.value) c.args.number _ c.requires.some) in
    c.new.ensures ∙ (λ i. record { table = (c.split_seat-copier.ensures.3 ∙ c.requires.dealer.0) i; view = ap copier_of is i })
