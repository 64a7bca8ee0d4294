use Rattle.std.proofs.Common.{sym, ◌∙◌, ap}
use Rattle.std.specs.FinMap as map
use Rattle.far_dict.proofs.Rows.{row_removed, row_value}
use Rattle.far_dict.proofs.near.Near.remove.Goals as goal

pub returns-clause-was : goal.returns-clause-was
returns-clause-was c = c.remove.ensures.value ∙ sym (row_value (λ k. k.items) c.self.inside.table.entries c.args.key.now) ∙ ap (λ m. map.get m c.args.key.now) c.self.view_is

pub returns-clause-made : goal.returns-clause-made
returns-clause-made c =
    row_removed (λ k. k.items) c.args.key.now c.self.inside.table.entries c.remove.new.self.entries c.remove.ensures.updates.1 c.remove.ensures.updates.3
    ∙ ap (λ m. map.remove m c.args.key.now) c.self.view_is
