use Rattle.std.proofs.Common.{sym, ◌∙◌, ap}
use Rattle.std.specs.FinMap as map
use Rattle.far_dict.proofs.Rows.{row_inserted, row_value}
use Rattle.far_dict.proofs.near.Near.insert.Goals as goal

pub returns-in-Ok-clause-was : goal.returns-in-Ok-clause-was
returns-in-Ok-clause-was c = c.in-Ok.ensures.old ∙ sym (row_value (λ k. k.items) c.self.inside.table.entries c.args.key.items) ∙ ap (λ m. map.get m c.args.key.items) c.self.view_is

pub returns-in-Ok-clause-made : goal.returns-in-Ok-clause-made
returns-in-Ok-clause-made c =
    row_inserted (λ k. k.items) c.args.key.items c.self.inside.table.entries c.insert.new.self.entries c.args.large c.in-Ok.ensures.updates.1 c.in-Ok.ensures.updates.3
    ∙ ap (λ m. map.insert m c.args.key.items c.args.large) c.self.view_is
