use Rattle.std.proofs.Common.{is_some, sym, ◌∙◌, ap}
use Rattle.std.specs.FinMap as map
use Rattle.far_dict.proofs.Rows.{row_value}
use Rattle.far_dict.proofs.near.Near.has.Goals as goal

pub returns : goal.returns
returns c = c.contains_key.ensures ∙ ap is_some (sym (row_value (λ k. k.items) c.self.inside.table.entries c.args.key.now) ∙ ap (λ m. map.get m c.args.key.now) c.self.view_is)
