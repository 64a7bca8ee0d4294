use Rattle.std.proofs.Common.{sym, ◌∙◌, ap}
use Rattle.std.specs.FinMap as map
use Rattle.far_dict.proofs.Rows.{row_count}
use Rattle.far_dict.proofs.near.Near.len.Goals as goal

pub returns : goal.returns
returns c = c.len.ensures.len ∙ sym (row_count (λ k. k.items) c.self.inside.table.entries c.len.ensures.ordered) ∙ ap map.len c.self.view_is
