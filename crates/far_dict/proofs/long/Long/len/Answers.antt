use Rattle.std.proofs.Common.{sym, ◌∙◌, ap}
use Rattle.std.specs.FinMap as map
use Rattle.far_map.specs.Table.{Table}
use Rattle.far_dict.proofs.Tables.{entries_count}
use Rattle.far_dict.proofs.long.Long.len.Goals as goal

pub returns : goal.returns
returns g c =
    c.len.ensures ∙ sym (entries_count (g.O.Objects.far c.self.inside.parts.worker) c.self.inside.parts.near) ∙ ap (λ (t : Table). map.len t.entries) c.self.view_is
