use Rattle.std.proofs.Common.{sym, ◌∙◌, ap}
use Rattle.std.specs.FinMap as map
use Rattle.far_map.specs.Table.{Table}
use Rattle.far_dict.proofs.Tables.{entries_has}
use Rattle.far_dict.proofs.long.Long.has.Goals as goal

pub returns : goal.returns
returns g c =
    c.has.ensures ∙ sym (entries_has (g.O.Objects.far c.self.inside.parts.worker) c.self.inside.parts.near c.args.key.now)
    ∙ ap (λ (t : Table). map.contains_key t.entries c.args.key.now) c.self.view_is
