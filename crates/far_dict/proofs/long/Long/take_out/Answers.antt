use Rattle.std.proofs.Common.{sym, ◌∙◌, ap}
use Rattle.std.specs.FinMap as map
use Rattle.far_map.specs.Table.{Table}
use Rattle.far_dict.proofs.Tables.{entries_has}
use Rattle.far_dict.proofs.long.Long.take_out.Goals as goal

pub returns-clause-there : goal.returns-clause-there
returns-clause-there g c =
    c.take_out.ensures.there ∙ sym (entries_has (g.O.Objects.far c.self.inside.parts.worker) c.self.inside.parts.near c.args.key.now)
    ∙ ap (λ (t : Table). map.contains_key t.entries c.args.key.now) c.self.view_is
