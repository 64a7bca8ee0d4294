use Rattle.std.proofs.Common.{◌≡◌, not, IfOk, sym, ◌∙◌, ap, subst}
use Rattle.std.specs.FinMap as map
use Rattle.far_map.specs.Table.{Table}
use Rattle.far_dict.proofs.Tables.{entries_has}
use Rattle.far_dict.proofs.long.Long.put.Goals as goal

pub returns-clause-new : goal.returns-clause-new
returns-clause-new g c =
    subst (λ b. IfOk c.put.result (λ new. new ≡ not b))
    (sym (entries_has (g.O.Objects.far c.self.inside.parts.worker) c.self.inside.parts.near c.args.key.now) ∙ ap (λ (t : Table). map.contains_key t.entries c.args.key.now) c.self.view_is) c.put.ensures.new
