use Rattle.std.proofs.Common.{◌≡◌, IfOk, map as each, sym, ap, ◌∙◌, subst}
use Rattle.std.specs.FinMap as map
use Rattle.far_map.specs.Table.{Table}
use Rattle.far_dict.proofs.Walking.{keys_listed}
use Rattle.far_dict.proofs.long.Long.names.Goals as goal

pub returns : goal.returns
returns g c =
    subst (λ ks. IfOk c.names.result (λ v. each (λ k. k.items) v.items ≡ ks))
    (sym (keys_listed (g.O.Objects.far c.self.inside.parts.worker) c.self.inside.parts.near) ∙ ap (λ (t : Table). map.keys t.entries) c.self.view_is) c.names.ensures
