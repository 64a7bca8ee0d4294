use Rattle.std.proofs.Common.{◌≡◌, ◌∙◌, ap, map, set}
use Rattle.std.proofs.lemmas.List.{map-set}
use Rattle.far_array.proofs.Reached.{on_ok}
use Rattle.far_array.proofs.values.set_value.Goals as goal

pub returns-clause-made : goal.returns-clause-made
returns-clause-made g c = λ h.
    let d = g.T.Record.decoded in
    let items = c.args.held.now.rows.items in
    let e : d c.as_slice.result.now ≡ c.args.value.now = ap d c.as_slice.ensures.value ∙ c.encode_to.ensures.encoded in
    on_ok c.set.result _ (map d c.set.new.self.items ≡ set (map d items) c.args.i c.args.value.now)
    (λ n. ap (λ xs. map d xs) n ∙ map-set d items c.args.i c.as_slice.result.now ∙ ap (λ x. set (map d items) c.args.i x) e) (c.set.ensures.made h)
