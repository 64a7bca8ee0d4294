use Rattle.std.proofs.Common.{◌≡◌, ◌∙◌, take, ap, sym}
use Rattle.far_objects.specs.Far.{Far}
use Rattle.far_array.specs.Rows.{row, rows}
use Rattle.far_array.proofs.Reached.{on_ok}
use Rattle.far_array.proofs.Swapped.{swapped_as}
use Rattle.far_array.proofs.Written.{first_row}
use Rattle.far_array.proofs.swap.swap_rows.Goals as goal

pub returns-clause-made : goal.returns-clause-made
returns-clause-made g c = λ o.
    let p = c.args.parts.now in
    let a = c.read_front.new.parts in
    let b = c.read_front-2.new.parts in
    let e = c.read_front.ensures in
    let d = c.read_front-2.ensures in
    let f = g.O.Objects.far p.worker in
    let h = g.O.Objects.far a.worker in
    let hs = p.blocks.items in
    let i = c.args.i in
    let j = c.args.j in
    let one = c.read_front.new.out in
    let two = c.read_front-2.new.out in
    let same : rows (g.O.Objects.far b.worker) b.blocks.items b.per b.size b.len ≡ rows f hs p.per p.size p.len =
    (λ k. rows (d.same k) (d.blocks k).items (d.per k) (d.size k) (d.len k)) ∙ (λ k. rows (e.same k) (e.blocks k).items (e.per k) (e.size k) (e.len k)) in
    let first : take p.size one ≡ row f hs p.per p.size i = first_row f hs p.per p.size i one (c.in-Ok.ensures.read o) in
    let second : take p.size two ≡ row f hs p.per p.size j =
    sym (ap (λ n. take n two) e.size) ∙ first_row h a.blocks.items a.per a.size j two (c.in-Ok-read_front.ensures.read (ap (λ (x : Far). x.honest) e.same ∙ o))
    ∙ (λ k. row (e.same k) (e.blocks k).items (e.per k) (e.size k) j) in
    on_ok c.put_both.result _ _ (λ x. swapped_as f hs p.per p.size p.len i j _ _ _ _ c.requires.low c.requires.also second first same x)
    (c.put_both.ensures.made (ap (λ (x : Far). x.honest) d.same ∙ ap (λ (x : Far). x.honest) e.same ∙ o))
