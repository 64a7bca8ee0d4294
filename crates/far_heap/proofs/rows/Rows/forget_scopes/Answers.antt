use Rattle.std.proofs.Common.{◌≡◌, ℕ, List, length, get_or, ap, ◌∙◌, refl, arith}
use Rattle.std.proofs.lemmas.List.{with_items_is}
use Rattle.far_heap.specs.declared.rows.Row.{Row}
use Rattle.far_heap.specs.declared.rows.Rows.{Rows}
use Rattle.far_heap.specs.Rows.{EndsScope, RowsOk, row_in}
use Rattle.far_heap.proofs.rows.Rows.forget_scopes.Goals as goal

-- counts that are all 0 are below that of the first scope
began_anew : (old new : Rows) → RowsOk old → length new.each.items ≡ length old.each.items → ((p : ℕ) → row_in new.each.items p ≡ record (row_in old.each.items p) { viewed = 0 })
    → length new.soiled.items ≡ length old.soiled.items → ((p : ℕ) → get_or new.soiled.items p 0 ≡ 0) → new.scope ≡ 1 → EndsScope old new
began_anew old new ok many rows many_soiled zeros first = record {
  many = many ∙ ok.many;
  many_soiled = many_soiled ∙ ok.many_soiled;
  viewed = λ p. omega (arith, ap (λ (r : Row). r.viewed) (rows p), first);
  soiled = λ p. omega (arith, zeros p, first);
  lens = λ p. ap (λ (r : Row). r.len) (rows p);
  structures = λ p. ap (λ (r : Row). r.structure) (rows p);
  blanks = λ p _. ap (λ (r : Row). r.viewed) (rows p);
}

pub returns : goal.returns
returns c =
    let views = c.forget_views.ensures in
    let soils = c.forget_soils.ensures in
    let each = c.as_mut_slice.ensures.value in
    let soiled = c.as_mut_slice-2.ensures.value in
    let viewed_now = with_items_is c.args.self.now.each c.forget_views.new.each (views.many ∙ c.as_mut_slice.ensures.len) in
    let soiled_now = with_items_is c.args.self.now.soiled c.forget_soils.new.soiled (soils.many ∙ c.as_mut_slice-2.ensures.len) in
    began_anew _ _ c.requires (ap length viewed_now ∙ views.many ∙ ap length each)
    (λ p. ap (λ (rows : List Row). row_in rows p) viewed_now ∙ views.rows p ∙ ap (λ (rows : List Row). record (row_in rows p) { viewed = 0 }) each)
    (ap length soiled_now ∙ soils.many ∙ ap length soiled) (λ p. ap (λ (counts : List ℕ). get_or counts p 0) soiled_now ∙ soils.zeros p) refl
