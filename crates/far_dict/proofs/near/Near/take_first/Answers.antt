use Rattle.std.proofs.Common.{Some, sym, ◌∙◌, ap}
use Rattle.std.specs.FinMap as map
use Rattle.far_dict.proofs.Rows.{row_removed, row_value}
use Rattle.far_dict.proofs.near.Near.take_first.Goals as goal

pub returns-clause-some : goal.returns-clause-some
returns-clause-some c =
    let key = c.in-Some.entry.0.items in (
      key,
      ap (λ m. map.get m key) (sym c.self.view_is) ∙ row_value (λ k. k.items) c.self.inside.table.entries key ∙ c.in-Some.ensures.value ∙ ap (λ l. Some l) (sym c.value_of.ensures),
      row_removed (λ k. k.items) key c.self.inside.table.entries c.pop_first.new.self.entries c.in-Some.ensures.updates.1 c.in-Some.ensures.updates.3 ∙ ap (λ m. map.remove m key) c.self.view_is,
    )
