use Rattle.std.proofs.Common.{arith, inl, inr, refl}
use Rattle.std.proofs.lemmas.Bool.{cases_lt}
use Rattle.std.proofs.lemmas.List.{get_or_past}
use Rattle.far_events.specs.state.Rows.{no_row}
use Rattle.far_events.specs.state.StoredRows.{stored_in}
use Rattle.far_events.proofs.KeptRows.{none_stored}
use Rattle.far_events.proofs.memory.stored_rows.StoredRows.new.Goals as goal

pub returns-clause-blank : goal.returns-clause-blank
unfolding stored_in
returns-clause-blank c = none_stored c.resize.new.self.items (λ q. elim (cases_lt q c.args.pointers) [
  | inl lt ↦ c.in_ok-resize.ensures.by_index.1 q no_row refl (omega (arith, c.new-row_of.ensures.len)) lt
  | inr le ↦ get_or_past c.resize.new.self.items q no_row (omega (arith, le, c.in_ok-resize.ensures.len, c.resize.new.self.ok.0))
]) c.in_ok-with_capacity.field-0.items
