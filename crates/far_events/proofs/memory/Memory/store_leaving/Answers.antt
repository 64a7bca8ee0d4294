use Rattle.std.proofs.Common.{ap, sym, ◌∙◌}
use Rattle.far_events.specs.state.Memory.{state_of}
use Rattle.far_events.specs.state.State.{State}
use Rattle.far_events.proofs.Kept.{name_won, near_stored, rows_stay}
use Rattle.far_events.proofs.MadeNamings.{comes_near}
use Rattle.far_events.proofs.memory.Memory.store_leaving.Goals as goal

pub returns-in-Some : goal.returns-in-Some
returns-in-Some c =
    let s = state_of c.args.self.now in
    let cell = sym c.cell_at.ensures ∙ c.if-cell_at-old.false in
    let came = comes_near s c.requires.law c.args.pointer c.args.old c.args.new c.ranges.new.fits cell c.requires.legal c.in-Some.field-0 (λ v e. sym c.in-Some.is ∙ c.resting_place.ensures v e) in
    rows_stay _ _ _ _ (ap (λ (u : State). u.stored) (name_won s c.args.pointer c.args.old c.args.new cell) ∙ near_stored s _ c.args.pointer c.args.new c.in-Some.field-0 came) c.requires.rows
