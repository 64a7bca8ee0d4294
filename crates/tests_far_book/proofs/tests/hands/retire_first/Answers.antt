use Rattle.std.proofs.Common.{◌≡◌, ◌*◌, ◌<◌, ◌∙◌, Some, true, sym, ap, subst}
use Rattle.far_word.specs.declared.sizes.TheConstants.{CELLS}
use Rattle.far_word.specs.Pointer.{read_of}
use Rattle.far_events.specs.declared.naming.Naming.TheVariants.{Retires}
use Rattle.far_events.specs.events.Naming.{is_dropped}
use Rattle.far_events.specs.state.State.{State}
use Rattle.far_events.proofs.Cells.{unused}
use Rattle.tests_far_book.proofs.tests.hands.retire_first.Goals as goal
use Rattle.far_hand.proofs.Knowing.{not_to_free}

pub name-requires-clause-legal : goal.name-requires-clause-legal
name-requires-clause-legal g c =
    let said : read_of c.see-cell.result ≡ Some c.in-Some-Near.field-0 = sym c.read.ensures.exact ∙ c.in-Some-Near.is in
    let dropped : is_dropped (read_of c.see-cell.result) ≡ true = ap is_dropped (said ∙ ap Some c.in-Some-Near.field-0-is) ∙ c.if-marks.true in
    let small : 0 < CELLS * (g.N.Near.view c.see-cell.new.self).mutators = subst (λ (u : State). 0 < CELLS * u.mutators) (sym c.see-cell.ensures.kept) c.requires in
    (small, (Retires, (dropped, unused), tt))

pub name-requires-clause-known : goal.name-requires-clause-known
name-requires-clause-known g c len place n i lt = absurd (not_to_free _ len place n)
