use Rattle.std.proofs.Common.{◌*◌, ◌<◌, ap, sym, subst, arith}
use Rattle.far_word.specs.declared.sizes.TheConstants.{CELLS}
use Rattle.far_events.specs.state.State.{State}
use Rattle.tests_far_book.proofs.tests.hands.plays_beset.Goals as goal

pub place_first-requires-clause-cell : goal.place_first-requires-clause-cell
place_first-requires-clause-cell c =
    (ap (λ (u : State). u.cell 0) c.in-Ok.ensures, subst (λ (u : State). 0 < CELLS * u.mutators) (sym c.in-Ok.ensures) (omega arith))
