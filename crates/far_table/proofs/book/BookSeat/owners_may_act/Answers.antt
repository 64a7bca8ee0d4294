use Rattle.std.proofs.Common.{sym, subst}
use Rattle.far_events.specs.events.Legal.{Legal}
use Rattle.far_events.specs.events.Step.{after}
use Rattle.far_events.specs.state.State.{State}
use Rattle.far_table.specs.BookSeats.{MayBe, book_in}
use Rattle.far_table.proofs.OwnersAct.{may_act}
use Rattle.far_table.proofs.book.BookSeat.owners_may_act.Goals as goal

pub returns : goal.returns
returns g c = λ x may e own fits.
    let b = book_in c.args.self.now in
    subst (λ (z : State). Legal z e → MayBe b (after z e)) (sym may.is) (may_act may.words b may.others may.facts e own fits)
