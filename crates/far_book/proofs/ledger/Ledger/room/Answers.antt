use Rattle.far_book.proofs.ledger.Ledger.room.Goals as goal
use Rattle.std.proofs.Common.{◌+◌, ◌<◌, arith, ap}
use Rattle.far_word.specs.declared.sizes.TheConstants.{LOG_WORDS}
use Rattle.far_book.specs.declared.ledger.Filled.{Filled}
use Rattle.far_book.specs.book.Ledger.{filled_of}
use Rattle.far_book.proofs.region.Notings.{room_here, room_free, room_none}

pub returns-then-tail-size-le-LOG_WORDS : goal.returns-then-tail-size-le-LOG_WORDS
returns-then-tail-size-le-LOG_WORDS c s notes =
    let same = c.filled_of-tail.ensures in
    rw same (room_here s c.args.self.now notes c.args.size c.args.reserve c.requires.size (omega (arith, ap (λ (f : Filled). f.tail) same)))

pub returns-in-Some : goal.returns-in-Some
returns-in-Some c s notes =
    let over : LOG_WORDS < (filled_of c.args.self.now c.args.self.now.current).tail + c.args.size = omega (arith, ap (λ (f : Filled). f.tail) c.filled_of-tail.ensures) in
    room_free s c.args.self.now notes c.args.size c.args.reserve c.in-Some.log c.requires.size over c.in-Some.ensures

pub returns-in-None : goal.returns-in-None
returns-in-None c s notes =
    let over : LOG_WORDS < (filled_of c.args.self.now c.args.self.now.current).tail + c.args.size = omega (arith, ap (λ (f : Filled). f.tail) c.filled_of-tail.ensures) in
    room_none s c.args.self.now notes c.args.size c.args.reserve c.requires.size over c.in-None.ensures
