use Rattle.std.proofs.Common.{sym, subst}
use Rattle.far_events.specs.declared.event.Event.TheVariants.{Get}
use Rattle.far_events.specs.declared.event.Reply.TheVariants.{Word}
use Rattle.far_events.specs.events.Legal.{Legal}
use Rattle.far_hand.specs.Ranges.{Gets}
use Rattle.far_table.specs.BookSeats.{seat_makes, seat_view}
use Rattle.far_table.proofs.book_hand.BookSeatNear.get.Goals as goal

pub free-requires : goal.free-requires
free-requires g c = record { legal = subst (λ b. Legal (seat_view c.args.self.now) (Get c.args.log c.args.at b)) c.if-free.true c.requires.legal }

pub returns-then-free : goal.returns-then-free
returns-then-free g c =
    let t : Gets (seat_view c.args.self.now) (seat_view c.free.new.self) c.args.log c.args.at c.args.free c.free.result =
    subst (λ b. Gets (seat_view c.args.self.now) (seat_view c.free.new.self) c.args.log c.args.at b c.free.result) (sym c.if-free.true) c.free.ensures.gets in record {
      known = t.known;
      padding = t.padding;
      read = t.read;
      kept = t.kept;
      unread = t.unread;
      here = t.here;
      others = t.others;
      forgot = t.forgot;
      rest = t.rest;
      exact = λ none. absurd none;
      set = λ none. absurd none;
      made = subst (λ b. seat_makes c.args.self.now (Get c.args.log c.args.at b) (Word c.free.result) c.free.new.self) (sym c.if-free.true) c.free.ensures.made;
    }

pub read-requires : goal.read-requires
read-requires g c = record { legal = subst (λ b. Legal (seat_view c.args.self.now) (Get c.args.log c.args.at b)) c.if-free.false c.requires.legal }

pub returns-else-free : goal.returns-else-free
returns-else-free g c =
    let t : Gets (seat_view c.args.self.now) (seat_view c.read.new.self) c.args.log c.args.at c.args.free c.read.result =
    subst (λ b. Gets (seat_view c.args.self.now) (seat_view c.read.new.self) c.args.log c.args.at b c.read.result) (sym c.if-free.false) c.read.ensures.gets in record {
      known = t.known;
      padding = t.padding;
      read = t.read;
      kept = t.kept;
      unread = t.unread;
      here = t.here;
      others = t.others;
      forgot = t.forgot;
      rest = t.rest;
      exact = λ none. absurd none;
      set = λ none. absurd none;
      made = subst (λ b. seat_makes c.args.self.now (Get c.args.log c.args.at b) (Word c.read.result) c.read.new.self) (sym c.if-free.false) c.read.ensures.made;
    }
