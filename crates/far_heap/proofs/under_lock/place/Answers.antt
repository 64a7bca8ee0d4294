use Rattle.far_table.specs.BookSeats.{seat_there}
use Rattle.far_heap.proofs.Causes.{if_room, lacks_room, none_free, places}
use Rattle.far_heap.proofs.under_lock.place.Goals as goal

pub returns-clause-had : goal.returns-clause-had
returns-clause-had g c = if_room g.K.HeapName.heap c.args.book.now c.keeps_law.ensures.named c.args.owner c.args.len c.place_new.result c.place_new.ensures.lowest c.place_new.ensures.room

pub returns-clause-none : goal.returns-clause-none
returns-clause-none g c = λ e. none_free g.K.HeapName.heap c.args.book.now c.keeps_law.ensures.named c.args.owner (c.place_new.ensures.none e)

pub returns-clause-full : goal.returns-clause-full
returns-clause-full g c = λ e. lacks_room g.K.HeapName.heap c.args.book.now c.keeps_law.ensures.named c.args.owner c.args.len (c.place_new.ensures.full e)

pub returns-clause-does : goal.returns-clause-does
returns-clause-does g c = let p = c.place_new.ensures in
    places c.args.owner c.args.len c.args.ds c.args.book.now c.place_new.new.self c.place_new.result p.lowest p.room p.placed p.refused p.none p.full p.unchanged

pub returns-clause-did : goal.returns-clause-did
returns-clause-did g c = let p = c.place_new.ensures in record {
  before = c.args.book.now;
  later = c.place_new.new.self;
  named = c.keeps_law.ensures.named;
  lawful = (c.keeps_law.ensures.law, c.keeps_law.ensures.moment);
  came = p.came;
  there = seat_there c.args.book.now.book.near;
  did = places c.args.owner c.args.len c.args.ds c.args.book.now c.place_new.new.self c.place_new.result p.lowest p.room p.placed p.refused p.none p.full p.unchanged;
}
