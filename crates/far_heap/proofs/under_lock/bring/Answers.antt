use Rattle.std.proofs.Common.{Bool, true, inl, inr, refl, subst}
use Rattle.far_table.specs.BookSeats.{seat_there}
use Rattle.far_heap.specs.Helping.{BringsSo}
use Rattle.far_heap.proofs.Bringing.{brings_came}
use Rattle.far_heap.proofs.under_lock.bring.Goals as goal

pub returns-in-Err-clause-answered : goal.returns-in-Err-clause-answered
returns-in-Err-clause-answered g c = record {
  before = c.args.book.now;
  later = c.fetch_or_move.new.book;
  named = c.keeps_law.ensures.named;
  lawful = (c.keeps_law.ensures.law, c.keeps_law.ensures.moment);
  came = c.in-Err.ensures.left.book.came;
  there = seat_there c.args.book.now.book.near;
  did = c.in-Err.ensures.left;
}

pub returns-in-Ok-true-clause-did : goal.returns-in-Ok-true-clause-did
returns-in-Ok-true-clause-did g c =
    let d = g.D.Device in
    inl (subst (λ (b : Bool). BringsSo d.contents d.honest d.faults d.fails_at_most d.lets_go d.forgets d.reads d.reads_in_place c.args.p b c.args.book.now c.fetch_or_move.new.book) c.in-Ok-true.field-0-test c.in-Ok-true.ensures.did)

pub returns-in-Ok-false-clause-did : goal.returns-in-Ok-false-clause-did
returns-in-Ok-false-clause-did g c =
    let d = g.D.Device in
    inr (refl, subst (λ (b : Bool). BringsSo d.contents d.honest d.faults d.fails_at_most d.lets_go d.forgets d.reads d.reads_in_place c.args.p b c.args.book.now c.fetch_or_move.new.book) c.in-Ok-false.field-0-test c.in-Ok-false.ensures.did)

pub returns-in-Ok-true-clause-brought : goal.returns-in-Ok-true-clause-brought
returns-in-Ok-true-clause-brought g c = λ _.
    let d = g.D.Device in
    let did = subst (λ (b : Bool). BringsSo d.contents d.honest d.faults d.fails_at_most d.lets_go d.forgets d.reads d.reads_in_place c.args.p b c.args.book.now c.fetch_or_move.new.book) c.in-Ok-true.field-0-test c.in-Ok-true.ensures.did in
    record {
      before = c.args.book.now;
      later = c.fetch_or_move.new.book;
      named = c.keeps_law.ensures.named;
      lawful = (c.keeps_law.ensures.law, c.keeps_law.ensures.moment);
      came = brings_came _ _ _ _ _ _ c.args.book.now c.fetch_or_move.new.book c.args.p _ _ true did;
      there = seat_there c.args.book.now.book.near;
      did = did;
    }
