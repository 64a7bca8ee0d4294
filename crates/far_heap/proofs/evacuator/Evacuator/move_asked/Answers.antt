use Rattle.std.proofs.Common.{◌≡◌, ◌∙◌, ◌*◌, ◌<◌, true, subst, sym, refl}
use Rattle.far_word.specs.declared.sizes.TheConstants.{CELLS}
use Rattle.far_hand.specs.Quiet.{IsQuietNear}
use Rattle.far_table.specs.declared.book.BookSeat.{BookSeat}
use Rattle.far_table.specs.BookSeats.{seat_view}
use Rattle.far_evac.specs.EvacOf.{EvacOf, SameRound}
use Rattle.far_heap.specs.HeapId.{HeapId}
use Rattle.far_heap.specs.Helping.{Looks, asks_move, cell_in}
use Rattle.far_heap.proofs.Causes.{move_cause}
use Rattle.far_heap.proofs.Named.{stays_named}
use Rattle.far_heap.proofs.Under.{is_quiet_near}
use Rattle.far_heap.proofs.evacuator.Evacuator.move_asked.Goals as goal

pub locate-requires : goal.locate-requires
locate-requires g c = record { pointer = subst (λ (h : HeapId). c.args.asked.pointer < CELLS * h.mutators) (sym c.keeps_law.ensures.named) c.requires.pointer }

pub move_now-requires-clause-pointer : goal.move_now-requires-clause-pointer
move_now-requires-clause-pointer g c = subst (λ (h : HeapId). c.args.asked.pointer < CELLS * h.mutators) (sym c.self.invariant) c.requires.pointer

pub move_now-requires-clause-quiet : goal.move_now-requires-clause-quiet
move_now-requires-clause-quiet g c = subst (λ (e : EvacOf (BookSeat g.row.D.Denot) g.row.D.Denot). IsQuietNear (seat_view e.book.near) c.args.asked.pointer) (sym c.self.view_is)
    (is_quiet_near _ c.args.asked.pointer (sym (c.has_move.ensures _ c.locate.ensures.found.home) ∙ c.if-not-has_move.false))

pub invariant_of-self : goal.invariant_of-self
invariant_of-self g c = stays_named _ c.self.inside.evac c.move_now.new.self c.move_now.ensures.moved.came c.move_now.ensures.round.2 c.self.invariant

pub returns-then-not-has_move-clause-moved : goal.returns-then-not-has_move-clause-moved
returns-then-not-has_move-clause-moved g c =
    let l = c.locate.ensures.found in (
      c.locate.new.self,
      record { made = l.made; found = l.found; kept = l.kept; order = l.order; device = l.device; round = c.locate.ensures.round },
      (sym (c.has_move.ensures _ l.home) ∙ c.if-not-has_move.true, refl),
    )

pub returns-clause-moved : goal.returns-clause-moved
returns-clause-moved g c =
    let l = c.locate.ensures.found in
    let m = c.move_now.ensures in (
      c.self.inside.evac,
      subst (λ (e : EvacOf (BookSeat g.row.D.Denot) g.row.D.Denot). Looks c.args.self.now e c.args.asked.pointer) (sym c.self.view_is)
          record { made = l.made; found = l.found; kept = l.kept; order = l.order; device = l.device; round = c.locate.ensures.round },
      (
        subst (λ (e : EvacOf (BookSeat g.row.D.Denot) g.row.D.Denot). asks_move (cell_in e c.args.asked.pointer) ≡ true) (sym c.self.view_is) (sym (c.has_move.ensures _ l.home) ∙ c.if-not-has_move.false),
        record { moved = m.moved; round = m.round },
      ),
    )

pub returns-clause-cause : goal.returns-clause-cause
returns-clause-cause g c =
    let asks = subst (λ (e : EvacOf (BookSeat g.row.D.Denot) g.row.D.Denot). asks_move (cell_in e c.args.asked.pointer) ≡ true) (sym c.self.view_is)
    (sym (c.has_move.ensures _ c.locate.ensures.found.home) ∙ c.if-not-has_move.false) in
    move_cause g.K.HeapName.heap c.self.inside.evac c.self.invariant c.args.asked.pointer c.move_now.result asks c.move_now.ensures.moved.refused c.move_now.ensures.moved.none

pub returns-then-not-has_move-clause-round : goal.returns-then-not-has_move-clause-round
returns-then-not-has_move-clause-round g c = c.locate.ensures.round

pub returns-clause-round : goal.returns-clause-round
returns-clause-round g c =
    let l = c.locate.ensures.round in
    let m = subst (λ (e : EvacOf (BookSeat g.row.D.Denot) g.row.D.Denot). SameRound e c.move_now.new.self) c.self.view_is c.move_now.ensures.round in
    (m.0 ∙ l.0, m.1 ∙ l.1, m.2 ∙ l.2)
