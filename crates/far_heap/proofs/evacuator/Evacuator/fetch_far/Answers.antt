use Rattle.std.proofs.Common.{◌≡◌, ◌∙◌, ◌*◌, ◌<◌, Err, true, subst, sym, refl}
use Rattle.far_word.specs.declared.refused.Refused.TheVariants.{Memory}
use Rattle.far_word.specs.declared.sizes.TheConstants.{CELLS}
use Rattle.far_table.specs.declared.book.BookSeat.{BookSeat}
use Rattle.far_table.specs.BookSeats.{seat_view}
use Rattle.far_book.specs.book.Fetching.{IsFar}
use Rattle.far_evac.specs.EvacOf.{EvacOf, SameRound}
use Rattle.far_heap.specs.HeapId.{HeapId}
use Rattle.far_heap.specs.Helping.{Looks, cell_in, says_far}
use Rattle.far_heap.proofs.Causes.{fetch_cause}
use Rattle.far_heap.proofs.Named.{stays_named}
use Rattle.far_heap.proofs.Under.{is_far}
use Rattle.far_heap.proofs.evacuator.Evacuator.fetch_far.Goals as goal

pub locate-requires : goal.locate-requires
locate-requires g c = record { pointer = subst (λ (h : HeapId). c.args.pointer < CELLS * h.mutators) (sym c.keeps_law.ensures.named) c.requires.pointer }

pub fetch-requires-clause-pointer : goal.fetch-requires-clause-pointer
fetch-requires-clause-pointer g c = subst (λ (h : HeapId). c.args.pointer < CELLS * h.mutators) (sym c.self.invariant) c.requires.pointer

pub fetch-requires-clause-far : goal.fetch-requires-clause-far
fetch-requires-clause-far g c = subst (λ (e : EvacOf (BookSeat g.row.D.Denot) g.row.D.Denot). IsFar (seat_view e.book.near) c.args.pointer) (sym c.self.view_is)
    (is_far _ c.args.pointer (sym (c.is_far.ensures _ c.locate.ensures.found.home) ∙ c.if-not-is_far.false))

pub invariant_of-self : goal.invariant_of-self
invariant_of-self g c = stays_named _ c.self.inside.evac c.fetch.new.evac c.fetch.ensures.fetched.came c.fetch.ensures.round.2 c.self.invariant

pub returns-then-not-is_far-clause-fetched : goal.returns-then-not-is_far-clause-fetched
returns-then-not-is_far-clause-fetched g c =
    let l = c.locate.ensures.found in (
      c.locate.new.self,
      record { made = l.made; found = l.found; kept = l.kept; order = l.order; device = l.device; round = c.locate.ensures.round },
      (sym (c.is_far.ensures _ l.home) ∙ c.if-not-is_far.true, refl),
    )

pub returns-clause-fetched : goal.returns-clause-fetched
returns-clause-fetched g c =
    let l = c.locate.ensures.found in
    let f = c.fetch.ensures in (
      c.self.inside.evac,
      subst (λ (e : EvacOf (BookSeat g.row.D.Denot) g.row.D.Denot). Looks c.args.self.now e c.args.pointer) (sym c.self.view_is)
          record { made = l.made; found = l.found; kept = l.kept; order = l.order; device = l.device; round = c.locate.ensures.round },
      (
        subst (λ (e : EvacOf (BookSeat g.row.D.Denot) g.row.D.Denot). says_far (cell_in e c.args.pointer) ≡ true) (sym c.self.view_is) (sym (c.is_far.ensures _ l.home) ∙ c.if-not-is_far.false),
        record { fetched = f.fetched; round = f.round },
      ),
    )

pub returns-clause-cause : goal.returns-clause-cause
returns-clause-cause g c =
    let found = c.self.inside.evac in
    let far = subst (λ (e : EvacOf (BookSeat g.row.D.Denot) g.row.D.Denot). says_far (cell_in e c.args.pointer) ≡ true) (sym c.self.view_is)
    (sym (c.is_far.ensures _ c.locate.ensures.found.home) ∙ c.if-not-is_far.false) in
    fetch_cause g.K.HeapName.heap found c.self.invariant c.args.pointer (g.D.Device.honest found.book.device) c.fetch.result far c.fetch.ensures.honest c.fetch.ensures.fetched.refused

pub returns-then-not-is_far-clause-round : goal.returns-then-not-is_far-clause-round
returns-then-not-is_far-clause-round g c = c.locate.ensures.round

pub returns-clause-round : goal.returns-clause-round
returns-clause-round g c =
    let l = c.locate.ensures.round in
    let f = subst (λ (e : EvacOf (BookSeat g.row.D.Denot) g.row.D.Denot). SameRound e c.fetch.new.evac) c.self.view_is c.fetch.ensures.round in
    (f.0 ∙ l.0, f.1 ∙ l.1, f.2 ∙ l.2)

pub returns-clause-in_place : goal.returns-clause-in_place
returns-clause-in_place g c = λ kind is. let same : c.fetch.result ≡ Err Memory = cc in c.fetch.ensures.fetched.in_place kind same
