use Rattle.std.proofs.Common.{◌≡◌, ◌∙◌, ◌*◌, ◌<◌, ℕ, true, subst, sym, refl}
use Rattle.std.proofs.lemmas.Bool.{false≢true}
use Rattle.far_word.specs.declared.sizes.TheConstants.{CELLS}
use Rattle.far_events.specs.events.Naming.{is_dropped}
use Rattle.far_table.specs.declared.book.BookSeat.{BookSeat}
use Rattle.far_table.specs.BookSeats.{seat_there, seat_view}
use Rattle.far_evac.specs.EvacOf.{EvacOf, SameRound}
use Rattle.far_heap.specs.HeapId.{HeapId}
use Rattle.far_heap.specs.Helping.{Looks, LooksAndRetires, cell_in}
use Rattle.far_heap.proofs.Bringing.{retires_came}
use Rattle.far_heap.proofs.Causes.{freed, retired_free}
use Rattle.far_heap.proofs.Mines.{none_there}
use Rattle.far_heap.proofs.Named.{stays_named}
use Rattle.far_heap.proofs.evacuator.Evacuator.retire_dropped.Goals as goal

pub locate-found-requires : goal.locate-found-requires
locate-found-requires g c = record { pointer = subst (λ (h : HeapId). c.args.asked.pointer < CELLS * h.mutators) (sym c.keeps_law.ensures.named) c.requires.pointer }

pub retire-requires-clause-pointer : goal.retire-requires-clause-pointer
retire-requires-clause-pointer g c = subst (λ (h : HeapId). c.args.asked.pointer < CELLS * h.mutators) (sym c.self.invariant) c.requires.pointer

pub retire-requires-clause-dropped : goal.retire-requires-clause-dropped
retire-requires-clause-dropped g c = subst (λ (e : EvacOf (BookSeat g.row.D.Denot) g.row.D.Denot). is_dropped (cell_in e c.args.asked.pointer) ≡ true) (sym c.self.view_is)
    (sym (c.has_drop.ensures _ c.locate-found.ensures.found.home) ∙ c.if-has_drop.true)

pub invariant_of-self : goal.invariant_of-self
invariant_of-self g c = stays_named _ c.self.inside.evac c.retire.new.self c.retire.ensures.retired.came c.retire.ensures.round.2 c.self.invariant

pub returns-then-has_drop : goal.returns-then-has_drop
returns-then-has_drop g c =
    let p : ℕ = c.args.asked.pointer in
    let d = g.D.Device in
    let l = c.locate-found.ensures.found in
    let round = c.locate-found.ensures.round in
    let r = c.retire.ensures in
    let found = c.self.inside.evac in
    let on = subst (λ (e : EvacOf (BookSeat g.row.D.Denot) g.row.D.Denot). SameRound e c.retire.new.self) c.self.view_is r.round in
    let dropped = subst (λ (e : EvacOf (BookSeat g.row.D.Denot) g.row.D.Denot). is_dropped (cell_in e p) ≡ true) (sym c.self.view_is) (sym (c.has_drop.ensures _ l.home) ∙ c.if-has_drop.true) in
    let named = stays_named g.K.HeapName.heap found c.retire.new.self r.retired.came r.round.2 c.self.invariant in
    let did : LooksAndRetires d.contents d.honest d.faults d.fails_at_most d.lets_go d.forgets p c.args.self.now c.retire.new.self = record {
      found = found;
      looked = subst (λ (e : EvacOf (BookSeat g.row.D.Denot) g.row.D.Denot). Looks c.args.self.now e p) (sym c.self.view_is)
          record { made = l.made; found = l.found; kept = l.kept; order = l.order; device = l.device; round = round };
      dropped = λ _. record { retired = r.retired; round = r.round };
      alive = λ h. absurd (false≢true (sym h ∙ dropped));
    } in record {
      round = (on.0 ∙ round.0, on.1 ∙ round.1, on.2 ∙ round.2);
      retired = did;
      did = record {
        before = c.args.self.now;
        later = c.retire.new.self;
        named = c.keeps_law.ensures.named;
        lawful = (c.keeps_law.ensures.law, c.keeps_law.ensures.moment);
        came = retires_came _ _ _ _ _ _ c.args.self.now c.retire.new.self p did;
        there = seat_there c.args.self.now.book.near;
        did = did;
      };
      freed = freed g.K.HeapName.heap c.retire.new.self named p (retired_free (seat_view found.book.near) (seat_view c.retire.new.self.book.near) p dropped r.retired.kept);
      again = tt;
    }

-- it wasn't dropped
pub returns-then-is_some : goal.returns-then-is_some
returns-then-is_some g c =
    let p : ℕ = c.args.asked.pointer in
    let d = g.D.Device in
    let l = c.locate-found.ensures.found in
    let found = c.locate-found.new.self in
    let did : LooksAndRetires d.contents d.honest d.faults d.fails_at_most d.lets_go d.forgets p c.args.self.now found = record {
      found = found;
      looked = record { made = l.made; found = l.found; kept = l.kept; order = l.order; device = l.device; round = c.locate-found.ensures.round };
      dropped = λ h. absurd (false≢true (sym (sym (c.has_drop.ensures _ l.home) ∙ c.if-has_drop.false) ∙ h));
      alive = λ _. refl;
    } in record {
      round = c.locate-found.ensures.round;
      retired = did;
      did = record {
        before = c.args.self.now;
        later = found;
        named = c.keeps_law.ensures.named;
        lawful = (c.keeps_law.ensures.law, c.keeps_law.ensures.moment);
        came = retires_came _ _ _ _ _ _ c.args.self.now found p did;
        there = seat_there c.args.self.now.book.near;
        did = did;
      };
      freed = tt;
      again = refl;
    }

pub returns : goal.returns
returns g c =
    let p : ℕ = c.args.asked.pointer in
    let d = g.D.Device in
    let l = c.locate-found.ensures.found in
    let found = c.locate-found.new.self in
    let named = stays_named g.K.HeapName.heap c.args.self.now found l.came c.locate-found.ensures.round.2 c.keeps_law.ensures.named in
    let did : LooksAndRetires d.contents d.honest d.faults d.fails_at_most d.lets_go d.forgets p c.args.self.now found = record {
      found = found;
      looked = record { made = l.made; found = l.found; kept = l.kept; order = l.order; device = l.device; round = c.locate-found.ensures.round };
      dropped = λ h. absurd (false≢true (sym (sym (c.has_drop.ensures _ l.home) ∙ c.if-has_drop.false) ∙ h));
      alive = λ _. refl;
    } in record {
      round = c.locate-found.ensures.round;
      retired = did;
      did = record {
        before = c.args.self.now;
        later = found;
        named = c.keeps_law.ensures.named;
        lawful = (c.keeps_law.ensures.law, c.keeps_law.ensures.moment);
        came = retires_came _ _ _ _ _ _ c.args.self.now found p did;
        there = seat_there c.args.self.now.book.near;
        did = did;
      };
      freed = freed g.K.HeapName.heap found named p (l.gone.0 (none_there _ (sym c.is_some.ensures ∙ c.if-is_some.false)));
      again = tt;
    }
