use Rattle.far_book.proofs.book.Book.clear.Goals as goal
use Rattle.std.proofs.Common.{refl, sym, subst, arith}
use Rattle.far_book.specs.book.HandedOn.{ClearsCell}
use Rattle.far_events.specs.declared.event.Event.TheVariants.{Clear}
use Rattle.far_events.specs.events.Legal.{Legal}
use Rattle.far_book.specs.book.BookOf.{BookOf}
use Rattle.far_book.proofs.region.JobNotes.{idle}
use Rattle.far_book.proofs.region.Rounding.{cleared_keeps}
use Rattle.far_hand.proofs.Closure.{first_call}
use Rattle.far_hand.proofs.Finding.{near_found}

pub leave_round-requires : goal.leave_round-requires
leave_round-requires g c =
    let s = g.N.Near.view c.self.inside.near in
    let legal = subst (λ (b : BookOf g.row.N.Denot g.row.D.Denot). Legal (g.N.Near.view b.near) (Clear c.args.pointer)) (sym c.self.view_is) c.requires.legal in
    let found = near_found (s.cell c.args.pointer) c.clear-found.result c.clear-found.ensures.found legal.1.0 legal.1.1 legal.1.2 legal.1.3 legal.1.4 in
    let notes = c.self.invariant.0.notes.jobs in
    record {
      cell = rw found.near refl;
      sized = notes.sized;
      waiting = idle s.round_epoch s.round _ c.self.inside.ledger.jobs notes;
    }

pub invariant_of-self : goal.invariant_of-self
invariant_of-self g c =
    let s = g.N.Near.view c.self.inside.near in
    let legal = subst (λ (b : BookOf g.row.N.Denot g.row.D.Denot). Legal (g.N.Near.view b.near) (Clear c.args.pointer)) (sym c.self.view_is) c.requires.legal in (
      cleared_keeps s (g.N.Near.view c.clear-found.new.self) c.self.inside.ledger (g.D.Device.contents c.self.inside.device) (g.D.Device.honest c.self.inside.device) c.self.invariant.0
          c.args.pointer legal c.leave_round.new.self c.clear-found.result (omega arith) c.clear-found.ensures.found c.leave_round.ensures c.clear-found.ensures.kept c.clear-found.ensures.forgot,
      c.self.invariant.1,
    )

pub returns : goal.returns
returns g c =
    let told = c.clear-found.ensures in
    let legal = subst (λ (b : BookOf g.row.N.Denot g.row.D.Denot). Legal (g.N.Near.view b.near) (Clear c.args.pointer)) (sym c.self.view_is) c.requires.legal in
    let new : BookOf g.row.N.Denot g.row.D.Denot = record { near = c.clear-found.new.self; device = c.self.inside.device; order = c.self.inside.ledger.order } in
    subst (λ (b : BookOf g.row.N.Denot g.row.D.Denot). ClearsCell g.N.Near.still g.N.Near.view g.N.Near.makes b new c.args.pointer c.clear-found.result) c.self.view_is record {
      made = told.made;
      came = first_call _ _ told.made;
      found = told.found;
      kept = told.kept;
      forgot = told.forgot;
      exact = told.exact;
      set = told.set;
      ran = λ still. record { rounds = refl; legal = legal; after = told.set still };
      order = refl;
      device = refl;
    }
