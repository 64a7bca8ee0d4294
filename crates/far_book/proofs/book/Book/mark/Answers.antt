use Rattle.far_book.proofs.book.Book.mark.Goals as goal
use Rattle.std.proofs.Common.{refl, sym, subst, arith}
use Rattle.far_book.specs.book.HandedOn.{MarksCell}
use Rattle.far_events.specs.declared.event.Event.TheVariants.{Mark}
use Rattle.far_events.specs.events.Legal.{Legal}
use Rattle.far_events.specs.state.State.{State}
use Rattle.far_book.specs.book.BookOf.{BookOf}
use Rattle.far_book.specs.book.FarSide.{InOrder}
use Rattle.far_book.proofs.region.Marked.{found_marked}
use Rattle.far_hand.proofs.Closure.{first_call}

pub invariant_of-self : goal.invariant_of-self
invariant_of-self g c =
    let s = g.N.Near.view c.self.inside.near in
    let held = g.D.Device.contents c.self.inside.device in
    let is_honest = g.D.Device.honest c.self.inside.device in
    let legal = subst (λ (b : BookOf g.row.N.Denot g.row.D.Denot). Legal (g.N.Near.view b.near) (Mark c.args.pointer)) (sym c.self.view_is) c.requires.legal in (
      subst (λ (u : State). InOrder u c.self.inside.ledger held is_honest) (sym c.mark.ensures.kept)
          (found_marked s c.self.inside.ledger held is_honest c.self.invariant.0 c.args.pointer legal c.mark.result (omega arith) c.mark.ensures.found),
      c.self.invariant.1,
    )

pub returns : goal.returns
returns g c =
    let told = c.mark.ensures in
    let legal = subst (λ (b : BookOf g.row.N.Denot g.row.D.Denot). Legal (g.N.Near.view b.near) (Mark c.args.pointer)) (sym c.self.view_is) c.requires.legal in
    let new : BookOf g.row.N.Denot g.row.D.Denot = record { near = c.mark.new.self; device = c.self.inside.device; order = c.self.inside.ledger.order } in
    subst (λ (b : BookOf g.row.N.Denot g.row.D.Denot). MarksCell g.N.Near.still g.N.Near.view g.N.Near.makes b new c.args.pointer c.mark.result) c.self.view_is record {
      made = told.made;
      came = first_call _ _ told.made;
      found = told.found;
      kept = told.kept;
      exact = told.exact;
      set = told.set;
      ran = λ still. record { rounds = refl; legal = legal; after = told.set still };
      order = refl;
      device = refl;
    }
