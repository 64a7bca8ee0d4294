use Rattle.far_book.proofs.book.Book.see.Goals as goal
use Rattle.std.proofs.Common.{refl, sym, subst, arith}
use Rattle.far_book.specs.book.BookOf.{BookOf}
use Rattle.far_book.specs.book.HandedOn.{SeesCell}
use Rattle.far_events.specs.state.State.{State}
use Rattle.far_book.specs.book.FarSide.{InOrder}
use Rattle.far_book.proofs.region.InOrders.{found_keeps}
use Rattle.far_hand.proofs.Closure.{first_call}
use Rattle.far_hand.proofs.Sight.{told_cell}

pub invariant_of-self : goal.invariant_of-self
invariant_of-self g c = (
  subst (λ (s : State). InOrder s c.self.inside.ledger (g.D.Device.contents c.self.inside.device) (g.D.Device.honest c.self.inside.device)) (sym c.see.ensures.kept)
      (found_keeps (g.N.Near.view c.self.inside.near) c.self.inside.ledger (g.D.Device.contents c.self.inside.device) (g.D.Device.honest c.self.inside.device) c.self.invariant.0
      c.args.pointer c.see.result (omega arith) c.see.ensures.found),
  c.self.invariant.1,
)

pub returns : goal.returns
returns g c =
    let told = c.see.ensures in
    let new : BookOf g.row.N.Denot g.row.D.Denot = record { near = c.see.new.self; device = c.self.inside.device; order = c.self.inside.ledger.order } in
    subst (λ (b : BookOf g.row.N.Denot g.row.D.Denot). SeesCell g.N.Near.still g.N.Near.view g.N.Near.makes g.N.Near.may_be b new c.args.pointer c.see.result) c.self.view_is record {
      made = told.made;
      came = first_call _ _ told.made;
      found = told.found;
      kept = told.kept;
      exact = told.exact;
      set = told.set;
      saw = told_cell (g.N.Near.may_be c.self.inside.near) (g.N.Near.may_be c.see.new.self) c.args.pointer c.see.result (g.met.N.Near.told c.self.inside.near c.see.new.self _ _ told.made);
      order = refl;
      device = refl;
    }
