use Rattle.far_book.proofs.book.Book.look.Goals as goal
use Rattle.std.proofs.Common.{refl, sym, subst}
use Rattle.far_events.specs.declared.event.Event.TheVariants.{Look}
use Rattle.far_events.specs.events.Legal.{Legal}
use Rattle.far_book.specs.book.BookOf.{BookOf}
use Rattle.far_book.specs.book.HandedOn.{LooksAtScope}
use Rattle.far_events.specs.state.State.{State}
use Rattle.far_book.specs.book.FarSide.{InOrder}
use Rattle.far_book.proofs.region.Rounding.{looked_keeps}
use Rattle.far_hand.proofs.Closure.{first_call}

pub invariant_of-self : goal.invariant_of-self
invariant_of-self g c = (
  subst (λ (s : State). InOrder s c.self.inside.ledger (g.D.Device.contents c.self.inside.device) (g.D.Device.honest c.self.inside.device)) (sym c.look.ensures.kept)
      (looked_keeps (g.N.Near.view c.self.inside.near) c.self.inside.ledger (g.D.Device.contents c.self.inside.device) (g.D.Device.honest c.self.inside.device) c.self.invariant.0 c.args.owner c.look.result),
  c.self.invariant.1,
)

pub returns : goal.returns
returns g c =
    let told = c.look.ensures in
    let legal = subst (λ (b : BookOf g.row.N.Denot g.row.D.Denot). Legal (g.N.Near.view b.near) (Look c.args.owner)) (sym c.self.view_is) c.requires.legal in
    let new : BookOf g.row.N.Denot g.row.D.Denot = record { near = c.look.new.self; device = c.self.inside.device; order = c.self.inside.ledger.order } in
    subst (λ (b : BookOf g.row.N.Denot g.row.D.Denot). LooksAtScope g.N.Near.still g.N.Near.view g.N.Near.makes g.N.Near.may_be b new c.args.owner c.look.result) c.self.view_is record {
      made = told.made;
      came = first_call _ _ told.made;
      scope = told.scope;
      kept = told.kept;
      exact = told.exact;
      set = told.set;
      saw = told.saw;
      ran = λ still. record { rounds = refl; legal = legal; after = told.set still };
      order = refl;
      device = refl;
    }
