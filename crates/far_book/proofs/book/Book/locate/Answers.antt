use Rattle.far_book.proofs.book.Book.locate.Goals as goal
use Rattle.std.proofs.Common.{ap, sym, subst, ◌∙◌, arith, refl, ◌≡◌}
use Rattle.far_word.specs.Pointer.{read_of}
use Rattle.far_events.specs.declared.event.Event.TheVariants.{See}
use Rattle.far_events.specs.declared.event.Reply.TheVariants.{Word}
use Rattle.far_hand.specs.Finds.{Finds}
use Rattle.far_book.specs.book.Calls.{FindsHome}
use Rattle.far_book.specs.book.Home.{home_of}
use Rattle.far_book.specs.book.Renaming.{seen}
use Rattle.far_events.specs.state.State.{State}
use Rattle.far_book.specs.book.BookOf.{BookOf}
use Rattle.far_book.specs.book.FarSide.{InOrder}
use Rattle.far_book.proofs.region.Founds.{no_home, free_home, home_none, none_home}
use Rattle.far_book.proofs.region.InOrders.{found_keeps}
use Rattle.far_events.proofs.Put.{put_same}
use Rattle.far_hand.proofs.Finding.{some_found}
use Rattle.far_hand.proofs.Closure.{first_call}
use Rattle.far_hand.proofs.Sight.{told_cell}

pub invariant_of-self : goal.invariant_of-self
invariant_of-self g c = (
  subst (λ (s : State). InOrder s c.self.inside.ledger (g.D.Device.contents c.self.inside.device) (g.D.Device.honest c.self.inside.device)) (sym c.see.ensures.kept)
      (found_keeps (g.N.Near.view c.self.inside.near) c.self.inside.ledger (g.D.Device.contents c.self.inside.device) (g.D.Device.honest c.self.inside.device) c.self.invariant.0
      c.args.pointer c.see.result (omega arith) c.see.ensures.found),
  c.self.invariant.1,
)

pub returns : goal.returns
returns g c =
    let told = c.see.ensures in
    let p = c.args.pointer in
    let s = g.N.Near.view c.self.inside.near in
    let t = g.N.Near.view c.see.new.self in
    let now : t.cell p ≡ c.see.result = ap (λ (x : State). x.cell p) told.kept ∙ put_same s.cell p c.see.result p refl in
    let known = (c.self.invariant.0.notes.law.cells.cell_read p).1 in
    let some = some_found (s.cell p) c.see.result told.found known in
    let new : BookOf g.row.N.Denot g.row.D.Denot = record { near = c.see.new.self; device = c.self.inside.device; order = c.self.inside.ledger.order } in
    subst (λ (b : BookOf g.row.N.Denot g.row.D.Denot). FindsHome g.N.Near.still g.N.Near.view g.N.Near.makes g.N.Near.may_be b new p c.home_in.result) c.self.view_is record {
      came = first_call _ _ told.made;
      made = subst (λ w. g.N.Near.makes c.self.inside.near (See p) (Word w) c.see.new.self) (sym now) told.made;
      found = subst (Finds (s.cell p)) (sym now) told.found;
      home = c.home_in.ensures ∙ ap (λ w. home_of (read_of w)) (sym now);
      free = (λ none. no_home (s.cell p) c.see.result told.found known (sym c.home_in.ensures ∙ none), λ free. c.home_in.ensures ∙ free_home (s.cell p) c.see.result told.found free);
      gone = (λ none. now ∙ home_none c.see.result some (sym c.home_in.ensures ∙ none), λ free. c.home_in.ensures ∙ none_home c.see.result (sym now ∙ free));
      saw = subst (λ w. ∥ ((x : State) × g.N.Near.may_be c.see.new.self x × (x.cell p ≡ w)) ∥₁) (sym now)
          (told_cell (g.N.Near.may_be c.self.inside.near) (g.N.Near.may_be c.see.new.self) p c.see.result (g.met.N.Near.told c.self.inside.near c.see.new.self _ _ told.made));
      kept = told.kept ∙ ap (λ w. seen s p w) (sym now);
      exact = told.set;
      order = refl;
      device = refl;
    }
