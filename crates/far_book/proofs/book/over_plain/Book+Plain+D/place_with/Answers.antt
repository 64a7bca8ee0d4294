use Rattle.std.proofs.Common.{◌≡◌, ◌∙◌, ◌+◌, ◌*◌, ◌<◌, ◌≤◌, arith, ap, refl, sym, subst}
use Rattle.std.specs.Prelude.{None, Some, true}
use Rattle.far_word.specs.Sizes.{size_of}
use Rattle.far_events.specs.events.Legal.{IsClosed}
use Rattle.far_events.specs.events.NewObjects.{made_with, places_with}
use Rattle.far_events.specs.events.Ranges.{AllLegal, after_events}
use Rattle.far_core.specs.state.CoreState.{core_state}
use Rattle.far_core.specs.state.Room.{room}
use Rattle.far_events.specs.state.State.{State}
use Rattle.far_core.proofs.NewObjects.{MayMake, head, may_make}
use Rattle.far_hand.specs.declared.plain.Plain.{Plain}
use Rattle.far_book.specs.book.BookOf.{BookOf}
use Rattle.far_book.specs.book.Effects.{order_after}
use Rattle.far_book.specs.book.FarSide.{InOrder}
use Rattle.far_book.specs.book.Ledger.{MayTake, Takes}
use Rattle.far_book.specs.book.Own.{own_part}
use Rattle.far_book.proofs.region.Calls.{HasRoom, free_unplaced, may_take, placeable}
use Rattle.far_book.proofs.region.MadeObjects.{made_in_order, placed_in_order}
use Rattle.far_book.proofs.book.over_plain.Book+Plain+D.place_with.Given.{Over}
use Rattle.far_book.proofs.book.over_plain.Book+Plain+D.place_with.Goals.{After-room, In-Some}
use Rattle.far_book.proofs.book.over_plain.Book+Plain+D.place_with.Goals as goal

-- ---- once the book was opened
module _ (g : Over) (c : After-room g) where
  abbrev s : State
  s = core_state c.self.inside.near.core

  same : s ≡ core_state c.args.self.now.near.core
  same = ap (λ (b : BookOf Plain g.row.D.Denot). core_state b.near.core) c.self.view_is

  sized : c.size_of-size.result ≡ size_of c.args.len
  sized = c.size_of-size.ensures

  told : room s (size_of c.args.len) true ≡ c.room.result
  told = ap (λ n. room s n true) (sym sized) ∙ sym (c.room.ensures (own_part s) c.self.invariant.0.notes)

  free : s.cell c.args.pointer ≡ 0
  free = ap (λ (t : State). t.cell c.args.pointer) same ∙ c.requires.free

  closed : IsClosed s c.args.owner
  closed = subst (λ (t : State). IsClosed t c.args.owner) (sym same) c.requires.closed

module _ (g : Over) (c : In-Some g) where
  abbrev before : After-room g
  before = (goal.at.In-Some g c).After-room

  found : room (s g before) (size_of c.args.len) true ≡ Some c.in-Some.place
  found = told g before ∙ c.in-Some.is

  may : MayMake (s g before) c.args.owner c.args.pointer c.args.len c.args.ds c.in-Some.place c.args.bytes.now
  may = may_make (s g before) c.args.owner c.args.pointer c.args.len c.args.ds c.in-Some.place c.args.bytes.now c.self.inside.near.core.law (closed g before) (ap (λ (t : State). t.remembered c.args.owner) (same g before) ∙ c.requires.fresh)
      c.requires.own (free g before) c.requires.some c.requires.most c.ranges.ds.fits c.requires.front (λ k. (c.type_inv.bytes k).fits) found

  there : HasRoom (s g before) c.self.inside.ledger c.args.pointer c.args.len c.args.ds c.in-Some.place
  there = record {
    notes = c.self.invariant.0.notes;
    pointer = omega (arith, (closed g before).0, c.requires.own);
    unplaced = free_unplaced (s g before) c.args.pointer (free g before);
    some = c.requires.some;
    most = c.requires.most;
    structure = c.ranges.ds.fits;
    reserve = true;
    found = found;
  }

pub place_with-requires-clause-head : goal.place_with-requires-clause-head
place_with-requires-clause-head g c = head (may g (goal.at.place_with-requires-clause-head g c).In-Some)

pub place_with-requires-clause-closed : goal.place_with-requires-clause-closed
place_with-requires-clause-closed g c = (may g (goal.at.place_with-requires-clause-closed g c).In-Some).closed

pub place_with-requires-clause-fresh : goal.place_with-requires-clause-fresh
place_with-requires-clause-fresh g c = (may g (goal.at.place_with-requires-clause-fresh g c).In-Some).fresh

pub place_with-requires-clause-free : goal.place_with-requires-clause-free
place_with-requires-clause-free g c = (may g (goal.at.place_with-requires-clause-free g c).In-Some).free

pub place_with-requires-clause-next : goal.place_with-requires-clause-next
place_with-requires-clause-next g c = (may g (goal.at.place_with-requires-clause-next g c).In-Some).next

pub place_with-requires-clause-inside : goal.place_with-requires-clause-inside
place_with-requires-clause-inside g c = (may g (goal.at.place_with-requires-clause-inside g c).In-Some).inside

pub take-requires : goal.take-requires
take-requires g c =
    let h = (goal.at.take-requires g c).In-Some in
    subst (λ n. MayTake c.self.inside.ledger c.args.pointer n c.in-Some.place) (sym (sized g (before g h))) (may_take (there g h))

pub invariant_of-self : goal.invariant_of-self
invariant_of-self g c =
    let h = (goal.at.invariant_of-self g c).In-Some in
    let held = g.D.Device.contents c.self.inside.device in
    let is_honest = g.D.Device.honest c.self.inside.device in
    let takes : Takes c.self.inside.ledger c.take.new.self c.args.pointer (size_of c.args.len) c.in-Some.place = subst (λ n. Takes c.self.inside.ledger c.take.new.self c.args.pointer n c.in-Some.place) (sized g (before g h)) c.take.ensures in (
      subst (λ (t : State). InOrder t c.take.new.self held is_honest) (sym c.place_with.ensures.state) (made_in_order (may g h) c.take.new.self held is_honest
          (placed_in_order (s g (before g h)) c.self.inside.ledger c.take.new.self held is_honest c.self.invariant.0 c.args.pointer c.args.len c.args.ds c.in-Some.place (placeable (there g h)) (free g (before g h)) takes)),
      c.self.invariant.1,
    )

pub returns-in_default : goal.returns-in_default
returns-in_default g c = record {
  room = tt;
  made = tt;
  events = tt;
  legal = tt;
  order = tt;
  device = refl;
  refused = refl;
  none = let h = (goal.at.returns-in_default g c).After-room in
      ap (λ (t : State). room t (size_of c.args.len) true) (sym (same g h)) ∙ told g h ∙ c.in_default.is;
  unchanged = refl;
}

pub returns : goal.returns
returns g c =
    let h = (goal.at.returns g c).In-Some in
    let is = same g (before g h) in
    record {
      room = ap (λ (t : State). room t (size_of c.args.len) true) (sym is) ∙ found g h;
      made = c.place_with.ensures.state ∙ ap (λ (t : State). made_with t c.args.pointer c.args.len c.args.ds c.in-Some.place c.args.bytes.now) is;
      events = c.place_with.ensures.events ∙ ap (λ (t : State). after_events t (places_with c.args.owner c.args.pointer c.args.len c.args.ds c.in-Some.place c.args.bytes.now)) is;
      legal = subst (λ (t : State). AllLegal t (places_with c.args.owner c.args.pointer c.args.len c.args.ds c.in-Some.place c.args.bytes.now)) is c.place_with.ensures.legal;
      order = c.take.ensures.order ∙ ap (λ n. order_after (record (core_state c.self.inside.near.core) { current = n }) c.self.inside.ledger.order c.in-Some.place) c.self.invariant.0.notes.current
          ∙ ap (λ (b : BookOf Plain g.row.D.Denot). order_after (core_state b.near.core) b.order c.in-Some.place) c.self.view_is;
      device = ap (λ (b : BookOf Plain g.row.D.Denot). b.device) c.self.view_is;
      refused = tt;
      none = tt;
      unchanged = tt;
    }
