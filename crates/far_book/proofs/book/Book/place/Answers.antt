use Rattle.far_book.proofs.book.Book.place.Given.{Over}
use Rattle.far_book.proofs.book.Book.place.Goals.{After-room, In-Some}
use Rattle.far_book.proofs.book.Book.place.Goals as goal
use Rattle.std.proofs.Common.{◌≡◌, ◌∙◌, ◌*◌, ◌<◌, ap, refl, sym, subst}
use Rattle.std.specs.Prelude.{Some, true}
use Rattle.std.proofs.lemmas.Bool.{false≢true}
use Rattle.far_word.specs.declared.sizes.TheConstants.{CELLS}
use Rattle.far_word.specs.Sizes.{size_of}
use Rattle.far_core.specs.state.Room.{room}
use Rattle.far_events.specs.state.State.{State}
use Rattle.far_hand.specs.Known.{Forgets}
use Rattle.far_hand.proofs.Closure.{no_call}
use Rattle.far_book.specs.book.BookOf.{BookOf}
use Rattle.far_book.specs.book.Effects.{order_after, placed}
use Rattle.far_book.specs.book.Ledger.{Notes, MayTake, Takes}
use Rattle.far_book.specs.book.Own.{own_part}
use Rattle.far_book.proofs.region.Calls.{HasRoom, ends, free_unplaced, may_take, placeable}
use Rattle.far_book.proofs.region.Handed.{since_book}
use Rattle.far_book.proofs.region.InOrders.{placed_far, placed_honest}
use Rattle.far_book.proofs.region.NotesKept.{notes_placed}
use Rattle.far_book.proofs.region.Owns.{own_named}
use Rattle.far_book.proofs.region.Places.{law_then}

-- ---- once the book was opened
module _ (g : Over) (c : After-room g) where
  same : g.N.Near.view c.self.inside.near ≡ g.N.Near.view c.args.self.now.near
  same = ap (λ (b : BookOf g.row.N.Denot g.row.D.Denot). g.N.Near.view b.near) c.self.view_is

  told : room (g.N.Near.view c.self.inside.near) (size_of c.args.len) true ≡ c.room.result
  told = ap (λ n. room (g.N.Near.view c.self.inside.near) n true) (sym c.size_of-size.ensures) ∙ sym (c.room.ensures (own_part (g.N.Near.view c.self.inside.near)) c.self.invariant.0.notes)

  free : (g.N.Near.view c.self.inside.near).cell c.args.pointer ≡ 0
  free = ap (λ (t : State). t.cell c.args.pointer) same ∙ c.requires.free

there : (g : Over) (c : In-Some g) → HasRoom (g.N.Near.view c.self.inside.near) c.self.inside.ledger c.args.pointer c.args.len c.args.ds c.in-Some.place
there g c = let h = (goal.at.In-Some g c).After-room in record {
  notes = c.self.invariant.0.notes;
  pointer = subst (λ (t : State). c.args.pointer < CELLS * t.mutators) (sym (same g h)) c.requires.pointer;
  unplaced = free_unplaced (g.N.Near.view c.self.inside.near) c.args.pointer (free g h);
  some = c.requires.some;
  most = c.requires.most;
  structure = c.ranges.ds.fits;
  reserve = true;
  found = told g h ∙ c.in-Some.is;
}

pub name_blank-requires-clause-layout : goal.name_blank-requires-clause-layout
name_blank-requires-clause-layout g c = (placeable (there g (goal.at.name_blank-requires-clause-layout g c).In-Some)).layout

pub name_blank-requires-clause-next : goal.name_blank-requires-clause-next
name_blank-requires-clause-next g c = (placeable (there g (goal.at.name_blank-requires-clause-next g c).In-Some)).next

pub name_blank-requires-clause-tail : goal.name_blank-requires-clause-tail
name_blank-requires-clause-tail g c = ends (there g (goal.at.name_blank-requires-clause-tail g c).In-Some)

pub take-requires : goal.take-requires
take-requires g c =
    subst (λ n. MayTake c.self.inside.ledger c.args.pointer n c.in-Some.place) (sym c.size_of-size.ensures) (may_take (there g (goal.at.take-requires g c).In-Some))

pub invariant_of-self : goal.invariant_of-self
invariant_of-self g c =
    let s = g.N.Near.view c.self.inside.near in
    let t = g.N.Near.view c.name_blank.new.near in
    let held = g.D.Device.contents c.self.inside.device in
    let free = free g (goal.at.invariant_of-self g c).After-room in
    let able = placeable (there g (goal.at.invariant_of-self g c).In-Some) in
    let takes : Takes c.self.inside.ledger c.take.new.self c.args.pointer (size_of c.args.len) c.in-Some.place = subst (λ n. Takes c.self.inside.ledger c.take.new.self c.args.pointer n c.in-Some.place) c.size_of-size.ensures c.take.ensures in
    let own = own_named s t c.self.invariant.0.notes.law c.args.pointer c.args.len c.args.ds c.in-Some.place able free c.name_blank.ensures.kept c.name_blank.ensures.forgot in (
      record {
        notes = subst (λ (u : State). Notes u c.take.new.self) (sym own) (notes_placed (own_part s) c.self.inside.ledger c.take.new.self c.self.invariant.0.notes c.args.pointer c.args.len c.args.ds c.in-Some.place able true
            (law_then (own_part s) c.self.invariant.0.notes.law c.args.pointer c.args.len c.args.ds c.in-Some.place able refl refl true (λ odd. absurd (false≢true (sym odd)))) takes);
        far = placed_far s t c.args.pointer held held c.args.len c.args.ds c.in-Some.place able own
            (placed_honest s t c.args.pointer held held c.args.len c.args.ds c.in-Some.place able free c.name_blank.ensures.kept) c.self.invariant.0.far (λ q ne. refl);
        honest = λ h. c.self.invariant.0.honest (sym (placed_honest s t c.args.pointer held held c.args.len c.args.ds c.in-Some.place able free c.name_blank.ensures.kept) ∙ h);
      },
      c.self.invariant.1,
    )

pub returns-in_default : goal.returns-in_default
returns-in_default g c = record {
  came = no_call refl;
  room = tt;
  kept = tt;
  forgot = tt;
  exact = λ _. tt;
  order = tt;
  device = refl;
  refused = refl;
  none = let h = (goal.at.returns-in_default g c).After-room in
      ap (λ (s : State). room s (size_of c.args.len) true) (sym (same g h)) ∙ told g h ∙ c.in_default.is;
  unchanged = refl;
  ran = λ _. refl;
}

pub returns : goal.returns
returns g c =
    let same = ap (λ (b : BookOf g.row.N.Denot g.row.D.Denot). g.N.Near.view b.near) c.self.view_is in
    let h = (goal.at.returns g c).After-room in
    let found : room (g.N.Near.view c.args.self.now.near) (size_of c.args.len) true ≡ Some c.in-Some.place = ap (λ (t : State). room t (size_of c.args.len) true) (sym same) ∙ told g h ∙ c.in-Some.is in
    let exact = λ (still : g.N.Near.still). c.name_blank.ensures.exact still ∙ ap (λ (t : State). placed t c.args.pointer c.args.len c.args.ds c.in-Some.place) same in
    record {
      came = since_book c.self.view_is c.name_blank.ensures.came;
      room = found;
      kept = c.name_blank.ensures.kept ∙ ap (λ (t : State). record (placed t c.args.pointer c.args.len c.args.ds c.in-Some.place) { word = (g.N.Near.view c.name_blank.new.near).word }) same;
      forgot = subst (λ (t : State). Forgets (placed t c.args.pointer c.args.len c.args.ds c.in-Some.place) (g.N.Near.view c.name_blank.new.near)) same c.name_blank.ensures.forgot;
      exact = exact;
      order = c.take.ensures.order ∙ ap (λ n. order_after (record (g.N.Near.view c.self.inside.near) { current = n }) c.self.inside.ledger.order c.in-Some.place) c.self.invariant.0.notes.current
          ∙ ap (λ (b : BookOf g.row.N.Denot g.row.D.Denot). order_after (g.N.Near.view b.near) b.order c.in-Some.place) c.self.view_is;
      device = ap (λ (b : BookOf g.row.N.Denot g.row.D.Denot). b.device) c.self.view_is;
      refused = tt;
      none = tt;
      unchanged = tt;
      ran = λ still. record {
        pointer = c.requires.pointer;
        free = c.requires.free;
        some = c.requires.some;
        most = c.requires.most;
        structure = c.ranges.ds.fits;
        found = found;
        after = exact still;
      };
    }
