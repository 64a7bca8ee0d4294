-- What a call that offers a copy answers.
use Rattle.std.proofs.Common.{◌≡◌, ◌∙◌, ℕ, ◌*◌, ◌/◌, ◌<◌, true, false, cond, arith, ap, refl, sym, subst, Some}
use Rattle.far_word.specs.declared.mark.Marks.{Marks}
use Rattle.far_word.specs.declared.pointer.Place.{Place}
use Rattle.far_word.specs.declared.pointer.PtrWord.TheVariants.{Near}
use Rattle.far_word.specs.declared.sizes.TheConstants.{CELLS, JOBS}
use Rattle.far_word.specs.Pointer.{IsPtr, read_of}
use Rattle.far_word.specs.Sizes.{size_of}
use Rattle.far_word.proofs.PointerLaws.{read_says}
use Rattle.far_events.specs.declared.event.Event.TheVariants as events
use Rattle.far_events.specs.events.Quiet.{IsClearNear}
use Rattle.far_events.specs.events.Step.{after}
use Rattle.far_core.specs.laws.Rooms.{IsRoom, RoomIs}
use Rattle.far_core.specs.state.Room.{room}
use Rattle.far_events.specs.state.State.{State}
use Rattle.far_events.proofs.NewSpans.{at_tail}
use Rattle.far_events.proofs.Put.{put_old, put_same}
use Rattle.far_core.proofs.RoomLaws.{room_right}
use Rattle.far_hand.specs.Finds.{Finds}
use Rattle.far_hand.specs.Known.{Forgets}
use Rattle.far_hand.proofs.Finding.{finds_same, near_found}
use Rattle.far_book.specs.declared.ledger.Ledger.{Ledger}
use Rattle.far_book.specs.book.Dealing.{goal, goal_of}
use Rattle.far_book.specs.book.Ledger.{Notes}
use Rattle.far_book.specs.book.Offering.{IsCopyable, IsLookedAt, IsLowestEmpty, OffersCopy, OffersOnly, offered, offered_of, with_ends}
use Rattle.far_book.specs.book.Own.{own_part}
use Rattle.far_book.specs.book.Renaming.{seen}

-- the object is known to be near and clear, and its cell is found to say this
module _ (s : State) (p : ℕ) (clear : IsClearNear s p) (w len ds : ℕ) (from : Place) (m : Marks) (finds : Finds (s.cell p) w) (says : read_of w ≡ Some (Near len ds from m)) where
  abbrev known : Marks
  known = clear.3

  found : read_of w ≡ Some (Near clear.0 clear.1 clear.2 (near_found (s.cell p) w finds clear.0 clear.1 clear.2 known clear.4).marks)
  found = (near_found (s.cell p) w finds clear.0 clear.1 clear.2 known clear.4).near

  both : Some (Near clear.0 clear.1 clear.2 (near_found (s.cell p) w finds clear.0 clear.1 clear.2 known clear.4).marks) ≡ Some (Near len ds from m)
  both = sym found ∙ says

  long : clear.0 ≡ len
  long = let e = both in cc

  here : clear.2 ≡ from
  here = let e = both in cc

  marks_is : (near_found (s.cell p) w finds clear.0 clear.1 clear.2 known clear.4).marks ≡ m
  marks_is = let e = both in cc

  pub wanted : m.evac ≡ true
  wanted = ap (λ (k : Marks). k.evac) (sym marks_is) ∙ (near_found (s.cell p) w finds clear.0 clear.1 clear.2 known clear.4).same ∙ clear.5

  pub chosen : s.round from.log ≡ true
  chosen = ap (λ (x : Place). s.round x.log) (sym here) ∙ clear.6

  pub seen_clear : s.clear (p / CELLS) ≡ true
  seen_clear = clear.7

  -- where it would move is where room is
  pub goal_is : goal s p ≡ room s (size_of len) false
  goal_is = ap (goal_of s) clear.4 ∙ ap (λ b. cond b (room s (size_of clear.0) false) (Some clear.2)) clear.5 ∙ ap (λ n. room s (size_of n) false) long

-- the same word may be found of it
pub looked_same : (s : State) (p : ℕ) → IsLookedAt s s p
looked_same s p = record { word = s.cell p; found = finds_same (s.cell p); is = λ i. record s { cell = sym (put_old s.cell p (s.cell p) refl) i } }

-- ---- it may be offered
module _ (s : State) (ledger : Ledger) (notes : Notes (own_part s) ledger) (j p len ds : ℕ) (from to : Place) (m : Marks) (low : j < JOBS) (empty : s.copying.word j ≡ 0) (pointer : p < CELLS * s.mutators)
    (near : read_of (s.cell p) ≡ Some (Near len ds from m)) (wanted : m.evac ≡ true) (chosen : s.round from.log ≡ true) (clear : s.clear (p / CELLS) ≡ true) (found : room s (size_of len) false ≡ Some to) where
  layout : IsPtr (Near len ds from m)
  layout = (read_says (s.cell p) (Near len ds from m) (notes.law.cells.cell_read p).0 near).0

  is_room : IsRoom (own_part s) (size_of len) false to
  is_room = subst (RoomIs (own_part s) (size_of len) false) found (room_right (own_part s) notes.law (size_of len) false (omega (arith, layout)))

  pub copyable : IsCopyable s j p len ds from to
  copyable = record {
    number = low;
    empty = empty;
    pointer = pointer;
    marks = m;
    near = near;
    wanted = wanted;
    chosen = chosen;
    clear = clear;
    layout = (omega (arith, layout), omega (arith, layout), omega (arith, layout), omega (arith, is_room.next.0, notes.law.shape.few_logs), is_room.fits);
    head = record { some = omega (arith, layout); most = omega (arith, layout); structure = omega (arith, layout); cell = omega (arith, pointer, notes.law.shape.few_mutators) };
    next = is_room.next;
    ends = sym (at_tail (own_part s) notes.law to is_room.next);
  }

-- ---- it was offered
module _ (s t u : State) (p w : ℕ) (looked : t ≡ seen s p w) (finds : Finds (s.cell p) w) (j len ds : ℕ) (from to : Place) (m : Marks) (says : read_of w ≡ Some (Near len ds from m)) (lowest : IsLowestEmpty s j) (place : goal s p ≡ Some to) where
  offered_is : offered (seen s p w) j p to ≡ after (with_ends (seen s p w) p len ds to) (events.Offer j p to)
  offered_is = ap (offered_of (seen s p w) j p to) (ap read_of (put_same s.cell p w p refl) ∙ says)

  same : after (with_ends t p len ds to) (events.Offer j p to) ≡ offered (seen s p w) j p to
  same = ap (λ (x : State). after (with_ends x p len ds to) (events.Offer j p to)) looked ∙ sym offered_is

  pub offers : u ≡ record (after (with_ends t p len ds to) (events.Offer j p to)) { word = u.word } → Forgets (after (with_ends t p len ds to) (events.Offer j p to)) u → OffersCopy s u p
  offers leads forgot = record {
    job = j;
    lowest = lowest;
    to = to;
    place = place;
    word = w;
    found = finds;
    leads = leads ∙ ap (λ (x : State). record x { word = u.word }) same;
    forgot = subst (λ (x : State). Forgets x u) same forgot;
  }

  -- and nothing else was found
  pub offers_only : w ≡ s.cell p → u ≡ after (with_ends t p len ds to) (events.Offer j p to) → OffersOnly s u p
  offers_only known is = record {
    job = j;
    lowest = lowest;
    to = to;
    place = place;
    is = is ∙ same ∙ ap (λ (x : State). offered x j p to) (λ i. record s { cell = put_old s.cell p w (sym known) i });
  }
