-- The effect of a fetch is reached by legal events.
use Rattle.std.proofs.Common.{◌≡◌, ℕ, ◌+◌, ◌-◌, ◌*◌, ◌^◌, ◌<◌, ◌≤◌, true, false, arith, sym, refl, ap, subst, ◌∙◌, Some}
use Rattle.std.proofs.lemmas.Bool.{eq-eqb}
use Rattle.far_word.specs.declared.mark.Marks.{Marks}
use Rattle.far_word.specs.declared.pointer.Place.{Place}
use Rattle.far_word.specs.declared.pointer.PtrWord.TheVariants.{Free, Near, Far}
use Rattle.far_word.specs.declared.sizes.TheConstants.{CELLS, LOG_WORDS}
use Rattle.far_word.specs.Header.{IsHead}
use Rattle.far_word.specs.Pointer.{IsPtr, read_of}
use Rattle.far_word.specs.Sizes.{size_of, words_for}
use Rattle.far_word.proofs.PointerLaws.{read_back, read_says, word_fits}
use Rattle.far_events.specs.declared.event.Event.{Event}
use Rattle.far_events.specs.declared.event.Event.TheVariants as events
use Rattle.far_events.specs.declared.naming.Naming.TheVariants as naming
use Rattle.far_events.specs.events.Copies.{Alike}
use Rattle.far_events.specs.events.Legal.{Legal}
use Rattle.far_events.specs.events.Naming.{no_marks, naming_of}
use Rattle.far_book.specs.book.Renaming.{stops}
use Rattle.std.specs.Prelude.{◌||◌}
use Rattle.far_core.specs.laws.Rooms.{IsRoom, RoomIs}
use Rattle.far_events.specs.state.Law.{Law, IsStored}
use Rattle.far_core.specs.state.Room.{room}
use Rattle.far_events.specs.state.State.{State}
use Rattle.far_core.specs.world.Changes.{Step}
use Rattle.far_events.specs.events.Changes.{ComesNear}
use Rattle.far_core.specs.world.WorldOf.{world_of}
use Rattle.far_events.proofs.Cells.{unused}
use Rattle.far_events.proofs.NewSpans.{at_tail}
use Rattle.far_core.proofs.NewSpans.{takes_span}
use Rattle.far_events.proofs.Put.{put_old, put_other, put_same}
use Rattle.far_core.proofs.RoomLaws.{room_right}
use Rattle.far_book.specs.book.Effects.{fetched, near_word, with_written_span}
use Rattle.far_book.specs.book.Laws.{FetchingIsLegal, IsCome}
use Rattle.far_book.specs.book.Reached.{Reached}
use Rattle.far_hand.proofs.Finding.{finds_same}
use Rattle.far_book.proofs.region.Coming.{fetched_is, header, may_come, stands, written_outside}
use Rattle.far_book.proofs.region.Fetched.{fetched_come}
use Rattle.far_book.proofs.region.Reaching.{written_named}

module _ (s : State) (law : Law s) (p len ds : ℕ) (m : Marks) (place : Place) (row : ℕ → ℕ) (far : read_of (s.cell p) ≡ Some (Far len ds m)) (alive : m.dropped ≡ false)
    (found : room s (size_of len) true ≡ Some place) (stored : IsStored row len) (same : s.honest ≡ true → Alike row (s.stored p) (words_for len)) where
  far_layout : IsPtr (Far len ds m)
  far_layout = (read_says (s.cell p) (Far len ds m) (law.cells.cell_read p).0 far).0

  pointer : p < CELLS * s.mutators
  pointer = law.cells.cell_range p (λ z. let odd : Some Free ≡ Some (Far len ds m) = sym unused ∙ (ap read_of (sym z) ∙ far) in cc)

  is_room : IsRoom s (size_of len) true place
  is_room = let short : size_of len ≤ LOG_WORDS = omega (arith, far_layout) in subst (RoomIs s (size_of len) true) found (room_right s law (size_of len) true short)

  head : IsHead record { pointer = p; len = len; ds = ds }
  head = record { some = far_layout.0; most = far_layout.1; structure = far_layout.2; cell = omega (arith, pointer, law.shape.few_mutators) }

  layout : IsPtr (Near len ds place no_marks)
  layout = (far_layout.0, far_layout.1, far_layout.2, omega (arith, is_room.next.0, law.shape.few_logs), is_room.fits)

  abbrev written : State
  written = with_written_span s p len ds place row

  abbrev name : Event
  name = events.Name p (s.cell p) (near_word false len ds place)

  legal : Legal written name
  legal =
      let last : words_for len - 1 < words_for len = omega (arith, far_layout) in
      let may = may_come s p len ds place row pointer (m, far, alive) far_layout.0 layout is_room.next (stored (words_for len - 1) last).1 same (s.cell p) (law.cells.cell_read p).0 (finds_same (s.cell p)) (ap (λ o. stops o o) far ∙ ap (λ b. b || false) alive) in
      subst (λ (cell : ℕ → ℕ). Legal (record written { cell = cell }) name) (put_old s.cell p (s.cell p) refl) may.0

  is_come : IsCome s (fetched s p place row) p len ds place row
  is_come = let span = takes_span s law p (near_word false len ds place) len place in
      subst (λ (t : State). IsCome s t p len ds place row) (sym (fetched_come s s p len ds place row m far alive layout)) record {
        cell = ap read_of (put_same s.cell p (near_word false len ds place) p refl) ∙ read_back (Near len ds place no_marks) layout;
        cells = λ q ne. put_other s.cell p (near_word false len ds place) q ne;
        header = header s p len ds place row;
        bytes = stands s p len ds place row;
        words = written_outside s p len ds place row;
        tail = span.ends ∙ ap (λ k. k + size_of len) (at_tail s law place is_room.next);
        tails = λ l ne. (span.others l ne).0;
        opens = span.opens.0;
        seals = span.seals;
        kinds = λ l ne. (span.others l ne).1;
      }

  pub fetching_all : Reached s (fetched s p place row) × Law (fetched s p place row) × Step (ComesNear p place.log) (world_of s) (world_of (fetched s p place row)) × IsCome s (fetched s p place row) p len ds place row
  fetching_all =
      let form : naming_of (read_of (s.cell p)) (read_of (near_word false len ds place)) ≡ Some (naming.Fetches len ds place) = rw (far, read_back (Near len ds place no_marks) layout, eq-eqb len len refl, eq-eqb ds ds refl, alive) refl in
      let fits : (s.cell p < 2 ^ 64) × (near_word false len ds place < 2 ^ 64) = ((law.cells.cell_read p).0, word_fits (Near len ds place no_marks) layout) in
      let all = written_named s law p len ds place row head is_room.next is_room.fits (λ k lt. (stored k lt).0) (s.cell p) (near_word false len ds place) (naming.Fetches len ds place) refl form fits legal in
      let is = sym (fetched_is s p len ds place row m far) in
      (subst (Reached s) is all.0, subst Law is all.1, subst (λ (t : State). Step (ComesNear p place.log) (world_of s) (world_of t)) is all.2, is_come)

pub fetching : FetchingIsLegal
fetching s p len ds m place row law far alive found stored same = fetching_all s law p len ds m place row far alive found stored same
