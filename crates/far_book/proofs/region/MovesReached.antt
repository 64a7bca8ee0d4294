-- An object's move, and its staying, are reached by legal events.
use Rattle.std.proofs.Common.{◌≡◌, ℕ, ◌+◌, ◌-◌, ◌*◌, ◌^◌, ◌<◌, true, false, arith, sym, refl, ap, subst, ◌∙◌, Some, inl, inr}
use Rattle.far_word.specs.declared.mark.Marks.{Marks}
use Rattle.far_word.specs.declared.pointer.Place.{Place}
use Rattle.far_word.specs.declared.pointer.PtrWord.TheVariants.{Near}
use Rattle.far_word.specs.declared.sizes.TheConstants.{CELLS}
use Rattle.far_word.specs.Pointer.{IsPtr, read_of, word_of}
use Rattle.far_word.specs.Sizes.{size_of, words_for}
use Rattle.far_word.proofs.PointerLaws.{read_back, read_says, word_fits}
use Rattle.far_events.specs.declared.event.Event.{Event}
use Rattle.far_events.specs.declared.event.Event.TheVariants as events
use Rattle.far_events.specs.declared.naming.Naming.TheVariants as naming
use Rattle.far_events.specs.events.Copies.{data_at}
use Rattle.far_events.specs.events.Legal.{Legal}
use Rattle.far_events.specs.events.Naming.{is_dropped, naming_of, no_marks, unmarked}
use Rattle.far_core.specs.laws.Rooms.{IsRoom, RoomIs}
use Rattle.far_events.specs.state.Law.{Law, head_len, is_dirty}
use Rattle.far_core.specs.state.Room.{room}
use Rattle.far_events.specs.state.State.{State, addr}
use Rattle.far_core.specs.world.Changes.{Step}
use Rattle.far_events.specs.events.Changes.{Moves, Unmarks}
use Rattle.far_core.specs.world.WorldOf.{world_of}
use Rattle.far_events.proofs.Bounds.{span_len}
use Rattle.far_events.proofs.Copied.{NoCopy}
use Rattle.far_events.proofs.Namings.{naming_only}
use Rattle.far_core.proofs.NewSpans.{takes_span}
use Rattle.far_events.proofs.Put.{put_same, put_other, put_old}
use Rattle.far_core.proofs.RoomLaws.{room_right}
use Rattle.far_hand.specs.Quiet.{is_quiet}
use Rattle.far_book.specs.book.Dealing.{has_evac}
use Rattle.far_book.specs.book.Effects.{moved, moved_of, near_word, stayed, stayed_of, with_written_span}
use Rattle.far_book.specs.book.Laws.{IsMoved, IsUnmarked, MovingIsLegal, StayingIsLegal}
use Rattle.far_book.specs.book.Moving.{Copied, MayCopy}
use Rattle.far_book.specs.book.Reached.{Reached}
use Rattle.far_hand.proofs.Finding.{finds_same}
use Rattle.far_book.proofs.region.Coming.{stands}
use Rattle.far_book.proofs.region.Copying.{at_end, first, from_outside, head, layout_there, outside}
use Rattle.far_book.proofs.region.Moved.{may_rename, moved_is, no_copy, no_stay, stayed_is}
use Rattle.far_book.proofs.region.Owns.{own_law}
use Rattle.far_book.proofs.region.Reaching.{named, written_named}

-- ---- moving
module _ (s : State) (law : Law s) (p len ds : ℕ) (from to : Place) (m : Marks) (near : read_of (s.cell p) ≡ Some (Near len ds from m)) (quiet : is_quiet s.round s.clear p from m ≡ true)
    (alive : m.dropped ≡ false) (wanted : m.evac ≡ true) (found : room s (size_of len) false ≡ Some to) where
  says : IsPtr (Near len ds from m) × (word_of (Near len ds from m) ≡ s.cell p)
  says = read_says (s.cell p) (Near len ds from m) (law.cells.cell_read p).0 near

  pointer : p < CELLS * s.mutators
  pointer = law.cells.cell_range p (λ z. let none : 0 ≡ s.cell p = sym z in absurd (omega (arith, says.1)))

  is_room : IsRoom s (size_of len) false to
  is_room = subst (RoomIs s (size_of len) false) found (room_right s law (size_of len) false (omega (arith, says.0)))

  may : MayCopy s p len ds from to
  may = record { law = own_law s law; pointer = pointer; marks = m; near = near; quiet = quiet; next = is_room.next; fits = is_room.fits }

  layout : IsPtr (Near len ds to no_marks)
  layout = layout_there s p len ds from to may

  uncopied : NoCopy s.copying p from to
  uncopied = no_copy s may.law p from to is_room.next (omega (arith, is_room.fits))

  abbrev row : ℕ → ℕ
  row = data_at s.word from

  abbrev written : State
  written = with_written_span s p len ds to row

  -- ---- the copy is whole
  word_there : (i : ℕ) → i < words_for len → written.word (addr to + 1 + i) ≡ row i
  word_there = stands s p len ds to row

  begun : s.starts (addr from) ≡ true
  begun = (law.cells.cell_near p len ds from m near).placed

  long : head_len (s.word (addr from)) ≡ len
  long = rw (span_len s law p len ds from m near) refl

  last_padded : row (words_for len - 1) < 2 ^ (8 * (len - 8 * (words_for len - 1)))
  last_padded = subst (λ n. row (words_for len - 1) < 2 ^ (8 * (n - 8 * (words_for len - 1)))) long
      (law.spans.span_padding (addr from) begun (words_for len - 1) (subst (λ n. words_for len - 1 < words_for n) (sym long) (omega (arith, says.0))))

  copied : Copied s written p len ds from to
  copied = record {
    is = refl;
    header = first s p len ds from to may;
    same = λ i lt. word_there i lt ∙ sym (outside s p len ds from to may (addr from + 1 + i) (from_outside s p len ds from to may i lt));
    padded = subst (λ w. w < 2 ^ (8 * (len - 8 * (words_for len - 1)))) (sym (word_there (words_for len - 1) (omega (arith, says.0)))) last_padded;
    keeps = record { known = λ a k now. refl; headers = λ a start. refl };
  }

  abbrev new : ℕ
  new = near_word m.dirty len ds to

  abbrev name : Event
  name = events.Name p (s.cell p) new

  legal : Legal written name
  legal = subst (λ b. Legal written (events.Name p (s.cell p) (near_word b len ds to))) (ap is_dirty near) (subst (λ (t : State). Legal t (events.Name p (s.cell p) (near_word (is_dirty (read_of (s.cell p))) len ds to))) (λ i. record written { cell = put_old s.cell p (s.cell p) refl i })
      (may_rename s written p len ds from to may copied (ap has_evac near ∙ wanted) (ap is_dropped near ∙ alive) (s.cell p) (law.cells.cell_read p).0 (finds_same (s.cell p)) (ap is_dropped near ∙ alive)).0)

  is_moved : IsMoved s (moved s p to) p len ds from to
  is_moved = let span = takes_span s law p new len to in
      subst (λ (t : State). IsMoved s t p len ds from to) (sym (moved_is s p len ds from to m near alive wanted layout uncopied)) record {
        cell = ap read_of (put_same s.cell p new p refl) ∙ read_back (Near len ds to (unmarked m.dirty)) layout ∙ ap (λ b. Some (Near len ds to (unmarked b))) (sym (ap is_dirty near));
        cells = λ q ne. put_other s.cell p new q ne;
        header = first s p len ds from to may;
        copy = word_there;
        words = λ a out. outside s p len ds from to may a (λ low high. elim out [
          | inl below ↦ omega arith
          | inr above ↦ omega arith
        ]);
        tail = span.ends ∙ ap (λ k. k + size_of len) (at_end s p len ds from to may);
        tails = λ l ne. (span.others l ne).0;
        opens = span.opens.0;
        seals = span.seals;
        kinds = λ l ne. (span.others l ne).1;
      }

  pub moving_all : Reached s (moved s p to) × Law (moved s p to) × Step (Moves p to.log) (world_of s) (world_of (moved s p to)) × IsMoved s (moved s p to) p len ds from to
  moving_all =
      let form : naming_of (read_of (s.cell p)) (read_of new) ≡ Some (naming.Moves len ds from to) =
      naming_only (naming.Moves len ds from to) (read_of (s.cell p)) (read_of new) ((m, near, alive, no_stay from to m wanted), read_back (Near len ds to (unmarked m.dirty)) layout) in
      let fits : (s.cell p < 2 ^ 64) × (new < 2 ^ 64) = ((law.cells.cell_read p).0, word_fits (Near len ds to (unmarked m.dirty)) layout) in
      let all = written_named s law p len ds to row (head s p len ds from to may) is_room.next is_room.fits (λ k lt. law.spans.word_fits (addr from + 1 + k)) (s.cell p) new (naming.Moves len ds from to) refl form fits legal in
      let is = sym (ap (moved_of s p to) near) in
      (subst (Reached s) is all.0, subst Law is all.1, subst (λ (t : State). Step (Moves p to.log) (world_of s) (world_of t)) is all.2, is_moved)

pub moving : MovingIsLegal
moving s p len ds from to m law near quiet alive wanted found = moving_all s law p len ds from to m near quiet alive wanted found

-- ---- staying
module _ (s : State) (law : Law s) (p len ds : ℕ) (place : Place) (m : Marks) (near : read_of (s.cell p) ≡ Some (Near len ds place m)) (asked : m.moved ≡ true) (alive : m.dropped ≡ false) (unwanted : m.evac ≡ false) where
  says_here : IsPtr (Near len ds place m) × (word_of (Near len ds place m) ≡ s.cell p)
  says_here = read_says (s.cell p) (Near len ds place m) (law.cells.cell_read p).0 near

  pointer_here : p < CELLS * s.mutators
  pointer_here = law.cells.cell_range p (λ z. let none : 0 ≡ s.cell p = sym z in absurd (omega (arith, says_here.1)))

  bare_layout : IsPtr (Near len ds place no_marks)
  bare_layout = (omega (arith, says_here.0), omega (arith, says_here.0), omega (arith, says_here.0), omega (arith, says_here.0), omega (arith, says_here.0))

  abbrev bare : ℕ
  bare = near_word m.dirty len ds place

  abbrev unmark : Event
  unmark = events.Name p (s.cell p) bare

  unmark_fits : (s.cell p < 2 ^ 64) × (bare < 2 ^ 64)
  unmark_fits = ((law.cells.cell_read p).0, word_fits (Near len ds place (unmarked m.dirty)) bare_layout)

  unmark_legal : Legal s unmark
  unmark_legal = (pointer_here, (naming.Stays, (len, ds, place, m, near, alive, asked, unwanted, read_back (Near len ds place (unmarked m.dirty)) bare_layout), tt))

  staying_all : Reached s (stayed s p) × Law (stayed s p) × Step (Unmarks p) (world_of s) (world_of (stayed s p)) × IsUnmarked s (stayed s p) p len ds place
  staying_all =
      let form : naming_of (read_of (s.cell p)) (read_of bare) ≡ Some naming.Stays =
      naming_only naming.Stays (read_of (s.cell p)) (read_of bare) (len, ds, place, m, near, alive, asked, unwanted, read_back (Near len ds place (unmarked m.dirty)) bare_layout) in
      let all = named s law p (s.cell p) bare naming.Stays refl form unmark_fits unmark_legal in
      let is = sym (ap (stayed_of s p) near) in (
        subst (Reached s) is all.0,
        subst Law is all.1,
        subst (λ (t : State). Step (Unmarks p) (world_of s) (world_of t)) is all.2,
        subst (λ (t : State). IsUnmarked s t p len ds place) (sym (stayed_is s p len ds place m near alive asked unwanted bare_layout)) record {
          cell = ap read_of (put_same s.cell p bare p refl) ∙ read_back (Near len ds place (unmarked m.dirty)) bare_layout ∙ ap (λ b. Some (Near len ds place (unmarked b))) (sym (ap is_dirty near));
          cells = λ q ne. put_other s.cell p bare q ne;
          words = λ a. refl;
          tails = λ l. refl;
          kinds = λ l. refl;
        },
      )

pub staying : StayingIsLegal
staying s p len ds place m law near asked alive unwanted = staying_all s law p len ds place m near asked alive unwanted
