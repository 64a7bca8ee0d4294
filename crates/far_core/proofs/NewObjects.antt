-- A new object of given bytes: what its call leaves is what the events leave that it stands for.
use Rattle.std.proofs.Common.{◌≡◌, ℕ, ◌+◌, ◌-◌, ◌*◌, ◌/◌, ◌^◌, ◌<◌, ◌≤◌, true, false, arith, List, [], ◌∷◌, ◌++◌, Some, None, ap, refl, sym, subst, ◌∙◌, inl, length}
use Rattle.std.specs.Prelude.{◌⊎◌, IsSome, slice_index}
use Rattle.std.proofs.lemmas.Bool.{eq-eqb, false_from_ne_true}
use mathlib.Core.Path.{fun_ext}
use Rattle.far_word.specs.declared.pointer.Place.{Place}
use Rattle.far_word.specs.declared.pointer.PtrWord.{PtrWord}
use Rattle.far_word.specs.declared.pointer.PtrWord.TheVariants.{Near}
use Rattle.far_word.specs.declared.sizes.TheConstants.{CELLS, LOG_WORDS, LONGEST}
use Rattle.far_word.specs.declared.mark.Mark.TheVariants.{Dirty, Hot}
use Rattle.far_word.specs.Header.{IsHead, head_word}
use Rattle.far_word.specs.Pointer.{IsPtr, read_of, without_owner_marks, word_of}
use Rattle.far_word.specs.Sizes.{size_of, words_for}
use Rattle.far_word.proofs.HeaderLaws.{head_fits}
use Rattle.far_word.proofs.PointerLaws.{read_back, word_fits}
use Rattle.far_events.specs.declared.event.Event.{Event}
use Rattle.far_events.specs.declared.event.Event.TheVariants.{Adopt, Name, Put}
use Rattle.far_events.specs.declared.naming.Naming.TheVariants.{Places}
use Rattle.far_events.specs.events.Accesses.{IsAtRest, cools, moved_word, overwrites, overwritten, with_cell, written_word}
use Rattle.far_events.specs.events.Legal.{IsClosed, IsNext, Legal}
use Rattle.far_events.specs.events.Naming.{no_marks, unmarked}
use Rattle.far_events.specs.events.NewObjects.{made_with, made_word, places_zeros, places_with, words_with}
use Rattle.far_events.specs.events.NewSpans.{with_span}
use Rattle.far_events.specs.events.Pin.{place_to_view}
use Rattle.far_events.specs.events.Ranges.{AllLegal, after_events, puts, with_row}
use Rattle.far_events.specs.events.Step.{after, data_len, data_word, near_data, near_len}
use Rattle.far_events.specs.events.Written.{written_words}
use Rattle.far_core.specs.laws.Rooms.{IsRoom, RoomIs}
use Rattle.far_events.specs.state.Law.{Law, in_use}
use Rattle.far_core.specs.state.Room.{room}
use Rattle.far_events.specs.state.State.{State, addr, put}
use Rattle.far_core.proofs.Accesses.{cools_end, cools_keep, cools_legal, legal_all, legal_first, made_all, made_first, marked, over_end, over_keep, over_legal, reads}
use Rattle.far_events.proofs.Cells.{map_mark, unused}
use Rattle.far_core.proofs.KeepOwner.{nonzero}
use Rattle.far_events.proofs.NewSpans.{at_tail, unsealed}
use Rattle.far_core.proofs.Owing.{keeps}
use Rattle.far_events.proofs.Put.{put_both, put_other, put_same}
use Rattle.far_core.proofs.Ranges.{zeros_end, zeros_keep, zeros_legal}
use Rattle.far_core.proofs.RoomLaws.{room_right}
use Rattle.far_events.proofs.Rows.{row_in, row_out, row_same}
use Rattle.far_events.proofs.NewObjects.{none_written, found_words, found_row}

put_again : {X : Type 0} (f : ℕ → X) (k : ℕ) (x v : X) → put (put f k x) k v ≡ put f k v
put_again f k x v = fun_ext (λ q. put_both (λ y. y ≡ put f k v q) (put f k x) k v q (λ e. sym (put_same f k v q e)) (λ ne. put_other f k x q ne ∙ sym (put_other f k v q ne)))

-- when an object of this length with these first bytes may be made for p at a place, by its owner m
pub record MayMake (s : State) (m p len ds : ℕ) (place : Place) (bytes : List ℕ) : Type 0 where
  pub law : Law s
  pub closed : IsClosed s m
  pub fresh : s.remembered m ≡ None
  pub own : p / CELLS ≡ m
  pub free : s.cell p ≡ 0
  pub next : IsNext s place
  pub some : 0 < len
  pub inside : place.at + size_of len ≤ LOG_WORDS
  pub structure : ds < 256
  pub front : length bytes ≤ len
  pub small : (k : ℕ) → slice_index bytes k < 256

-- where room is
pub may_make : (s : State) (m p len ds : ℕ) (place : Place) (bytes : List ℕ) → Law s → IsClosed s m → s.remembered m ≡ None → p / CELLS ≡ m → s.cell p ≡ 0 → 0 < len → len ≤ LONGEST → ds < 256 →
    length bytes ≤ len → ((k : ℕ) → slice_index bytes k < 256) → room s (size_of len) true ≡ Some place → MayMake s m p len ds place bytes
may_make s m p len ds place bytes law closed fresh own free some most structure front small found =
    let is_room : IsRoom s (size_of len) true place = subst (RoomIs s (size_of len) true) found (room_right s law (size_of len) true (omega (arith, most))) in
    record { law = law; closed = closed; fresh = fresh; own = own; free = free; next = is_room.next; some = some; inside = is_room.fits; structure = structure; front = front; small = small }

module _ {s : State} {m p len ds : ℕ} {place : Place} {bytes : List ℕ} (x : MayMake s m p len ds place bytes) where
  pub pointer : p < CELLS * s.mutators
  pointer = omega (arith, x.closed.0, x.own)

  pub head : IsHead record { pointer = p; len = len; ds = ds }
  head = record { some = x.some; most = omega (arith, x.inside); structure = x.structure; cell = omega (arith, pointer, x.law.shape.few_mutators) }

  pub layout : IsPtr (Near len ds place no_marks)
  layout = (x.some, omega (arith, x.inside), x.structure, omega (arith, x.next.0, x.law.shape.few_logs), x.inside)

  front : words_for (length bytes) ≤ words_for len
  front = omega (arith, x.front)

  abbrev w : ℕ
  w = made_word len ds place

  says : read_of w ≡ Some (Near len ds place (unmarked true))
  says = read_back (Near len ds place (unmarked true)) layout

  w_fits : w < 2 ^ 64
  w_fits = word_fits (Near len ds place (unmarked true)) layout

  at_end : place.at ≡ s.tail place.log
  at_end = at_tail s x.law place x.next

  -- ---- the header is put
  abbrev put_header : Event
  put_header = Put place.log place.at (head_word p len ds)

  abbrev headed : State
  headed = after s put_header

  header_legal : Legal s put_header
  header_legal = (x.next.0, unsealed s place x.next, omega (arith, at_end), omega (arith, x.inside))

  law_headed : Law headed
  law_headed = keeps s put_header x.law (head_fits _ head) header_legal

  -- ---- and zeros behind it
  past : headed.tail place.log ≤ place.at + 1
  past = omega (arith, at_end)

  behind : place.at + 1 + words_for len ≤ LOG_WORDS
  behind = omega (arith, x.inside)

  abbrev zeros : List Event
  zeros = puts place.log (place.at + 1) (words_for len) (λ _. 0)

  abbrev blank : State
  blank = record s { word = with_row (put s.word (addr place) (head_word p len ds)) (addr place + 1) (words_for len) (λ _. 0) }

  blank_is : record headed { word = with_row headed.word (place.log * LOG_WORDS + (place.at + 1)) (words_for len) (λ _. 0) } ≡ blank
  blank_is = let there : place.log * LOG_WORDS + (place.at + 1) ≡ addr place + 1 = omega arith in ap (λ a. record headed { word = with_row headed.word a (words_for len) (λ _. 0) }) there

  zeros_made : after_events headed zeros ≡ blank
  zeros_made = zeros_end headed law_headed place.log (place.at + 1) (words_for len) x.next.0 (unsealed s place x.next) past behind ∙ blank_is

  law_blank : Law blank
  law_blank = subst Law blank_is (zeros_keep headed law_headed place.log (place.at + 1) (words_for len) x.next.0 (unsealed s place x.next) past behind)

  -- ---- the cell names them
  there_header : blank.word (addr place) ≡ head_word p len ds
  there_header = row_out (put s.word (addr place) (head_word p len ds)) (addr place + 1) (words_for len) (λ _. 0) (addr place) (inl (omega arith)) ∙ put_same s.word (addr place) (head_word p len ds) (addr place) refl

  there_zeros : (i : ℕ) → i < words_for len → blank.word (addr place + 1 + i) ≡ 0
  there_zeros i lt = row_in (put s.word (addr place) (head_word p len ds)) (addr place + 1) (words_for len) (λ _. 0) (addr place + 1 + i) (omega arith) (omega arith)

  abbrev name : Event
  name = Name p 0 w

  name_legal : Legal blank name
  name_legal = (pointer, (Places len ds place, (unused, says), (record { next = x.next; head = there_header }, there_zeros)))

  abbrev pub named : State
  named = with_span blank p w len place

  -- an object of zeros is placed
  pub named_is : after blank name ≡ named
  named_is = rw (eq-eqb (s.cell p) 0 x.free, unused, says) refl

  pub law_placed : Law (after blank name)
  law_placed = keeps blank name law_blank (omega arith, w_fits) name_legal

  pub law_named : Law named
  law_named = subst Law named_is law_placed

  -- ---- its owner takes it over
  here : named.cell p ≡ w
  here = put_same s.cell p w p refl

  reads_here : read_of (named.cell p) ≡ Some (Near len ds place (unmarked true))
  reads_here = ap read_of here ∙ says

  unused_so : s.used p ≡ false
  unused_so = false_from_ne_true (s.used p) (λ h. nonzero s x.law p h x.free)

  adopt_legal : Legal named (Adopt m p)
  adopt_legal = (x.closed.0, x.own, unused_so, ap in_use reads_here)

  abbrev pub taken : State
  taken = after named (Adopt m p)

  pub law_taken : Law taken
  law_taken = keeps named (Adopt m p) law_named tt adopt_legal

  -- ---- the bytes are written
  rest : IsAtRest taken m p
  rest = record { closed = x.closed; fresh = x.fresh; own = x.own; used = put_same s.used p true p refl }

  rests : place_to_view (read_of (taken.cell p)) ≡ Some place
  rests = ap place_to_view reads_here

  data_here : near_data (read_of (taken.cell p)) ≡ addr place + 1
  data_here = ap near_data reads_here

  long_here : data_len taken p ≡ len
  long_here = ap near_len reads_here

  fits_here : 0 + length bytes ≤ data_len taken p
  fits_here = omega (arith, long_here, x.front)

  abbrev base : ℕ → ℕ
  base = put s.word (addr place) (head_word p len ds)

  beside_here : (k : ℕ) → (k < addr place + 1) ⊎ (addr place + 1 + words_for len ≤ k) → taken.word k ≡ base k
  beside_here k out = row_out base (addr place + 1) (words_for len) (λ _. 0) k out

  blank_here : (k : ℕ) → k < words_for len → length bytes < 8 * k + 8 → taken.word (addr place + 1 + k) ≡ 0
  blank_here k lt short = there_zeros k lt

  abbrev row_at : ℕ → List ℕ
  row_at a = written_words (λ i. taken.word (a + i)) 0 bytes

  -- the words that are stored: those of the bytes
  words_are : row_at (near_data (read_of (taken.cell p))) ≡ written_words (λ _. 0) 0 bytes
  words_are = ap row_at data_here ∙ found_words base taken.word (addr place + 1) (words_for len) bytes front beside_here blank_here

  abbrev pub over : State
  over = overwritten taken p 0 bytes

  over_is : after_events taken (overwrites m p 0 (written_words (λ _. 0) 0 bytes)) ≡ over
  over_is = ap (λ ws. after_events taken (overwrites m p 0 ws)) (sym words_are) ∙ over_end taken law_taken m p rest place rests 0 bytes fits_here x.small

  overs_legal : AllLegal taken (overwrites m p 0 (written_words (λ _. 0) 0 bytes))
  overs_legal = subst (λ ws. AllLegal taken (overwrites m p 0 ws)) words_are (over_legal taken law_taken m p rest place rests 0 bytes fits_here x.small)

  pub law_over : Law over
  law_over = over_keep taken law_taken m p rest place rests 0 bytes fits_here x.small

  -- ---- HOT is taken away
  written_is : over.cell p ≡ written_word w
  written_is = put_same taken.cell p (written_word (taken.cell p)) p refl ∙ ap written_word here

  reads_over : read_of (over.cell p) ≡ Some (Near len ds place record { hot = true; evac = false; moved = false; dropped = false; dirty = true })
  reads_over =
      ap read_of (sym (ap (λ (f : ℕ → ℕ). f p) (marked taken law_taken m p rest place rests)))
      ∙ reads taken law_taken m p rest place rests ∙ ap (λ o. map_mark Dirty (map_mark Hot o)) reads_here

  pub rests_over : IsSome (place_to_view (read_of (over.cell p)))
  rests_over = rw reads_over refl

  rest_over : IsAtRest over m p
  rest_over = record { closed = x.closed; fresh = x.fresh; own = x.own; used = put_same s.used p true p refl }

  abbrev asked : ℕ
  asked = moved_word (written_word w)

  asked_is : moved_word (over.cell p) ≡ asked
  asked_is = ap moved_word written_is

  abbrev pub cold : State
  cold = with_cell over p w

  colds_legal : AllLegal over (cools m p asked w)
  colds_legal = subst (λ y. AllLegal over (cools m p y w)) asked_is (cools_legal over law_over m p rest_over len ds place _ reads_over refl w w_fits says)

  colds_end : after_events over (cools m p asked w) ≡ cold
  colds_end = ap (λ y. after_events over (cools m p y w)) (sym asked_is) ∙ cools_end over law_over m p rest_over len ds place _ reads_over refl w w_fits says

  pub law_cold : Law cold
  law_cold = cools_keep over law_over m p rest_over len ds place _ reads_over refl w w_fits says

  -- it is what `cool` leaves
  pub cold_is : (v : PtrWord) → read_of (over.cell p) ≡ Some v → cold ≡ with_cell over p (word_of (without_owner_marks v))
  cold_is v e =
      let both : Some (Near len ds place record { hot = true; evac = false; moved = false; dropped = false; dirty = true }) ≡ Some v = sym reads_over ∙ e in
      let same : Near len ds place record { hot = true; evac = false; moved = false; dropped = false; dirty = true } ≡ v = cc in
      ap (λ u. with_cell over p (word_of (without_owner_marks u))) same

  -- ---- all of it
  cell_is : cold.cell ≡ put s.cell p w
  cell_is = put_again (put s.cell p w) p (written_word (taken.cell p)) w ∙ put_again s.cell p w w

  word_is : over.word ≡ with_row base (addr place + 1) (words_for len) (words_with bytes)
  word_is =
      let at : data_word taken p (0 / 8) ≡ addr place + 1 = omega (arith, data_here) in
      (λ i. with_row taken.word (at i) (length (row_at (data_here i))) (λ k. slice_index (row_at (data_here i)) k))
      ∙ found_row base taken.word (addr place + 1) (words_for len) bytes front beside_here blank_here

  pub made_cold : cold ≡ made_with s p len ds place bytes
  made_cold = λ i. record taken { cell = cell_is i; word = word_is i }

  abbrev pub adopts_and_writes : List Event
  adopts_and_writes = Adopt m p ∷ overwrites m p 0 (written_words (λ _. 0) 0 bytes)

  pub over_then : after_events named adopts_and_writes ≡ over
  over_then = made_first named (Adopt m p) (overwrites m p 0 (written_words (λ _. 0) 0 bytes)) adopt_legal ∙ over_is

  over_legally : AllLegal named adopts_and_writes
  over_legally = legal_first named (Adopt m p) (overwrites m p 0 (written_words (λ _. 0) 0 bytes)) adopt_legal overs_legal

  placed_end : after_events s (places_zeros p len ds place) ≡ named
  placed_end = made_first s put_header (zeros ++ (name ∷ [])) header_legal ∙ made_all headed zeros (name ∷ []) ∙ ap (λ (u : State). after_events u (name ∷ [])) zeros_made ∙ made_first blank name [] name_legal ∙ named_is

  placed_legal : AllLegal s (places_zeros p len ds place)
  placed_legal = legal_first s put_header (zeros ++ (name ∷ [])) header_legal
      (legal_all headed zeros (name ∷ []) (zeros_legal headed law_headed place.log (place.at + 1) (words_for len) x.next.0 (unsealed s place x.next) past behind)
      (subst (λ (u : State). AllLegal u (name ∷ [])) (sym zeros_made) (name_legal, tt)))

  pub made_end : after_events s (places_with m p len ds place bytes) ≡ made_with s p len ds place bytes
  made_end = made_all s (places_zeros p len ds place) (adopts_and_writes ++ cools m p asked w) ∙ ap (λ (u : State). after_events u (adopts_and_writes ++ cools m p asked w)) placed_end
      ∙ made_all named adopts_and_writes (cools m p asked w) ∙ ap (λ (u : State). after_events u (cools m p asked w)) over_then ∙ colds_end ∙ made_cold

  pub made_legal : AllLegal s (places_with m p len ds place bytes)
  made_legal = legal_all s (places_zeros p len ds place) (adopts_and_writes ++ cools m p asked w) placed_legal (subst (λ (u : State). AllLegal u (adopts_and_writes ++ cools m p asked w)) (sym placed_end)
      (legal_all named adopts_and_writes (cools m p asked w) over_legally (subst (λ (u : State). AllLegal u (cools m p asked w)) (sym over_then) colds_legal)))

  pub made_keep : Law (made_with s p len ds place bytes)
  made_keep = subst Law made_cold law_cold

  -- without bytes it is left as it was placed
  pub made_empty : length bytes ≡ 0 → made_with s p len ds place bytes ≡ taken
  made_empty none = ap (λ (f : ℕ → ℕ). record taken { word = f }) (row_same base (addr place + 1) (words_for len) (words_with bytes) (λ _. 0) (λ k lt. none_written bytes k (omega (arith, none))))
