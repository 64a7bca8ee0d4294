-- What the book's calls are allowed, and what they leave, by a ledger that is right.
use Rattle.std.proofs.Common.{◌≡◌, ◌≢◌, ℕ, ◌+◌, ◌*◌, ◌<◌, ◌≤◌, ◌^◌, Bool, true, false, cond, arith, sym, refl, ap, subst, ◌∙◌, Option, Some, None, inl, inr}
use Rattle.std.specs.Prelude.{◌==◌, ◌&&◌, not, IsSome}
use Rattle.std.specs.Vec.{vec_len}
use Rattle.std.proofs.lemmas.Bool.{cases_eq, cases_lt, eq-eqb, ne_eqb, false≢true}
use mathlib.Core.Path.{fun_ext}
use Rattle.far_word.specs.declared.mark.Marks.{Marks}
use Rattle.far_word.specs.declared.pointer.Place.{Place}
use Rattle.far_word.specs.declared.pointer.PtrWord.{PtrWord}
use Rattle.far_word.specs.declared.pointer.PtrWord.TheVariants.{Free, Near, Far}
use Rattle.far_word.specs.declared.sizes.TheConstants.{CELLS, LONGEST}
use Rattle.far_word.specs.Header.{head_word}
use Rattle.far_word.specs.Pointer.{IsPtr, read_of}
use Rattle.far_word.specs.Sizes.{size_of, words_for}
use Rattle.far_word.proofs.PointerLaws.{read_says, read_back}
use Rattle.far_events.specs.declared.event.Event.TheVariants as events
use Rattle.far_events.specs.declared.naming.Naming.TheVariants as naming
use Rattle.far_events.specs.events.Legal.{Legal, IsNext}
use Rattle.far_events.specs.events.Naming.{is_dropped, no_marks, unmarked}
use Rattle.far_events.specs.events.Ranges.{with_row}
use Rattle.far_events.specs.events.Step.{after}
use Rattle.far_core.specs.laws.Rooms.{IsRoom, RoomIs}
use Rattle.far_events.specs.state.Law.{Law}
use Rattle.far_core.specs.state.Room.{room}
use Rattle.far_events.specs.state.Spans.{names_place}
use Rattle.far_events.specs.state.State.{State, put, addr}
use Rattle.far_events.proofs.Cells.{unused}
use Rattle.far_events.proofs.Put.{put_both, put_same, put_other}
use Rattle.far_core.proofs.RoomLaws.{room_right}
use Rattle.far_events.proofs.Rows.{row_in, row_out}
use Rattle.far_book.specs.declared.ledger.Ledger.{Ledger}
use Rattle.far_hand.specs.Finds.{Finds, body_of, marks_in}
use Rattle.far_book.specs.book.Effects.{retired, with_free_cell, with_blank_span, near_word}
use Rattle.far_book.specs.book.Ledger.{Notes, IsLowestFree, MayTake, MayTakeAgain, Takes, TakesAgain, is_noted_free}
use Rattle.far_book.specs.book.Own.{own_part}
use Rattle.far_book.specs.book.Placeable.{Placeable}
use Rattle.far_book.specs.book.Rows.{row_of}
use Rattle.far_book.proofs.region.Founds.{drop_found}
use Rattle.far_book.proofs.region.NotesKept.{current_taken, order_short}
use Rattle.far_book.proofs.region.Notings.{live_small}
use Rattle.far_book.proofs.region.Owns.{own_bare, own_live, own_dead}
use Rattle.far_book.proofs.region.Places.{at_end}
use Rattle.far_book.proofs.region.Retires.{freed_is, retired_is}

-- ---- what is read off
pub lowest_own : (s : State) (m : ℕ) (o : Option ℕ) → IsLowestFree (own_part s) m o → IsLowestFree s m o
lowest_own s m None h = h
lowest_own s m (Some p) h = h

pub row_own : (s : State) → Law (own_part s) → (l : ℕ) → row_of (own_part s) l ≡ row_of s l
row_own s law l = let live = own_live s law l in let dead = own_dead s law l in λ i. record (row_of s l) { live = sym live i; dead = sym dead i }

-- ---- placing
-- a free cell names no place
pub free_unplaced : (s : State) (p : ℕ) → s.cell p ≡ 0 → (l at : ℕ) → names_place (read_of (s.cell p)) l at ≡ false
free_unplaced s p free l at = rw (free, unused) refl

-- room was found for p's object, which lies nowhere
pub record HasRoom (s : State) (ledger : Ledger) (p len ds : ℕ) (place : Place) : Type 0 where
  pub notes : Notes (own_part s) ledger
  pub pointer : p < CELLS * s.mutators
  pub unplaced : (l at : ℕ) → names_place (read_of (s.cell p)) l at ≡ false
  pub some : 0 < len
  pub most : len ≤ LONGEST
  pub structure : ds < 256
  pub reserve : Bool
  pub found : room s (size_of len) reserve ≡ Some place

module _ {s : State} {ledger : Ledger} {p len ds : ℕ} {place : Place} (x : HasRoom s ledger p len ds place) where
  is_room : IsRoom (own_part s) (size_of len) x.reserve place
  is_room = subst (RoomIs (own_part s) (size_of len) x.reserve) x.found (room_right (own_part s) x.notes.law (size_of len) x.reserve (omega (arith, x.most)))

  pub placeable : Placeable (own_part s) p len ds place
  placeable = record {
    pointer = x.pointer;
    unplaced = x.unplaced;
    layout = (x.some, x.most, x.structure, omega (arith, is_room.next.0, x.notes.law.shape.few_logs), is_room.fits);
    next = is_room.next;
    bare = own_bare s;
  }

  pub ends : s.tail place.log ≡ place.at
  ends = sym (at_end (own_part s) x.notes.law p len ds place placeable)

  pub may_take : MayTake ledger p (size_of len) place
  may_take = record {
    few = omega (arith, is_room.next.0, x.notes.law.shape.few_logs);
    log = omega (arith, is_room.next.0, x.notes.logs);
    tail = omega (arith, x.notes.tails place.log is_room.next.0, ends, is_room.fits);
    live = live_small (own_part s) ledger place.log (x.notes, is_room.next.0);
    order = λ _. order_short (own_part s) ledger x.notes;
    taken = current_taken (own_part s) ledger x.notes;
    cell = omega (arith, x.notes.cells, x.pointer);
  }

  pub may_take_again : MayTakeAgain ledger (size_of len) place
  may_take_again = record { few = may_take.few; log = may_take.log; tail = may_take.tail; live = may_take.live; order = may_take.order; taken = may_take.taken }

  -- a pointer whose cell isn't free may be taken again
  pub taken_again : (s.cell p == 0) ≡ false → (new : Ledger) → TakesAgain ledger new (size_of len) place → Takes ledger new p (size_of len) place
  taken_again used new again = record {
    current = again.current;
    free = again.free;
    order = again.order;
    logs = again.logs;
    here = again.here;
    there = again.there;
    cells = ap (λ (n : Ledger). vec_len n.free_cells) again.rest;
    cell = λ q. ap (λ (n : Ledger). is_noted_free n q) again.rest ∙ still q;
    jobs = ap (λ (n : Ledger). n.jobs) again.rest;
  } where
    here_used : is_noted_free ledger p ≡ false
    here_used = x.notes.cell p x.pointer ∙ used

    still : (q : ℕ) → is_noted_free ledger q ≡ (not (q == p) && is_noted_free ledger q)
    still q = elim (cases_eq q p) [
      | inl e ↦ ap (is_noted_free ledger) e ∙ here_used ∙ sym (ap (λ b. not b && is_noted_free ledger q) (eq-eqb q p e))
      | inr ne ↦ sym (ap (λ b. not b && is_noted_free ledger q) (ne_eqb q p ne))
    ]

-- where a header and zeros are written at the end of a log, the span there may be named
pub may_name : (s : State) (p len ds : ℕ) (place : Place) → p < CELLS * s.mutators → IsPtr (Near len ds place no_marks) → IsNext s place → Legal (with_blank_span s p len ds place) (events.Name p 0 (near_word true len ds place))
may_name s p len ds place pointer layout next = (pointer, (naming.Places len ds place, (unused, read_back (Near len ds place (unmarked true)) layout), (record { next = next; head = header }, blank))) where
  header : with_row (put s.word (addr place) (head_word p len ds)) (addr place + 1) (words_for len) (λ _. 0) (addr place) ≡ head_word p len ds
  header = row_out (put s.word (addr place) (head_word p len ds)) (addr place + 1) (words_for len) (λ _. 0) (addr place) (inl (omega arith)) ∙ put_same s.word (addr place) (head_word p len ds) (addr place) refl

  blank : (i : ℕ) → i < words_for len → with_row (put s.word (addr place) (head_word p len ds)) (addr place + 1) (words_for len) (λ _. 0) (addr place + 1 + i) ≡ 0
  blank i lt = row_in (put s.word (addr place) (head_word p len ds)) (addr place + 1) (words_for len) (λ _. 0) (addr place + 1 + i) (omega arith) (omega arith)

-- ---- freeing
-- a cell that is written twice is as it was written last
pub put_put : (f : ℕ → ℕ) (p v w : ℕ) → put (put f p v) p w ≡ put f p w
put_put f p v w = fun_ext (λ q. put_both (λ x. x ≡ put f p w q) (put f p v) p w q (λ e. sym (put_same f p w q e))
    (λ ne. put_both (λ x. x ≡ put f p w q) f p v q (λ e. absurd (ne e)) (λ _. sym (put_other f p w q ne))))

-- the cell is named by the word that was found last
module _ (s t : State) (p w : ℕ) (is : t ≡ record s { cell = put s.cell p w }) (dropped : is_dropped (read_of (s.cell p)) ≡ true) (finds : Finds (s.cell p) w) where
  pub named_word : t.cell p ≡ w
  named_word = ap (λ (u : State). u.cell p) is ∙ put_same s.cell p w p refl

  pub still_dropped : is_dropped (read_of w) ≡ true
  still_dropped = drop_found (s.cell p) w finds dropped

  pub after_is : after t (events.Name p w 0) ≡ retired s p
  after_is = freed_is t p w named_word still_dropped ∙ ap (λ u. with_free_cell u p) is ∙ (λ i. record s { cell = put_put s.cell p w 0 i }) ∙ sym (retired_is s p dropped)

-- ---- four tries are enough: each word that is found has a mark more
abbrev bit : Bool → ℕ
bit b = cond b 1 0

-- how many marks an owner has added
abbrev pub count : Option PtrWord → ℕ
count o = bit (marks_in o).hot + bit (marks_in o).moved + bit (marks_in o).dropped + bit (marks_in o).dirty

-- a dropped object has one
pub dropped_counts : (o : Option PtrWord) → is_dropped o ≡ true → 1 ≤ count o
dropped_counts None h = absurd (false≢true h)
dropped_counts (Some Free) h = absurd (false≢true h)
dropped_counts (Some (Near len ds place m)) h = let e : bit m.dropped ≡ 1 = ap bit h in omega (arith, e)
dropped_counts (Some (Far len ds m)) h = let e : bit m.dropped ≡ 1 = ap bit h in omega (arith, e)

bit_grows : (a b : Bool) → (a ≡ true → b ≡ true) → bit a ≤ bit b
bit_grows true b h = let e : bit b ≡ 1 = ap bit (h refl) in omega arith
bit_grows false b h = omega arith

bit_same : (a b : Bool) → (a ≡ true → b ≡ true) → bit b ≤ bit a → b ≡ a
bit_same true b h le = h refl
bit_same false true h le = absurd (omega arith)
bit_same false false h le = refl

same_by : (o n : Option PtrWord) → body_of n ≡ body_of o → (marks_in n).hot ≡ (marks_in o).hot → (marks_in n).moved ≡ (marks_in o).moved → (marks_in n).dropped ≡ (marks_in o).dropped → (marks_in n).dirty ≡ (marks_in o).dirty → IsSome o → n ≡ o
same_by None n body hot moved dropped dirty some = absurd (false≢true some)
same_by (Some Free) (Some Free) body hot moved dropped dirty some = refl
same_by (Some (Near n d at k)) (Some (Near len ds place m)) body hot moved dropped dirty some =
    let lens : len ≡ n = cc in
    let dss : ds ≡ d = cc in
    let places : place ≡ at = cc in
    let bare : record { hot = false; evac = m.evac; moved = false; dropped = false; dirty = false } ≡ record { hot = false; evac = k.evac; moved = false; dropped = false; dirty = false } = cc in
    let evac : m.evac ≡ k.evac = ap (λ (x : Marks). x.evac) bare in
    λ i. Some (Near (lens i) (dss i) (places i) record { hot = hot i; evac = evac i; moved = moved i; dropped = dropped i; dirty = dirty i })
same_by (Some (Far n d k)) (Some (Far len ds m)) body hot moved dropped dirty some =
    let lens : len ≡ n = cc in
    let dss : ds ≡ d = cc in
    let bare : record { hot = false; evac = m.evac; moved = false; dropped = false; dirty = false } ≡ record { hot = false; evac = k.evac; moved = false; dropped = false; dirty = false } = cc in
    let evac : m.evac ≡ k.evac = ap (λ (x : Marks). x.evac) bare in
    λ i. Some (Far (lens i) (dss i) record { hot = hot i; evac = evac i; moved = moved i; dropped = dropped i; dirty = dirty i })
same_by o n body hot moved dropped dirty some = absurd cc

pub some_dropped : (o : Option PtrWord) → is_dropped o ≡ true → IsSome o
some_dropped None h = absurd (false≢true h)
some_dropped (Some v) h = refl

same_word : (v w : ℕ) (o : Option PtrWord) → v < 2 ^ 64 → w < 2 ^ 64 → read_of v ≡ o → read_of w ≡ o → IsSome o → w ≡ v
same_word v w None fv fw ev ew some = absurd (false≢true some)
same_word v w (Some u) fv fw ev ew some = sym (read_says w u fw ew).1 ∙ (read_says v u fv ev).1

pub count_more : (v w : ℕ) → v < 2 ^ 64 → w < 2 ^ 64 → IsSome (read_of v) → Finds v w → w ≢ v → count (read_of v) < count (read_of w)
count_more v w fv fw some f other = elim (cases_lt (count (read_of v)) (count (read_of w))) [
  | inl lt ↦ lt
  | inr le ↦ (
      let h = bit_grows (marks_in (read_of v)).hot (marks_in (read_of w)).hot f.hot in
      let m = bit_grows (marks_in (read_of v)).moved (marks_in (read_of w)).moved f.moved in
      let d = bit_grows (marks_in (read_of v)).dropped (marks_in (read_of w)).dropped f.dropped in
      let e = bit_grows (marks_in (read_of v)).dirty (marks_in (read_of w)).dirty f.dirty in
      absurd (other (same_word v w (read_of v) fv fw refl (same_by (read_of v) (read_of w) f.body
      (bit_same (marks_in (read_of v)).hot (marks_in (read_of w)).hot f.hot (omega arith))
      (bit_same (marks_in (read_of v)).moved (marks_in (read_of w)).moved f.moved (omega arith))
      (bit_same (marks_in (read_of v)).dropped (marks_in (read_of w)).dropped f.dropped (omega arith))
      (bit_same (marks_in (read_of v)).dirty (marks_in (read_of w)).dirty f.dirty (omega arith))
      some) some)))
]
