-- What a fetch knows from the word that it found and the place that it got.
use Rattle.std.proofs.Common.{◌≡◌, ℕ, ◌*◌, ◌/◌, ◌%◌, ◌^◌, ◌<◌, ◌≤◌, Bool, true, false, arith, sym, refl, ap, subst, ◌∙◌, Option, Some, List, length}
use Rattle.std.specs.Prelude.{IsSome, IfSome, is_some}
use Rattle.std.proofs.lemmas.Bool.{false_from_ne_true}
use Rattle.far_word.specs.declared.mark.Marks.{Marks}
use Rattle.far_word.specs.declared.pointer.Place.{Place}
use Rattle.far_word.specs.declared.pointer.PtrWord.TheVariants.{Far}
use Rattle.far_word.specs.declared.sizes.TheConstants.{CELLS, LOG_WORDS, LONGEST}
use Rattle.far_word.specs.Bytes.{bytes_of, packed_word}
use Rattle.far_word.specs.Pointer.{IsPtr, read_of}
use Rattle.far_word.specs.Sizes.{size_of, words_for}
use Rattle.far_word.proofs.PointerLaws.{read_says}
use Rattle.far_events.specs.events.Copies.{Alike}
use Rattle.far_events.specs.events.Naming.{is_dropped}
use Rattle.far_events.specs.state.Law.{IsStored}
use Rattle.far_core.specs.state.Room.{room}
use Rattle.far_events.specs.state.Spans.{names_place}
use Rattle.far_events.specs.state.State.{State}
use Rattle.far_events.proofs.Put.{put_same}
use Rattle.far_book.specs.declared.ledger.Ledger.{Ledger}
use Rattle.far_hand.specs.Finds.{Finds}
use Rattle.far_hand.specs.Known.{Forgets}
use Rattle.far_book.specs.book.Asking.{HasGiven}
use Rattle.far_book.specs.book.Dealing.{IsSeen, LeavesSpans}
use Rattle.far_book.specs.book.Effects.{fetched, near_word, with_written_span}
use Rattle.far_book.specs.book.FarSide.{InOrder, kept_len}
use Rattle.far_book.specs.book.Fetching.{IsFetched, far_len, room_for}
use Rattle.far_book.specs.book.Own.{own_part}
use Rattle.far_book.specs.book.Placeable.{Placeable}
use Rattle.far_book.specs.book.Renaming.{Renamed, seen}
use Rattle.far_hand.proofs.Finding.{finds_is, finds_more}
use Rattle.far_book.proofs.region.Calls.{HasRoom, placeable, put_put}
use Rattle.far_book.proofs.region.Fetched.{come_forgot, come_kept, far_unplaced, fetched_by, fetched_seen, given_word, known, known_alive, not_asked, room_is, written_below, written_header, written_in_order}

-- s0 is the state at the call; in s a word was found in p's cell, which says that p's object is far
pub record FarFound (s0 s : State) (p word len ds : ℕ) (m : Marks) : Type 0 where
  pub finds : Finds (s0.cell p) word
  pub fits : word < 2 ^ 64
  pub far : read_of word ≡ Some (Far len ds m)
  pub same : s ≡ seen s0 p word
  pub pointer : p < CELLS * s0.mutators

-- ... and this the ledger told of room for it
pub record RoomTold (s0 s : State) (p word len ds : ℕ) (m : Marks) (ledger : Ledger) (contents : ℕ → Option (List ℕ)) (is_honest : Bool) (size : ℕ) (o : Option Place) : Type 0 where
  pub found : FarFound s0 s p word len ds m
  pub order : InOrder s ledger contents is_honest
  pub size_is : size ≡ size_of len
  pub told : o ≡ room (own_part s) size true

module _ {s0 s : State} {p word len ds : ℕ} {m : Marks} (x : FarFound s0 s p word len ds m) where
  pub here : s.cell p ≡ word
  here = ap (λ (t : State). t.cell p) x.same ∙ put_same s0.cell p word p refl

  pub now : read_of (s.cell p) ≡ Some (Far len ds m)
  now = ap read_of here ∙ x.far

  pub layout : IsPtr (Far len ds m)
  layout = (read_says word (Far len ds m) x.fits x.far).0

  pub pointer : p < CELLS * s.mutators
  pointer = subst (λ (t : State). p < CELLS * t.mutators) (sym x.same) x.pointer

  unplaced : (l at : ℕ) → names_place (read_of (s.cell p)) l at ≡ false
  unplaced = far_unplaced s p len ds m now

  finds_now : Finds (s.cell p) word
  finds_now = finds_is (s.cell p) word (sym here)

  pub words_same : s.word ≡ s0.word
  words_same = ap (λ (t : State). t.word) x.same

  -- the object before
  was : (k : Marks) × (read_of (s0.cell p) ≡ Some (Far len ds k))
  was = known s0 p word x.finds len ds m x.far

  pub was_long : far_len (read_of (s0.cell p)) ≡ len
  was_long = ap far_len was.1

  pub is_fetched : {still : Type 0} {t : State} {place : Place} {bytes : List ℕ} (promised : Bool) → HasGiven still s0 t p place bytes → IsStored (packed_word bytes) len →
      (promised ≡ true → Alike (packed_word bytes) (s.stored p) (words_for len)) → IsFetched still promised s0 t p place
  is_fetched {still} {t} {place} {bytes} promised given padded same = fetched_by still promised s0 t p len ds place was.0 was.1 (packed_word bytes) given.kept given.forgot given.exact padded
      (λ e i lt. same e i lt ∙ ap (λ (u : State). u.stored p i) x.same)

  pub unasked : m.dropped ≡ false → is_dropped (read_of (s0.cell p)) ≡ true → ⊥
  unasked alive = not_asked s0 p word x.finds len ds m x.far alive

  pub was_alive : m.dropped ≡ false → is_dropped (read_of (s0.cell p)) ≡ false
  was_alive alive = false_from_ne_true (is_dropped (read_of (s0.cell p))) (unasked alive)

  pub is_seen : m.dropped ≡ false → IsSeen s0 s p
  is_seen alive = record {
    word = word;
    found = x.finds;
    alive = ap is_dropped x.far ∙ alive;
    leads = x.same ∙ ap (λ f. record (seen s0 p word) { word = f }) (sym words_same);
    keeps = record { known = λ a _ _. ap (λ (f : ℕ → ℕ). f a) words_same; headers = λ a _. ap (λ (f : ℕ → ℕ). f a) words_same };
  }

  pub left_here : LeavesSpans (seen s0 p word) s
  left_here = record {
    is = x.same ∙ ap (λ f. record (seen s0 p word) { word = f }) (sym words_same);
    known = λ a _ _ _. ap (λ (f : ℕ → ℕ). f a) words_same;
    headers = λ a _. ap (λ (f : ℕ → ℕ). f a) words_same;
  }

-- what the ledger told of room
module _ {s0 s : State} {p word len ds : ℕ} {m : Marks} {ledger : Ledger} {contents : ℕ → Option (List ℕ)} {is_honest : Bool} {size : ℕ} {o : Option Place} (h : RoomTold s0 s p word len ds m ledger contents is_honest size o) where
  there : room s (size_of len) true ≡ o
  there = ap (λ n. room s n true) (sym h.size_is) ∙ sym h.told

  pub room_was : room_for s0 p ≡ o
  room_was = room_is s0 p word h.found.finds len ds m h.found.far ∙ ap (λ (t : State). room t (size_of len) true) (sym h.found.same) ∙ there

  stored : IsStored (s.stored p) len
  stored = h.order.notes.law.cells.cell_far p len ds m (now h.found)

  -- bytes of its length are held; where the far side is honest, those that are stored
  has : (bytes : List ℕ) × (contents p ≡ Some bytes) × (length bytes ≡ len)
  has = h.order.far.long p len (ap kept_len (now h.found))

  held : s.honest ≡ true → contents p ≡ Some (bytes_of (s.stored p) len)
  held promised = h.order.far.same promised p len (ap kept_len (now h.found))

  -- what the device gave
  module _ (bytes : List ℕ) (given : IfSome (contents p) (λ stored. bytes ≡ stored)) where
    pub as_long : length bytes ≡ len
    as_long = ap length (subst (λ (o : Option (List ℕ)). IfSome o (λ b. bytes ≡ b)) has.1 given) ∙ has.2

    pub as_stored : s.honest ≡ true → (i : ℕ) → i < words_for len → packed_word bytes i ≡ s.stored p i
    as_stored promised = given_word (s.stored p) len stored (contents p) (held promised) bytes given

  -- whoever has room for the longest object has room for what is held
  pub holds_all : (P : Type 0) (space : ℕ) → LONGEST ≤ space → IfSome (contents p) (λ stored. length stored ≤ space → P) → P
  holds_all P space most may = subst (λ (o : Option (List ℕ)). IfSome o (λ stored. length stored ≤ space → P)) has.1 may (omega (arith, has.2, (layout h.found).1, most))

  pub is_held : IsSome (contents p)
  is_held = ap is_some has.1

  module _ (place : Place) (is : o ≡ Some place) where
    pub some_room : IsSome (room_for s0 p)
    some_room = ap is_some (room_was ∙ is)

    pub has_room : HasRoom s ledger p len ds place
    has_room = record {
      notes = h.order.notes;
      pointer = pointer h.found;
      unplaced = unplaced h.found;
      some = (layout h.found).0;
      most = (layout h.found).1;
      structure = (layout h.found).2;
      reserve = true;
      found = there ∙ is;
    }

    able : Placeable (own_part s) p len ds place
    able = placeable has_room

    -- another word was found once the object's words had been written
    module _ (row : ℕ → ℕ) (u : State) (w : ℕ) (kept : u ≡ seen (with_written_span s p len ds place row) p w) where
      same_below : (a : ℕ) → a % LOG_WORDS < s0.tail (a / LOG_WORDS) → u.word a ≡ s0.word a
      same_below a lt = ap (λ (v : State). v.word a) kept
          ∙ written_below s h.order.notes.law p len ds place row able a (subst (λ (v : State). a % LOG_WORDS < v.tail (a / LOG_WORDS)) (sym h.found.same) lt)
          ∙ ap (λ (f : ℕ → ℕ). f a) (words_same h.found)

      pub left_written : LeavesSpans (seen s0 p w) u
      left_written = record {
        is = (let e = kept ∙ ap (λ (v : State). seen (with_written_span v p len ds place row) p w) h.found.same in (λ i. record (e i) { word = u.word }) ∙ (λ i. record s0 { cell = put_put s0.cell p word w i; word = u.word }));
        known = λ a lt _ _. same_below a lt;
        headers = λ a begun. ap (λ (v : State). v.word a) kept
            ∙ written_header s h.order.notes.law p len ds place row able a (ap (λ (v : State). v.starts a) h.found.same ∙ begun) ∙ ap (λ (f : ℕ → ℕ). f a) (words_same h.found);
      }

      pub order_written : w < 2 ^ 64 → Finds word w → InOrder u ledger contents is_honest
      order_written fits finds = subst (λ (v : State). InOrder v ledger contents is_honest) (sym kept)
          (written_in_order s h.order.notes.law p len ds place row able ledger contents is_honest h.order w fits (finds_more (s.cell p) word w (finds_now h.found) finds))

      -- and nothing is learned as it is retired
      pub unread_written : (t : State) → Forgets u t → (a : ℕ) → a % LOG_WORDS < s0.tail (a / LOG_WORDS) → t.word a < 2 ^ 64 → s0.word a < 2 ^ 64
      unread_written t forgot a lt k = subst (λ n. n < 2 ^ 64) (forgot.known a k ∙ same_below a lt) k

    -- the cell was named then
    module _ (bytes : List ℕ) (alive : m.dropped ≡ false) (t : State) (done : Renamed (with_written_span s p len ds place (packed_word bytes)) t p (near_word false len ds place)) where
      as_seen : fetched s p place (packed_word bytes) ≡ fetched s0 p place (packed_word bytes)
      as_seen =
          let x = h.found in
          let old = known s0 p word x.finds len ds m x.far in
          ap (λ (u : State). fetched u p place (packed_word bytes)) x.same
          ∙ fetched_seen s0 p word len ds place (packed_word bytes) m old.0 x.far alive old.1 (known_alive s0 p word x.finds len ds m x.far alive) able.layout

      pub has_given : (still : Type 0) → (still → t ≡ fetched s p place (packed_word bytes)) → length bytes ≡ len → HasGiven still s0 t p place bytes
      has_given still set long = record {
        long = long ∙ sym (was_long h.found);
        kept = come_kept s t p len ds place (packed_word bytes) m (now h.found) alive able.layout done ∙ (λ i. record (as_seen i) { word = t.word });
        forgot = subst (λ (u : State). Forgets u t) as_seen (come_forgot s t p len ds place (packed_word bytes) m (now h.found) alive able.layout done);
        exact = λ e. set e ∙ as_seen;
      }
