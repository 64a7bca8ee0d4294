-- A far object has come near: the law stays, a ledger that was right is right again, and a book is in order.
use Rattle.std.proofs.Common.{◌≡◌, ℕ, ◌+◌, ◌-◌, ◌*◌, ◌/◌, ◌%◌, ◌^◌, ◌<◌, Bool, true, false, arith, sym, refl, ap, subst, ◌∙◌, Option, Some, List, inl, inr}
use Rattle.std.specs.Prelude.{IfSome}
use Rattle.std.proofs.lemmas.Bool.{cases_lt, cases_order, eq-eqb, false≢true, false_from_ne_true}
use Rattle.std.proofs.lemmas.Nat.{pow_pos}
use Rattle.far_word.specs.declared.mark.Marks.{Marks}
use Rattle.far_word.specs.declared.pointer.Place.{Place}
use Rattle.far_word.specs.declared.pointer.PtrWord.TheVariants.{Near, Far}
use Rattle.far_word.specs.declared.sizes.TheConstants.{LOG_WORDS}
use Rattle.far_word.specs.Bytes.{bytes_of, packed_word}
use Rattle.far_word.specs.Header.{head_word}
use Rattle.far_word.specs.Pointer.{IsPtr, read_of}
use Rattle.far_word.specs.Sizes.{size_of, words_for}
use Rattle.far_word.proofs.ByteLaws.{packs_back}
use Rattle.far_word.proofs.PointerLaws.{read_back, word_fits}
use Rattle.far_events.specs.declared.event.Event.TheVariants as events
use Rattle.far_events.specs.declared.naming.Naming.TheVariants as naming
use Rattle.far_events.specs.events.Copies.{Alike}
use Rattle.far_events.specs.events.Naming.{is_dropped, no_marks}
use Rattle.far_events.specs.events.NewSpans.{with_span}
use Rattle.far_events.specs.events.Step.{after}
use Rattle.far_events.specs.state.Law.{Law, IsStored}
use Rattle.far_core.specs.state.Room.{room}
use Rattle.far_events.specs.state.Spans.{names_place}
use Rattle.far_events.specs.state.State.{State, put, addr}
use Rattle.far_core.proofs.Owing.{keeps}
use Rattle.far_events.proofs.Put.{put_same}
use Rattle.far_book.specs.declared.ledger.Ledger.{Ledger}
use Rattle.far_hand.specs.Finds.{Finds, body_of, marks_in}
use Rattle.far_hand.specs.Known.{Forgets}
use Rattle.far_book.specs.book.Effects.{fetched, near_word, with_written_span}
use Rattle.far_book.specs.book.FarSide.{InOrder, kept_len}
use Rattle.far_book.specs.book.Fetching.{IsFetched, far_len, room_for}
use Rattle.far_book.specs.book.Ledger.{Notes, Takes}
use Rattle.far_book.specs.book.Own.{own_part}
use Rattle.far_book.specs.book.Placeable.{Placeable, with_object}
use Rattle.far_book.specs.book.Renaming.{Renamed, seen}
use Rattle.far_book.proofs.region.Calls.{put_put}
use Rattle.far_book.proofs.region.Dirt.{not_dropped}
use Rattle.far_book.proofs.region.FarHeld.{still_named}
use Rattle.far_book.proofs.region.Moved.{near_leads}
use Rattle.far_book.proofs.region.Coming.{far_found, fetched_is, written_outside}
use Rattle.far_book.proofs.region.Founds.{drop_found}
use Rattle.far_book.proofs.region.InOrders.{found_keeps, headers_keep}
use Rattle.far_book.proofs.region.Leaving.{far_cell}
use Rattle.far_book.proofs.region.NotesKept.{notes_placed}
use Rattle.far_book.proofs.region.Owns.{own_forgets, own_written}
use Rattle.far_book.proofs.region.Places.{at_end, blank_behind, law_headed, none_past}

-- a far cell is named: the span is taken
pub named_far : (s : State) (p w len ds : ℕ) (place : Place) (m : Marks) → s.cell p ≡ w → read_of w ≡ Some (Far len ds m) → m.dropped ≡ false → IsPtr (Near len ds place no_marks) →
    after s (events.Name p w (near_word false len ds place)) ≡ with_span s p (near_word false len ds place) len place
named_far s p w len ds place m is far alive layout = rw (eq-eqb (s.cell p) w is, far, read_back (Near len ds place no_marks) layout, eq-eqb len len refl, eq-eqb ds ds refl, alive) refl

-- a far cell names no place
pub far_unplaced : (s : State) (p len ds : ℕ) (m : Marks) → read_of (s.cell p) ≡ Some (Far len ds m) → (l at : ℕ) → names_place (read_of (s.cell p)) l at ≡ false
far_unplaced s p len ds m e l at = rw e refl

-- ---- a word that was found is far
module _ (s : State) (p word : ℕ) (f : Finds (s.cell p) word) (len ds : ℕ) (m : Marks) (far : read_of word ≡ Some (Far len ds m)) where
  pub known : (k : Marks) × (read_of (s.cell p) ≡ Some (Far len ds k))
  known = far_cell (read_of (s.cell p)) len ds m (ap body_of (sym far) ∙ f.body)

  -- it wasn't known to be dropped, if it isn't
  pub known_alive : m.dropped ≡ false → known.0.dropped ≡ false
  known_alive alive = false_from_ne_true known.0.dropped (λ h.
      let then : (marks_in (read_of word)).dropped ≡ true = f.dropped (ap (λ o. (marks_in o).dropped) known.1 ∙ h) in
      false≢true (sym alive ∙ (sym (ap (λ o. (marks_in o).dropped) far) ∙ then)))

  pub not_asked : m.dropped ≡ false → is_dropped (read_of (s.cell p)) ≡ true → ⊥
  not_asked alive h = false≢true (sym alive ∙ (sym (ap is_dropped far) ∙ drop_found (s.cell p) word f h))

  pub room_is : room_for s p ≡ room s (size_of len) true
  room_is = ap (λ o. room s (size_of (far_len o)) true) known.1

-- ---- what the device gave
module _ (stored : ℕ → ℕ) (len : ℕ) (is : IsStored stored len) (held : Option (List ℕ)) (far : held ≡ Some (bytes_of stored len)) (bytes : List ℕ) (given : IfSome held (λ h. bytes ≡ h)) where
  pub given_is : bytes ≡ bytes_of stored len
  given_is = subst (λ o. IfSome o (λ h. bytes ≡ h)) far given

  pub given_word : (i : ℕ) → i < words_for len → packed_word bytes i ≡ stored i
  given_word i lt = ap (λ b. packed_word b i) given_is ∙ packs_back stored len i (is i lt).0 (is i lt).1

-- ---- the law
module _ (s : State) (law : Law s) (p len ds : ℕ) (place : Place) (h : Placeable s p len ds place) (m : Marks) (far : read_of (s.cell p) ≡ Some (Far len ds m)) (alive : m.dropped ≡ false) where
  abbrev headed : State
  headed = record s { word = put s.word (addr place) (head_word p len ds) }

  -- where nothing is promised of the far side
  pub law_come : s.honest ≡ false → Law (with_object s false p len ds place)
  law_come unpromised =
      let last : words_for len - 1 < words_for len = omega (arith, h.layout) in
      let some : 0 < 2 ^ (8 * (len - 8 * (words_for len - 1))) = pow_pos (8 * (len - 8 * (words_for len - 1))) in
      subst Law (named_far headed p (s.cell p) len ds place m refl far alive h.layout)
      (keeps headed (events.Name p (s.cell p) (near_word false len ds place)) (law_headed s law p len ds place h) ((law.cells.cell_read p).0, word_fits (Near len ds place no_marks) h.layout) (
        h.pointer,
        (
          naming.Fetches len ds place,
          ((m, far, alive), read_back (Near len ds place no_marks) h.layout),
          record {
            span = record { next = h.next; head = put_same s.word (addr place) (head_word p len ds) (addr place) refl };
            padded = omega (arith, blank_behind s law p len ds place h (words_for len - 1) last);
            stored = λ honest. absurd (false≢true (sym unpromised ∙ honest));
          },
        ),
      ))

-- ---- the cell is named by the word found last
module _ (s t : State) (p len ds : ℕ) (place : Place) (row : ℕ → ℕ) (k : Marks) (far : read_of (s.cell p) ≡ Some (Far len ds k)) (alive : k.dropped ≡ false) (layout : IsPtr (Near len ds place no_marks)) where
  abbrev come : State
  come = with_span (with_written_span s p len ds place row) p (near_word false len ds place) len place

  pub fetched_come : fetched s p place row ≡ come
  fetched_come = fetched_is s p len ds place row k far ∙ named_far (with_written_span s p len ds place row) p (s.cell p) len ds place k refl far alive layout

  module _ (named : Renamed (with_written_span s p len ds place row) t p (near_word false len ds place)) where
    leads : t ≡ record come { word = t.word }
    leads =
        let word = named.word in
        let now = far_found (s.cell p) word len ds k named.found far in
        let here : (seen (with_written_span s p len ds place row) p word).cell p ≡ word = put_same s.cell p word p refl in
        let still : now.0.dropped ≡ false = sym (ap is_dropped now.1) ∙ not_dropped (s.cell p) word named.alive in
        let is = named_far (seen (with_written_span s p len ds place row) p word) p word len ds place now.0 here now.1 still layout in
        near_leads (with_written_span s p len ds place row) t p false len ds place layout named ∙ (λ i. record (is i) { word = t.word }) ∙ (λ i. record come { cell = put_put s.cell p word (near_word false len ds place) i; word = t.word })

    forgot : Forgets come t
    forgot = record { known = named.forgot.known; headers = named.forgot.headers }

    pub come_kept : t ≡ record (fetched s p place row) { word = t.word }
    come_kept = leads ∙ (λ i. record (sym fetched_come i) { word = t.word })

    pub come_forgot : Forgets (fetched s p place row) t
    come_forgot = subst (λ (u : State). Forgets u t) (sym fetched_come) forgot

    module _ (ledger new : Ledger) (held now : ℕ → Option (List ℕ)) (is_honest : Bool) (h : InOrder s ledger held is_honest) (able : Placeable (own_part s) p len ds place)
        (takes : Takes ledger new p (size_of len) place) (keys : (q : ℕ) → now q ≡ held q) where
      own : own_part t ≡ with_object (own_part s) false p len ds place
      own = own_forgets come t leads forgot ∙ own_written s h.notes.law p len ds place able false row

      pub come_in_order : InOrder t new now is_honest
      come_in_order = record {
        notes = subst (λ (u : State). Notes u new) (sym own)
            (notes_placed (own_part s) ledger new h.notes p len ds place able false (law_come (own_part s) h.notes.law p len ds place able k far alive refl) takes);
        far = still_named s t held now h.far p (near_word false len ds place) (ap (λ (u : State). u.honest) leads) (ap (λ (u : State). u.cell) leads) (λ q _. ap (λ (u : State). u.stored q) leads) (λ q _. keys q)
            (ap kept_len (read_back (Near len ds place no_marks) layout) ∙ sym (ap kept_len far)) (keys p) (ap (λ (u : State). u.stored p) leads);
        honest = λ e. h.honest (sym (ap (λ (u : State). u.honest) leads) ∙ e);
      }

-- ---- what was written at the end of a log is no word of a span
module _ (s : State) (law : Law (own_part s)) (p len ds : ℕ) (place : Place) (row : ℕ → ℕ) (able : Placeable (own_part s) p len ds place) where
  pub written_header : (a : ℕ) → s.starts a ≡ true → (with_written_span s p len ds place row).word a ≡ s.word a
  written_header a begun = elim (cases_lt a (addr place)) [
    | inl low ↦ written_outside s p len ds place row a (inl low)
    | inr le ↦ elim (cases_lt a (addr place + size_of len)) [
      | inl lt ↦ (let at : addr place + (a - addr place) ≡ a = omega arith in
          absurd (false≢true (sym (none_past (own_part s) law p len ds place able (a - addr place) (omega (arith, able.layout))) ∙ ap s.starts at ∙ begun)))
      | inr high ↦ written_outside s p len ds place row a (inr high)
    ]
  ]

  pub written_below : (a : ℕ) → a % LOG_WORDS < s.tail (a / LOG_WORDS) → (with_written_span s p len ds place row).word a ≡ s.word a
  written_below a lt = elim (cases_order (a / LOG_WORDS) place.log) [
    | inl e ↦ (let tails : s.tail (a / LOG_WORDS) ≡ s.tail place.log = ap s.tail e in
        written_outside s p len ds place row a (inl (omega (arith, at_end (own_part s) law p len ds place able))))
    | inr order ↦ elim order [
      | inl below ↦ written_outside s p len ds place row a (inl (omega arith))
      | inr above ↦ written_outside s p len ds place row a (inr (omega (arith, able.layout)))
    ]
  ]

  -- so a book is in order where the word found last has DROP
  pub written_in_order : (ledger : Ledger) (held : ℕ → Option (List ℕ)) (is_honest : Bool) → InOrder s ledger held is_honest → (w : ℕ) → w < 2 ^ 64 → Finds (s.cell p) w →
      InOrder (seen (with_written_span s p len ds place row) p w) ledger held is_honest
  written_in_order ledger held is_honest h w fits f = found_keeps (with_written_span s p len ds place row) ledger held is_honest
      (headers_keep s ledger held is_honest h (with_written_span s p len ds place row) refl written_header) p w fits f

-- ---- what the call answers
pub fetched_by : (still : Type 0) (is_honest : Bool) (s t : State) (p len ds : ℕ) (place : Place) (k : Marks) → read_of (s.cell p) ≡ Some (Far len ds k) → (row : ℕ → ℕ) →
    t ≡ record (fetched s p place row) { word = t.word } → Forgets (fetched s p place row) t → (still → t ≡ fetched s p place row) → IsStored row len →
    (is_honest ≡ true → Alike row (s.stored p) (words_for len)) → IsFetched still is_honest s t p place
fetched_by still is_honest s t p len ds place k far row kept forgot exact padded same = record {
  row = row;
  kept = kept;
  forgot = forgot;
  padded = subst (λ o. IsStored row (far_len o)) (sym far) padded;
  stored = λ h. subst (λ o. Alike row (s.stored p) (words_for (far_len o))) (sym far) (same h);
  exact = exact;
}

-- a word more that was found makes no difference
pub fetched_seen : (s : State) (p w len ds : ℕ) (place : Place) (row : ℕ → ℕ) (m k : Marks) → read_of w ≡ Some (Far len ds m) → m.dropped ≡ false → read_of (s.cell p) ≡ Some (Far len ds k) → k.dropped ≡ false →
    IsPtr (Near len ds place no_marks) → fetched (seen s p w) p place row ≡ fetched s p place row
fetched_seen s p w len ds place row m k now alive before was layout =
    fetched_come (seen s p w) s p len ds place row m (ap read_of (put_same s.cell p w p refl) ∙ now) alive layout
    ∙ (λ i. record (come s s p len ds place row k before was layout) { cell = put_put s.cell p w (near_word false len ds place) i }) ∙ sym (fetched_come s s p len ds place row k before was layout)
