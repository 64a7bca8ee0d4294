-- An access of a closed owner leaves a book in order.
use Rattle.std.proofs.Common.{◌≡◌, ℕ, ◌+◌, ◌/◌, ◌^◌, ◌<◌, Bool, true, cond, ap, refl, subst, sym, ◌∙◌, List, [], ◌∷◌, ◌++◌, map, length, Option, Some, None}
use Rattle.std.specs.Prelude.{IsSome, false, slice_index}
use Rattle.std.specs.List.{range_with_len}
use Rattle.far_word.specs.declared.mark.Marks.{Marks}
use Rattle.far_word.specs.declared.pointer.Place.{Place}
use Rattle.far_word.specs.declared.pointer.PtrWord.{PtrWord}
use Rattle.far_word.specs.declared.pointer.PtrWord.TheVariants.{Near}
use Rattle.far_word.specs.Pointer.{read_of, without_owner_marks, word_of}
use Rattle.far_word.proofs.MaskLaws.{IsPtr-without_owner_marks}
use Rattle.far_word.proofs.PointerLaws.{read_back, read_says}
use Rattle.far_events.specs.declared.event.Event.{Event}
use Rattle.far_events.specs.declared.event.Kind.TheVariants.{Sealed}
use Rattle.far_events.specs.declared.event.Event.TheVariants.{Close, Store}
use Rattle.far_events.specs.events.Accesses.{heats, overwrites, with_cell}
use Rattle.far_events.specs.events.Pin.{place_to_view}
use Rattle.far_events.specs.events.Ranges.{after_events}
use Rattle.far_events.specs.events.Step.{Fits, step_of}
use Rattle.far_events.specs.state.Law.{Law}
use Rattle.far_events.specs.state.State.{State}
use Rattle.far_events.proofs.Rests.{rest_is}
use Rattle.far_events.proofs.Bounds.{some_of}
use Rattle.far_core.proofs.Keeps.{step_keeps}
use Rattle.far_events.proofs.Put.{put_same}
use Rattle.far_hand.specs.Makers.{is_others}
use Rattle.far_hand.proofs.OthersWork.{step_changes}
use Rattle.far_book.specs.declared.ledger.Ledger.{Ledger}
use Rattle.far_book.specs.book.FarSide.{HoldsFar, InOrder, kept_len}
use Rattle.far_book.specs.book.Ledger.{Notes}
use Rattle.far_book.specs.book.Own.{own_part}
use Rattle.far_book.specs.book.SealedLogs.{KeepsSealed}
use Rattle.far_book.proofs.region.FarHeld.{still_named}
use Rattle.far_book.proofs.region.Founds.{near_used, notes_seen}
use Rattle.far_book.proofs.region.Owned.{owned}
use Rattle.far_book.proofs.region.Owns.{own_law}
use Rattle.far_book.proofs.region.SealedKept.{one_cell}

-- each of these events is another's than the book's, and its word is one
abbrev pub AllOthers : List Event → Type 0
AllOthers [] = Unit {0}
AllOthers (e ∷ es) = ((is_others e ≡ true) × Fits e) × AllOthers es

module _ (ledger : Ledger) (held : ℕ → Option (List ℕ)) (is_honest : Bool) where
  -- legal or not
  pub all_owned : (es : List Event) → AllOthers es → (s : State) → Law s → InOrder s ledger held is_honest → InOrder (after_events s es) ledger held is_honest
  all_owned [] own s law h = h
  all_owned (e ∷ es) own s law h =
      let next : Law (step_of s e).0 = step_keeps s e law own.0.1 in
      all_owned es own.1 (step_of s e).0 next (owned s (step_of s e).0 law next (step_changes s e law own.0.0) ledger held is_honest h)

pub heats_owned : (m p : ℕ) → AllOthers (heats m p)
heats_owned m p = ((refl, tt), ((refl, tt), ((refl, tt), ((refl, tt), tt))))

stores_owned : (m p first : ℕ) (words : List ℕ) → ((k : ℕ) → slice_index words k < 2 ^ 64) → (is : List ℕ) → AllOthers (map (λ i. Store m p (first + i) (slice_index words i)) is ++ (Close m ∷ []))
stores_owned m p first words wide [] = ((refl, tt), tt)
stores_owned m p first words wide (i ∷ is) = ((refl, wide i), stores_owned m p first words wide is)

pub overwrites_owned : (m p first : ℕ) (words : List ℕ) → ((k : ℕ) → slice_index words k < 2 ^ 64) → AllOthers (overwrites m p first words)
overwrites_owned m p first words wide = ((refl, tt), ((refl, tt), ((refl, tt), ((refl, tt), stores_owned m p first words wide (range_with_len 0 (length words))))))

-- ---- a near cell says the same object at the same place, with DIRTY as it had it
module _ (s t : State) (next : Law t) (p w len ds : ℕ) (place : Place) (m k : Marks) (is : t ≡ with_cell s p w)
    (near : read_of (s.cell p) ≡ Some (Near len ds place m)) (says : read_of w ≡ Some (Near len ds place k)) (same : k.dirty ≡ m.dirty) where
  as_kept : kept_len (read_of w) ≡ kept_len (read_of (s.cell p))
  as_kept = ap kept_len says ∙ ap (λ b. cond b None (Some len)) same ∙ sym (ap kept_len near)

  pub reworded : (ledger : Ledger) (held : ℕ → Option (List ℕ)) (is_honest : Bool) → InOrder s ledger held is_honest → InOrder t ledger held is_honest
  reworded ledger held is_honest h = record {
    notes = subst (λ (u : State). Notes (own_part u) ledger) (sym is)
        (notes_seen s p w (λ l at. rw (says, near) refl) (near_used w len ds place k says ∙ sym (near_used (s.cell p) len ds place m near)) ledger (own_law (with_cell s p w) (subst Law is next)) h.notes);
    far = still_named s t held held h.far p w (ap (λ (u : State). u.honest) is) (ap (λ (u : State). u.cell) is) (λ q _. ap (λ (u : State). u.stored q) is) (λ q _. refl)
        as_kept refl (ap (λ (u : State). u.stored p) is);
    honest = λ e. h.honest (ap (λ (u : State). u.honest) (sym is) ∙ e);
  }

-- without its owner's marks a near cell on whose object a view may rest says the same
module _ (s : State) (law : Law s) (t : State) (next : Law t) (p : ℕ) (rests : IsSome (place_to_view (read_of (s.cell p))))
    (is : (v : PtrWord) → read_of (s.cell p) ≡ Some v → t ≡ with_cell s p (word_of (without_owner_marks v))) where
  -- so it says another word of the same object at the same place
  record SaysSo : Type 0 where
    pub len : ℕ
    pub ds : ℕ
    pub place : Place
    pub marks : Marks
    pub word : ℕ
    pub near : read_of (s.cell p) ≡ Some (Near len ds place marks)
    pub says : read_of word ≡ Some (Near len ds place record marks { hot = false; moved = false; dropped = false })
    pub now : t ≡ with_cell s p word

  so : SaysSo
  so =
      let at = some_of (place_to_view (read_of (s.cell p))) rests in
      let x = rest_is (read_of (s.cell p)) at.0 at.1 in
      let v : PtrWord = Near x.0 x.1 at.0 x.2 in
      let ptr = (read_says (s.cell p) v (law.cells.cell_read p).0 x.3).0 in
      record { len = x.0; ds = x.1; place = at.0; marks = x.2; word = word_of (without_owner_marks v); near = x.3; says = read_back (without_owner_marks v) (IsPtr-without_owner_marks v ptr); now = is v x.3 }

  pub cooled : (ledger : Ledger) (held : ℕ → Option (List ℕ)) (is_honest : Bool) → InOrder s ledger held is_honest → InOrder t ledger held is_honest
  cooled = let x = so in reworded s t next p x.word x.len x.ds x.place x.marks record x.marks { hot = false; moved = false; dropped = false } x.now x.near x.says refl

  pub cooled_one : t ≡ with_cell s p (t.cell p)
  cooled_one = let x = so in x.now ∙ ap (with_cell s p) (sym (put_same s.cell p x.word p refl) ∙ ap (λ (u : State). u.cell p) (sym x.now))

  -- in no sealed log anything comes to lie
  pub cooled_sealed : KeepsSealed s t
  cooled_sealed = let x = so in subst (KeepsSealed s) (sym x.now) (one_cell s p x.word s.stored (same_place x)) where
    same_place : (x : SaysSo) (n d : ℕ) (place : Place) (marks : Marks) → read_of x.word ≡ Some (Near n d place marks) → s.kind place.log ≡ Sealed →
        (old : Marks) × (read_of (s.cell p) ≡ Some (Near n d place old)) × (marks.evac ≡ old.evac)
    same_place x n d place marks e is_sealed =
        let both : Some (Near x.len x.ds x.place record x.marks { hot = false; moved = false; dropped = false }) ≡ Some (Near n d place marks) = sym x.says ∙ e in
        let long : x.len ≡ n = cc in
        let kind : x.ds ≡ d = cc in
        let there : x.place ≡ place = cc in
        let marked : record x.marks { hot = false; moved = false; dropped = false } ≡ marks = cc in
        (x.marks, x.near ∙ (λ i. Some (Near (long i) (kind i) (there i) x.marks)), ap (λ (m : Marks). m.evac) (sym marked))
