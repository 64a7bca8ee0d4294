-- What leaves a book in order.
use Rattle.std.proofs.Common.{◌≡◌, ℕ, ◌<◌, ◌^◌, Bool, true, sym, ap, ◌∙◌, subst, Option, Some, None, List}
use Rattle.far_word.specs.declared.pointer.Place.{Place}
use Rattle.far_word.specs.declared.pointer.PtrWord.TheVariants.{Free, Near}
use Rattle.far_word.specs.Pointer.{read_of}
use Rattle.far_word.proofs.PointerLaws.{read_back}
use Rattle.far_events.specs.events.Naming.{is_dropped, unmarked}
use Rattle.far_events.specs.state.State.{State, put}
use Rattle.far_events.proofs.Cells.{unused}
use Rattle.far_device.specs.Contents.{KeepsOthers}
use Rattle.far_book.specs.declared.ledger.Ledger.{Ledger}
use Rattle.far_hand.specs.Finds.{Finds}
use Rattle.far_book.specs.book.Effects.{near_word, placed, retired, with_blank_span, with_free_cell}
use Rattle.far_book.specs.book.FarSide.{HoldsFar, InOrder, kept_len}
use Rattle.far_book.specs.book.Ledger.{Notes}
use Rattle.far_book.specs.book.Own.{own_part, IsAtStart}
use Rattle.far_book.specs.book.Placeable.{Placeable, with_object}
use Rattle.far_book.proofs.region.FarHeld.{unheld_named}
use Rattle.far_book.proofs.region.FarSide.{far_found}
use Rattle.far_book.proofs.region.Founds.{notes_found}
use Rattle.far_book.proofs.region.Owns.{own_headers}
use Rattle.far_book.proofs.region.Places.{named_is}
use Rattle.far_book.proofs.region.Retires.{retired_is}

module _ (s : State) (ledger : Ledger) (held : ℕ → Option (List ℕ)) (is_honest : Bool) (h : InOrder s ledger held is_honest) where
  -- a word is found in a cell
  pub found_keeps : (p w : ℕ) → w < 2 ^ 64 → Finds (s.cell p) w → InOrder (record s { cell = put s.cell p w }) ledger held is_honest
  found_keeps p w fits f = record { notes = notes_found s h.notes.law p w fits f ledger h.notes; far = far_found s held h.far p w f; honest = h.honest }

  -- words change that are no headers
  pub headers_keep : (t : State) → t ≡ record s { word = t.word } → ((a : ℕ) → s.starts a ≡ true → t.word a ≡ s.word a) → InOrder t ledger held is_honest
  headers_keep t is same = record {
    notes = subst (λ (u : State). Notes u ledger) (sym (own_headers s t is same)) h.notes;
    far = subst (λ (u : State). HoldsFar u held) (sym is) (record { long = h.far.long; same = h.far.same });
    honest = λ e. h.honest (ap (λ (u : State). u.honest) (sym is) ∙ e);
  }

-- at the start nothing is far
pub none_far : (s : State) (held : ℕ → Option (List ℕ)) → IsAtStart s → HoldsFar s held
none_far s held start = record { long = λ p len e. absurd (none p len e); same = λ _ p len e. absurd (none p len e) } where
  none : (p len : ℕ) → kept_len (read_of (s.cell p)) ≡ Some len → ⊥
  none p len e =
      let free : read_of (s.cell p) ≡ Some Free = ap (λ (u : State). read_of (u.cell p)) start ∙ unused in
      let odd : None ≡ Some len = sym (ap kept_len free) ∙ e in absurd cc

module _ (s t : State) (p : ℕ) (held now : ℕ → Option (List ℕ)) where
  -- a retired object is far no more
  pub retired_far : own_part t ≡ with_free_cell (own_part s) p → t.honest ≡ s.honest → HoldsFar s held → KeepsOthers held now p → HoldsFar t now
  retired_far own honest far others = unheld_named s t held now far p 0 honest (ap (λ (u : State). u.cell) own) (λ q _. ap (λ (u : State). u.stored q) own) others (ap kept_len unused)

  pub retired_honest : is_dropped (read_of (s.cell p)) ≡ true → t ≡ record (retired s p) { word = t.word } → t.honest ≡ s.honest
  retired_honest dropped is = ap (λ (u : State). u.honest) is ∙ ap (λ (u : State). u.honest) (retired_is s p dropped)

  -- a new object is near, with DIRTY, and the device may have forgotten its key
  module _ (len ds : ℕ) (place : Place) (h : Placeable (own_part s) p len ds place) where
    pub placed_far : own_part t ≡ with_object (own_part s) true p len ds place → t.honest ≡ s.honest → HoldsFar s held → KeepsOthers held now p → HoldsFar t now
    placed_far own honest far others = unheld_named s t held now far p (near_word true len ds place) honest (ap (λ (u : State). u.cell) own) (λ q _. ap (λ (u : State). u.stored q) own) others
        (ap kept_len (read_back (Near len ds place (unmarked true)) h.layout))

    pub placed_honest : s.cell p ≡ 0 → t ≡ record (placed s p len ds place) { word = t.word } → t.honest ≡ s.honest
    placed_honest free is = ap (λ (u : State). u.honest) is ∙ ap (λ (u : State). u.honest) (named_is (with_blank_span s p len ds place) p len ds place free h.layout)
