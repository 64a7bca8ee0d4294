-- EVAC is set on an object of a sealed log: a book stays in order.
use Rattle.std.proofs.Common.{◌≡◌, ℕ, ◌<◌, ◌^◌, Bool, refl, sym, ap, ◌∙◌, subst, Option, Some, List}
use Rattle.far_word.specs.declared.mark.Mark.TheVariants.{Evac}
use Rattle.far_word.specs.declared.pointer.PtrWord.TheVariants.{Near}
use Rattle.far_word.specs.Mark.{marks_with}
use Rattle.far_word.specs.Pointer.{read_of}
use Rattle.far_word.proofs.PointerLaws.{with_mark_read}
use Rattle.far_events.specs.declared.event.Event.TheVariants.{Mark}
use Rattle.far_events.specs.events.Legal.{Legal}
use Rattle.far_events.specs.state.Spans.{names_place}
use Rattle.far_events.specs.state.State.{State, put}
use Rattle.far_core.proofs.Owing.{keeps}
use Rattle.far_events.proofs.Put.{put_same}
use Rattle.far_book.specs.declared.ledger.Ledger.{Ledger}
use Rattle.far_hand.specs.Finds.{Finds}
use Rattle.far_book.specs.book.FarSide.{InOrder, kept_len}
use Rattle.far_book.specs.book.Own.{own_part}
use Rattle.far_hand.proofs.EvacMarks.{with_evac}
use Rattle.far_book.proofs.region.Calls.{put_put}
use Rattle.far_book.proofs.region.FarHeld.{still_named}
use Rattle.far_hand.proofs.Finding.{near_found}
use Rattle.far_book.proofs.region.Founds.{near_used, notes_seen}
use Rattle.far_book.proofs.region.InOrders.{found_keeps}

module _ (s : State) (ledger : Ledger) (held : ℕ → Option (List ℕ)) (is_honest : Bool) (h : InOrder s ledger held is_honest) (p : ℕ) (legal : Legal s (Mark p)) where
  near : read_of (with_evac (s.cell p)) ≡ Some (Near legal.1.0 legal.1.1 legal.1.2 (marks_with Evac legal.1.3))
  near = with_mark_read Evac (s.cell p) (Near legal.1.0 legal.1.1 legal.1.2 legal.1.3) (h.notes.law.cells.cell_read p).0 legal.1.4 refl

  same_names : (l at : ℕ) → names_place (read_of (with_evac (s.cell p))) l at ≡ names_place (read_of (s.cell p)) l at
  same_names l at = rw (near, legal.1.4) refl

  pub marked : InOrder (record s { cell = put s.cell p (with_evac (s.cell p)) }) ledger held is_honest
  marked = record {
    notes = notes_seen s p (with_evac (s.cell p)) same_names
        (near_used (with_evac (s.cell p)) legal.1.0 legal.1.1 legal.1.2 (marks_with Evac legal.1.3) near ∙ sym (near_used (s.cell p) legal.1.0 legal.1.1 legal.1.2 legal.1.3 legal.1.4))
        ledger (keeps (own_part s) (Mark p) h.notes.law tt legal) h.notes;
    far = still_named s (record s { cell = put s.cell p (with_evac (s.cell p)) }) held held h.far p (with_evac (s.cell p)) refl refl (λ q _. refl) (λ q _. refl) (ap kept_len near ∙ sym (ap kept_len legal.1.4)) refl refl;
    honest = h.honest;
  }

-- the same by a word that is found
module _ (s : State) (ledger : Ledger) (held : ℕ → Option (List ℕ)) (is_honest : Bool) (h : InOrder s ledger held is_honest) (p : ℕ) (legal : Legal s (Mark p)) where
  pub found_marked : (w : ℕ) → w < 2 ^ 64 → Finds (s.cell p) w → InOrder (record s { cell = put s.cell p (with_evac w) }) ledger held is_honest
  found_marked w fits f =
      let seen : State = record s { cell = put s.cell p w } in
      let is : seen.cell p ≡ w = put_same s.cell p w p refl in
      let x = near_found (s.cell p) w f legal.1.0 legal.1.1 legal.1.2 legal.1.3 legal.1.4 in
      let may : Legal seen (Mark p) = (legal.0, (legal.1.0, legal.1.1, legal.1.2, x.marks, ap read_of is ∙ x.near, legal.1.5, legal.1.6)) in
      let twice : put seen.cell p (with_evac (seen.cell p)) ≡ put s.cell p (with_evac w) = ap (λ v. put seen.cell p (with_evac v)) is ∙ put_put s.cell p w (with_evac w) in
      subst (λ (cell : ℕ → ℕ). InOrder record s { cell = cell } ledger held is_honest) twice
      (marked seen ledger held is_honest (found_keeps s ledger held is_honest h p w fits f) p may)
