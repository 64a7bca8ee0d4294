-- A new object of given bytes: what its call leaves is in order, and in no sealed log anything comes to lie.
use Rattle.std.proofs.Common.{◌≡◌, ℕ, ◌<◌, Bool, true, refl, sym, ap, subst, ◌∙◌, List, length, Option, Some}
use Rattle.std.specs.Prelude.{slice_index}
use Rattle.std.proofs.lemmas.Bool.{false≢true}
use Rattle.far_word.specs.declared.pointer.Place.{Place}
use Rattle.far_word.specs.declared.pointer.PtrWord.{PtrWord}
use Rattle.far_word.specs.Pointer.{read_of}
use Rattle.far_word.specs.Sizes.{size_of}
use Rattle.far_events.specs.events.NewObjects.{made_with}
use Rattle.far_events.specs.events.Written.{written_words}
use Rattle.far_events.specs.state.State.{State}
use Rattle.far_core.proofs.NewObjects.{MayMake, adopts_and_writes, cold, cold_is, law_cold, law_named, law_over, made_cold, named, named_is, over, over_then, rests_over}
use Rattle.far_events.proofs.Splices.{written_fit}
use Rattle.far_hand.specs.Known.{Forgets}
use Rattle.far_book.specs.declared.ledger.Ledger.{Ledger}
use Rattle.far_book.specs.book.Effects.{placed}
use Rattle.far_book.specs.book.FarSide.{InOrder}
use Rattle.far_book.specs.book.Ledger.{Notes, Takes}
use Rattle.far_book.specs.book.Own.{own_part}
use Rattle.far_book.specs.book.Placeable.{Placeable, with_object}
use Rattle.far_book.specs.book.SealedLogs.{KeepsSealed}
use Rattle.far_book.proofs.region.Accessed.{AllOthers, all_owned, cooled, cooled_sealed, overwrites_owned}
use Rattle.far_book.proofs.region.InOrders.{placed_far, placed_honest}
use Rattle.far_book.proofs.region.NotesKept.{notes_placed}
use Rattle.far_book.proofs.region.Owns.{own_named}
use Rattle.far_book.proofs.region.Places.{law_then}

-- ---- an object of zeros is placed
module _ (s : State) (ledger new : Ledger) (held : ℕ → Option (List ℕ)) (is_honest : Bool) (h : InOrder s ledger held is_honest) (p len ds : ℕ) (place : Place) (able : Placeable (own_part s) p len ds place)
    (free : s.cell p ≡ 0) (takes : Takes ledger new p (size_of len) place) where
  abbrev t : State
  t = placed s p len ds place

  none_forgotten : Forgets t t
  none_forgotten = record { known = λ a known. refl; headers = λ a begun. refl }

  own : own_part t ≡ with_object (own_part s) true p len ds place
  own = own_named s t h.notes.law p len ds place able free refl none_forgotten

  honest_as : t.honest ≡ s.honest
  honest_as = placed_honest s t p held held len ds place able free refl

  pub placed_in_order : InOrder t new held is_honest
  placed_in_order = record {
    notes = subst (λ (u : State). Notes u new) (sym own) (notes_placed (own_part s) ledger new h.notes p len ds place able true
        (law_then (own_part s) h.notes.law p len ds place able refl refl true (λ odd. absurd (false≢true (sym odd)))) takes);
    far = placed_far s t p held held len ds place able own honest_as h.far (λ q ne. refl);
    honest = λ e. h.honest (sym honest_as ∙ e);
  }

-- ---- and then the bytes are written
module _ {s : State} {m p len ds : ℕ} {place : Place} {bytes : List ℕ} (x : MayMake s m p len ds place bytes) where
  pub written_owned : AllOthers (adopts_and_writes x)
  written_owned = ((refl, tt), overwrites_owned m p 0 (written_words (λ _. 0) 0 bytes) (written_fit (λ _. 0) 0 bytes x.small))

  pub made_in_order : (ledger : Ledger) (held : ℕ → Option (List ℕ)) (is_honest : Bool) → InOrder (placed s p len ds place) ledger held is_honest → InOrder (made_with s p len ds place bytes) ledger held is_honest
  made_in_order ledger held is_honest h =
      let there : InOrder (named x) ledger held is_honest = subst (λ (u : State). InOrder u ledger held is_honest) (named_is x) h in
      let then : InOrder (over x) ledger held is_honest = subst (λ (u : State). InOrder u ledger held is_honest) (over_then x) (all_owned ledger held is_honest (adopts_and_writes x) written_owned (named x) (law_named x) there) in
      subst (λ (u : State). InOrder u ledger held is_honest) (made_cold x) (cooled (over x) (law_over x) (cold x) (law_cold x) p (rests_over x) (cold_is x) ledger held is_honest then)

  pub cold_sealed : KeepsSealed (over x) (cold x)
  cold_sealed = cooled_sealed (over x) (law_over x) (cold x) (law_cold x) p (rests_over x) (cold_is x)
