-- What a selection says of the book that it was made in.
use Rattle.std.proofs.Common.{◌≡◌, ◌⊎◌, inl, inr, ℕ, List, Option, Some, None, Result, Ok, Err, refl, ◌∙◌}
use Rattle.std.specs.Prelude.{IfOk, IfErr}
use Rattle.far_log.specs.declared.row.LogRow.{LogRow}
use Rattle.far_policy.specs.Choice.{IsBadChoice, IsChoice}
use Rattle.far_word.specs.declared.refused.Refused.{Refused}
use Rattle.far_hand.specs.Came.{Came}
use Rattle.far_table.specs.declared.book.BookSeat.{BookSeat}
use Rattle.far_table.specs.BookSeats.{seat_makes, seat_view}
use Rattle.far_evac.specs.Choosing.{after_selecting}
use Rattle.far_evac.specs.EvacOf.{EvacOf, moment}
use Rattle.far_evac.specs.MomentLaw.{IsLawful}
use Rattle.far_evac.specs.Refusals.{unselectable}
use Rattle.far_heap.specs.HeapId.{HeapId, heap_of}
use Rattle.far_heap.specs.Rounds.{Chooses, ChoosesNone, IsUnchosen, rows_of}

module _ {P D : Type 0} (gives : P → List LogRow → ℕ → Result (List ℕ) Refused → P → Type 0) (heap : HeapId) (before : P) (most : ℕ) (after : P) (e f : EvacOf (BookSeat D) D)
    (named : heap_of e.copying e.book.near ≡ heap) (lawful : IsLawful (moment seat_view e)) (result : Result (List ℕ) Refused)
    (barred : (why : Refused) → unselectable (moment seat_view e) ≡ Some why → (result ≡ Err why) × (after ≡ before)) where
  not_both : (r : Result (List ℕ) Refused) (logs : List ℕ) (why : Refused) → r ≡ Ok logs → r ≡ Err why → ⊥
  not_both r logs why a b = cc

  -- one that was served wasn't barred
  free_of : (cause : Option Refused) (logs : List ℕ) → unselectable (moment seat_view e) ≡ cause → result ≡ Ok logs → unselectable (moment seat_view e) ≡ None
  free_of None logs says is = says
  free_of (Some why) logs says is = absurd (not_both result logs why is (barred why says).0)

  chose_so : (r : Result (List ℕ) Refused) → result ≡ r → Came seat_makes e.book.near f.book.near → IfOk r (λ logs. moment seat_view f ≡ after_selecting (moment seat_view e) logs) →
      IfOk r (λ logs. gives before (rows_of e) most (Ok logs) after) → IfOk r (IsChoice (rows_of e) most) → IfOk r (λ logs. Chooses gives heap before most after logs e f)
  chose_so (Ok logs) is came begun given choice = record {
    named = named;
    lawful = lawful;
    free = free_of (unselectable (moment seat_view e)) logs refl is;
    given = given;
    choice = choice;
    came = came;
    begun = begun;
  }
  chose_so (Err why) is came begun given choice = tt

  pub chose : Came seat_makes e.book.near f.book.near → IfOk result (λ logs. moment seat_view f ≡ after_selecting (moment seat_view e) logs) →
      IfOk result (λ logs. gives before (rows_of e) most (Ok logs) after) → IfOk result (IsChoice (rows_of e) most) → IfOk result (λ logs. Chooses gives heap before most after logs e f)
  chose came begun given choice = chose_so result refl came begun given choice

  same_cause : (r : Result (List ℕ) Refused) (w why : Refused) → r ≡ Err w → r ≡ Err why → w ≡ why
  same_cause r w why a b = cc

  -- one that was refused was barred; or it is the policy's refusal
  cause_of : (cause : Option Refused) (why : Refused) → unselectable (moment seat_view e) ≡ cause → result ≡ Err why →
      (unselectable (moment seat_view e) ≡ Some why) ⊎ (IsBadChoice why × gives before (rows_of e) most (Err why) after) →
      IsUnchosen gives heap before most after e why
  cause_of cause why says is (inl known) = inl (known, (barred why known).1)
  cause_of None why says is (inr bad) = inr (says, bad.0, bad.1)
  cause_of (Some w) why says is (inr bad) =
      let known = same_cause result w why (barred w says).0 is in inl (says ∙ (λ i. Some (known i)), (barred w says).1)

  chose_none_so : (r : Result (List ℕ) Refused) → result ≡ r → IfErr r (λ _. f ≡ e) →
      IfErr r (λ why. (unselectable (moment seat_view e) ≡ Some why) ⊎ (IsBadChoice why × gives before (rows_of e) most (Err why) after)) →
      IfErr r (λ why. ChoosesNone gives heap before most after why e f)
  chose_none_so (Ok logs) is same cause = tt
  chose_none_so (Err why) is same cause =
      record { named = named; lawful = lawful; cause = cause_of (unselectable (moment seat_view e)) why refl is cause; same = same }

  pub chose_none : IfErr result (λ _. f ≡ e) →
      IfErr result (λ why. (unselectable (moment seat_view e) ≡ Some why) ⊎ (IsBadChoice why × gives before (rows_of e) most (Err why) after)) →
      IfErr result (λ why. ChoosesNone gives heap before most after why e f)
  chose_none same cause = chose_none_so result refl same cause
