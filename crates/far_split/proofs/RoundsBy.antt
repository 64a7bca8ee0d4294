-- A round of a policy is one of the policy's name.
use Rattle.std.proofs.Common.{◌≡◌, ◌≢◌, inl, inr, ℕ, false, List, Result, Ok, Err, ap, sym, subst, ◌∙◌, refl}
use Rattle.std.specs.Prelude.{IfErr, IfOk}
use Rattle.far_word.specs.declared.refused.Refused.{Refused as Refusal}
use Rattle.far_log.specs.declared.row.LogRow.{LogRow}
use Rattle.far_evac.specs.declared.answers.EvacFault.{EvacFault}
use Rattle.far_evac.specs.declared.answers.Progress.{Progress}
use Rattle.far_evac.specs.declared.answers.RoundEnd.{RoundEnd}
use Rattle.far_evac.specs.EvacOf.{EvacOf}
use Rattle.far_evac.specs.Moment.{nothing, progress_of}
use Rattle.far_table.specs.declared.book.BookSeat.{BookSeat}
use Rattle.far_heap.specs.HeapId.{HeapId}
use Rattle.far_heap.specs.Rounds.{Chose, ChoseNone, EndsAfter, IsUnchosen, RefusesRound, rows_of}
use Rattle.far_text.specs.Command.{Policy}
use Rattle.far_split.specs.FarSides.{FarLetsGo, FarSide, FarWrites, far_bytes}
use Rattle.far_split.specs.BookTold.{EndsRound, Gives, StopsRound, none_done}

module _ {P : Type 0} (gives : P → List LogRow → ℕ → Result (List ℕ) Refusal → P → Type 0) (policy : Policy)
    (is : (before after : P) (rows : List LogRow) (most : ℕ) (outcome : Result (List ℕ) Refusal) → gives before rows most outcome after → Gives policy tt rows most outcome tt) where
  chosen_by : (heap : HeapId) (before after : P) (most : ℕ) (logs : List ℕ) → Chose gives FarSide heap before most after logs → Chose (Gives policy) FarSide heap tt most tt logs
  chosen_by heap before after most logs chose =
      let c = chose.chooses in record {
        book = chose.book;
        later = chose.later;
        chooses = record {
          named = c.named;
          lawful = c.lawful;
          free = c.free;
          given = is before after (rows_of chose.book) most (Ok logs) c.given;
          choice = c.choice;
          came = c.came;
          begun = c.begun;
        };
      }

  ended_by : (heap : HeapId) (before after : P) (most n turns : ℕ) (end : RoundEnd) → most ≡ n → ((logs : List ℕ) × Chose gives FarSide heap before most after logs × EndsAfter FarWrites FarLetsGo far_bytes heap logs turns end)
      → EndsRound heap policy n turns end
  ended_by heap before after most n turns end same (logs, chose, ends) = subst (λ k. EndsRound heap policy k turns end) same (logs, chosen_by heap before after most logs chose, ends)

  pub all_ended_by : (heap : HeapId) (before after : P) (most n turns : ℕ) (result : Result RoundEnd EvacFault) → most ≡ n
      → IfOk result (λ end. (logs : List ℕ) × Chose gives FarSide heap before most after logs × EndsAfter FarWrites FarLetsGo far_bytes heap logs turns end) → IfOk result (EndsRound heap policy n turns)
  all_ended_by heap before after most n turns (Ok end) same ended = ended_by heap before after most n turns end same ended
  all_ended_by heap before after most n turns (Err fault) same ended = tt

  cause_by : (heap : HeapId) (before after : P) (most : ℕ) (e : EvacOf (BookSeat FarSide) FarSide) (why : Refusal) → IsUnchosen gives heap before most after e why → IsUnchosen (Gives policy) heap tt most tt e why
  cause_by heap before after most e why (inl (cause, same)) = inl (cause, refl)
  cause_by heap before after most e why (inr (free, bad, given)) = inr (free, bad, is before after (rows_of e) most (Err why) given)

  unchosen_by : (heap : HeapId) (before after : P) (most : ℕ) (why : Refusal) → ChoseNone gives FarSide heap before most after why → ChoseNone (Gives policy) FarSide heap tt most tt why
  unchosen_by heap before after most why none =
      let n = none.refuses in record {
        book = none.book;
        later = none.later;
        refuses = record { named = n.named; lawful = n.lawful; cause = cause_by heap before after most none.book why n.cause; same = n.same };
      }

  stopped_by : (heap : HeapId) (before after : P) (most n turns : ℕ) (fault : EvacFault) → most ≡ n → RefusesRound FarWrites FarLetsGo far_bytes heap gives before most after turns fault → StopsRound heap policy n turns fault.why fault.so_far
  stopped_by heap before after most n turns fault same (inl (nothing, unchosen)) =
      subst (λ k. StopsRound heap policy k turns fault.why fault.so_far) same (inl (nothing, unchosen_by heap before after most fault.why unchosen))
  stopped_by heap before after most n turns fault same (inr (logs, chose, some, stops)) =
      subst (λ k. StopsRound heap policy k turns fault.why fault.so_far) same (inr (logs, chosen_by heap before after most logs chose, some, stops))

  pub all_stopped_by : (heap : HeapId) (before after : P) (most n turns : ℕ) (result : Result RoundEnd EvacFault) → most ≡ n → IfErr result (RefusesRound FarWrites FarLetsGo far_bytes heap gives before most after turns) → IfErr result (λ fault. StopsRound heap policy n turns fault.why fault.so_far)
  all_stopped_by heap before after most n turns (Ok end) same refused = tt
  all_stopped_by heap before after most n turns (Err fault) same refused = stopped_by heap before after most n turns fault same refused

-- ---- what was done
undone : (heap : HeapId) (policy : Policy) (most turns : ℕ) (why : Refusal) (so_far : Progress) → StopsRound heap policy most turns why so_far → so_far.done ≡ false
undone heap policy most turns why so_far (inl (none, unchosen)) = ap (λ (p : Progress). p.done) none
undone heap policy most turns why so_far (inr (logs, chose, some, stops)) = ap (λ (p : Progress). p.done) stops.sum

-- a round that did nothing is refused so
pub stopped_at_once : (heap : HeapId) (policy : Policy) (most turns : ℕ) (why : Refusal) (so_far : Progress) → StopsRound heap policy most turns why so_far → so_far ≡ progress_of nothing so_far.done → StopsRound heap policy most turns why none_done
stopped_at_once heap policy most turns why so_far stops same =
    subst (StopsRound heap policy most turns why) (same ∙ ap (progress_of nothing) (undone heap policy most turns why so_far stops)) stops

-- and one that did something did not
pub did_some : (so_far : Progress) → ¬ (so_far ≡ progress_of nothing so_far.done) → so_far ≢ none_done
did_some so_far some none = some (none ∙ ap (progress_of nothing) (sym (ap (λ (p : Progress). p.done) none)))
