-- The ledger of a heap at the start is right.
use Rattle.std.proofs.Common.{inl, inr, ◌≡◌, ℕ, ◌*◌, ◌/◌, ◌%◌, ◌<◌, Bool, true, false, arith, sym, refl, ap, subst, ◌∙◌, [], nat_lt, None}
use Rattle.std.specs.Prelude.{◌&&◌, ◌==◌, not, replicate, slice_index_or, eqb, length}
use Rattle.std.specs.List.{list_any, IsDistinct}
use Rattle.std.specs.Vec.{vec_len}
use Rattle.std.proofs.lemmas.Bool.{cases_eq, eq-eqb, ne_eqb}
use Rattle.std.proofs.lemmas.List.{get_or-replicate}
use Rattle.far_word.specs.declared.sizes.TheConstants.{JOBS}
use Rattle.far_log.specs.Spans.{spans_in}
use Rattle.far_events.specs.declared.event.Kind.TheVariants.{Free, Open}
use Rattle.far_events.specs.declared.shape.Shape.{Shape}
use Rattle.far_events.specs.events.Mark.{is_sealed}
use Rattle.far_core.specs.laws.Observed.{live_bytes}
use Rattle.far_events.specs.state.Opening.{for_copiers, opening}
use Rattle.far_core.specs.state.Room.{is_free}
use Rattle.far_events.specs.state.Shape.{is_shape}
use Rattle.far_events.specs.state.Spans.{spans_of}
use Rattle.far_core.proofs.Begins.{begins}
use Rattle.far_events.proofs.Begins.{row_of}
use Rattle.far_events.proofs.Put.{put_both}
use Rattle.far_book.specs.declared.ledger.Filled.{Filled}
use Rattle.far_book.specs.declared.ledger.Ledger.{Ledger}
use Rattle.far_book.specs.declared.ledger.TheConstants.{SETS}
use Rattle.far_book.specs.declared.number_set.NumberSet.{NumberSet}
use Rattle.far_book.specs.book.Jobs.{noted_at}
use Rattle.far_book.specs.book.Ledger.{Notes}
use Rattle.far_book.specs.book.NumberSet.{has}
use Rattle.far_book.specs.book.Own.{own_part}
use Rattle.far_book.proofs.region.JobNotes.{no_jobs}
use Rattle.far_book.proofs.region.Owns.{own_law}

-- the parts of a ledger as they are made
pub record Made (shape : Shape) (ledger : Ledger) : Type 0 where
  pub current : ledger.current ≡ 0
  pub free : (l : ℕ) → l < 64 → has ledger.free_logs l ≡ (not (l == 0) && nat_lt l shape.logs)
  pub filled : ledger.filled.items ≡ replicate shape.logs record { tail = 0; live = 0 }
  pub logs : vec_len ledger.filled ≡ shape.logs
  pub order : ledger.order ≡ []
  pub all : NumberSet
  pub every : (k : ℕ) → k < 64 → has all k ≡ true
  pub sets : ledger.free_cells.items ≡ replicate (SETS * shape.mutators) all
  pub cells : vec_len ledger.free_cells ≡ SETS * shape.mutators
  pub jobs_sized : length ledger.jobs.noted ≡ JOBS
  pub jobs_noted : (j : ℕ) → noted_at ledger.jobs j ≡ None
  pub jobs_waiting : (j : ℕ) → j < 64 → has ledger.jobs.waiting j ≡ false

none_distinct : IsDistinct eqb []
unfolding IsDistinct
none_distinct = tt

and_false : (b : Bool) → (b && false) ≡ false
and_false true = refl
and_false false = refl

and_true : (b : Bool) → (b && true) ≡ b
and_true true = refl
and_true false = refl

module _ (has_copiers : Bool) (shape : Shape) (fits : is_shape shape ≡ true) (ledger : Ledger) (made : Made shape ledger) where
  no_live : (l : ℕ) → live_bytes (own_part (for_copiers has_copiers (opening shape false))) l ≡ 0
  unfolding spans_of spans_in
  no_live l = refl

  free_at : (l : ℕ) → (not (l == 0) && nat_lt l shape.logs) ≡ (nat_lt l shape.logs && is_free ((opening shape false).kind l))
  free_at l = elim (cases_eq l 0) [
    | inl e ↦ rw (eq-eqb l 0 e) (sym (and_false (nat_lt l shape.logs)))
    | inr ne ↦ rw (ne_eqb l 0 ne) (sym (and_true (nat_lt l shape.logs)))
  ]

  sealed_at : (l : ℕ) → false ≡ is_sealed ((opening shape false).kind l)
  sealed_at l = put_both (λ k. false ≡ is_sealed k) (λ _. Free) 0 Open l (λ _. refl) (λ _. refl)

  pub starts : Notes (own_part (for_copiers has_copiers (opening shape false))) ledger
  starts = record {
    law = own_law (for_copiers has_copiers (opening shape false)) (begins has_copiers shape false fits);
    current = made.current;
    free = λ l few. made.free l few ∙ free_at l;
    logs = made.logs;
    tails = λ l lt. ap (λ (f : Filled). f.tail) (row_of ledger.filled.items shape.logs record { tail = 0; live = 0 } made.filled l);
    lives = λ l lt. ap (λ (f : Filled). f.live) (row_of ledger.filled.items shape.logs record { tail = 0; live = 0 } made.filled l) ∙ sym (no_live l);
    sealed = λ l. ap (list_any (eqb l)) made.order ∙ sealed_at l;
    once = subst (IsDistinct eqb) (sym made.order) none_distinct;
    jobs = no_jobs has_copiers shape.epoch (λ _. false) ledger.jobs made.jobs_sized made.jobs_noted made.jobs_waiting;
    cells = made.cells;
    cell = λ p lt. ap (λ (set : NumberSet). has set (p % 64))
        (ap (λ sets. slice_index_or sets (p / 64) record { word = 0 }) made.sets ∙ get_or-replicate (SETS * shape.mutators) (p / 64) made.all record { word = 0 } (omega arith)) ∙ made.every (p % 64) (omega arith);
  }
