-- What a policy is handed, and that a round begins with what it chose.
use Rattle.std.proofs.Common.{◌≡◌, ◌≢◌, ◌↔◌, ℕ, ◌+◌, ◌<◌, ◌==◌, true, false, List, [], ◌∷◌, length, map, eqb, arith, ap, sym, refl, ◌∙◌, subst}
use Rattle.std.specs.List.{IsDistinct, list_any}
use Rattle.std.proofs.lemmas.Bool.{true≢false}
use Rattle.far_word.specs.declared.sizes.TheConstants.{EPOCH_END, MOST_LOGS}
use Rattle.far_log.specs.declared.row.LogRow.{LogRow}
use Rattle.far_events.specs.declared.event.Kind.TheVariants as kinds
use Rattle.far_events.specs.state.Law.{Law}
use Rattle.far_events.specs.state.State.{State}
use Rattle.far_book.specs.book.Own.{own_part}
use Rattle.far_book.specs.book.Rows.{row_of}
use Rattle.far_policy.specs.Choice.{IsChoice}
use Rattle.far_policy.specs.Logs.{AreRows, is_among, logs_of}
use Rattle.far_policy.proofs.Choices.{rows_told}
use Rattle.far_evac.specs.declared.phase.Phase.TheVariants.{Marking}
use Rattle.far_evac.specs.declared.round.Round.{Round}
use Rattle.far_evac.specs.Live.{is_empty}
use Rattle.far_evac.specs.Standing.{InRound}
use Rattle.far_evac.proofs.Standings.{chosen_round}
use Rattle.far_evac.proofs.OfOneKind.{sealed_used}

pub some_chosen : (ls : List ℕ) → (length ls == 0) ≡ false → is_empty ls ≡ false
some_chosen [] h = absurd (true≢false h)
some_chosen (l ∷ ls) h = refl

module _ (s : State) (order : List ℕ) (law : Law (own_part s)) (sealed : (l : ℕ) → (list_any (eqb l) order ≡ true) ↔ (s.kind l ≡ kinds.Sealed)) (once : IsDistinct eqb order) where
  in_range : (l : ℕ) → is_among order l ≡ true → l < MOST_LOGS
  in_range l h = omega (arith, law.logs.log_range l (sealed_used (s.kind l) ((sealed l).0 h)), law.shape.few_logs)

  told : AreRows (map (row_of s) order) × (logs_of (map (row_of s) order) ≡ order)
  told = rows_told order (row_of s) (λ l. refl) once in_range

  module _ (rows : List LogRow) (are : rows ≡ map (row_of s) order) where
    -- the rows of the sealed logs may be chosen from
    pub rows_are : AreRows rows
    rows_are = subst AreRows (sym are) told.0

    chosen_sealed : (most : ℕ) (chosen : List ℕ) → IsChoice rows most chosen → (l : ℕ) → is_among chosen l ≡ true → s.kind l ≡ kinds.Sealed
    chosen_sealed most chosen choice l h = (sealed l).0 (ap (λ ls. is_among ls l) (sym (ap logs_of are ∙ told.1)) ∙ choice.of_rows l h)

    pub selected_round : (most : ℕ) (r : Round) → IsChoice rows most r.chosen → r.phase ≡ Marking → r.index ≡ 0 → r.at ≡ 0 → is_empty r.chosen ≡ false → s.epoch + 1 ≢ EPOCH_END → InRound s r
    selected_round most r choice marks index at some other =
        chosen_round s r law marks index at (chosen_sealed most r.chosen choice) choice.once some (omega (arith, law.scopes.epoch_below, other))
