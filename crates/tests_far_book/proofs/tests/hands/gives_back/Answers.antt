-- A log that the core may give back, and in which no cell lies that the hand has found, may be given back as the hand knows it: each job that it has found
-- is the core's.
use Rattle.std.proofs.Common.{◌∙◌, ℕ, true, sym}
use Rattle.std.proofs.lemmas.Bool.{eqb-true, false≢true}
use Rattle.far_events.specs.declared.event.Event.TheVariants.{Get}
use Rattle.far_events.specs.events.Get.{IsVacant}
use Rattle.far_events.specs.events.Legal.{Legal}
use Rattle.far_core.specs.state.CoreState.{core_state}
use Rattle.far_hand.specs.BesetView.{beset_view}
use Rattle.far_hand.specs.Masked.{word_at}
use Rattle.far_hand.specs.declared.beset.Beset.{Beset}
use Rattle.far_hand.proofs.JobsFound.{same_job}
use Rattle.tests_far_book.proofs.tests.hands.gives_back.Goals as goal
use Rattle.tests_far_book.proofs.tests.hands.gives_back.Goals.{then-logs-eq4, else-logs-eq4, then-may_get, else-may_get}

get_known : (hand : Beset) (l at : ℕ) → Legal (core_state hand.core) (Get l at true) → IsVacant (beset_view hand) l → Legal (beset_view hand) (Get l at true)
get_known hand l at (low, word, free) vacant =
    (low, word, (free.0, vacant, λ j job says. free.2 j job (same_job (word_at hand.jobs j) ((core_state hand.core).copying.word j) (hand.finds_jobs j) ∙ says)))

pub get-requires : goal.get-requires
get-requires c = record {
  legal = elim c.if-may_get.branch [
    | then-may_get w ↦ (elim c.if-logs-eq4.branch [
      | then-logs-eq4 v ↦ get_known c.args.hand.now 0 0 (v.may_get.ensures.0 (sym v.value-is ∙ w.if-may_get.true)) (w.is_vacant.ensures (sym w.value-is ∙ c.if-is_vacant.true))
      | else-logs-eq4 v ↦ absurd (v.if-logs-eq4.false (eqb-true c.logs.result 4 (sym v.value-is ∙ w.if-may_get.true)))
    ])
    | else-may_get w ↦ absurd (false≢true (sym w.if-may_get.false ∙ sym w.value-is ∙ c.if-is_vacant.true))
  ];
}
