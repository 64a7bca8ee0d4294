use Rattle.std.proofs.Common.{◌∙◌, inl, inr, sym}
use Rattle.std.proofs.lemmas.Bool.{false≢true}
use Rattle.far_text.specs.Command.{as_policy}
use Rattle.far_split.proofs.RoundsBy.{did_some, stopped_at_once}
use Rattle.far_split.proofs.rounds.make_round.Goals as goal
use Rattle.far_split.proofs.rounds.make_round.Goals.{else-did_nothing-via-then-did_nothing+else-not-stands_after, else-did_nothing-via-else-did_nothing}

pub returns-then-not-stands_after-clause-told : goal.returns-then-not-stands_after-clause-told
returns-then-not-stands_after-clause-told g c = (
  stopped_at_once g.K.HeapName.heap (as_policy c.args.policy) c.args.most c.args.turns c.in-Err.field-0.why c.in-Err.field-0.so_far c.in-Err.ensures.refused (c.did_nothing.ensures.0 c.if-did_nothing.true),
  λ device. false≢true (sym c.if-not-stands_after.true ∙ c.stands_after.ensures.device device),
  λ memory. false≢true (sym c.if-not-stands_after.true ∙ c.stands_after.ensures.memory memory),
)

pub returns-else-did_nothing-clause-told : goal.returns-else-did_nothing-clause-told
returns-else-did_nothing-clause-told g c = elim c.else-did_nothing.branch [
  | else-did_nothing-via-then-did_nothing+else-not-stands_after w ↦ (c.in-Err.ensures.refused, inr (w.stands_after.ensures.causes w.if-not-stands_after.false))
  | else-did_nothing-via-else-did_nothing w ↦ (
    c.in-Err.ensures.refused,
    inl (did_some c.in-Err.field-0.so_far (λ same. false≢true (sym w.if-did_nothing.false ∙ c.did_nothing.ensures.1 same))),
  )
]
