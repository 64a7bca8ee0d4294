use Rattle.std.proofs.Common.{◌∙◌, refl, subst, sym}
use Rattle.far_events.specs.events.Collect.{collected}
use Rattle.far_core.specs.state.CoreState.{core_state}
use Rattle.far_events.specs.state.State.{State}
use Rattle.far_hand.specs.Masked.{word_at, is_counted, CountsOnRest}
use Rattle.far_hand.proofs.Making.{job_seen_rows, job_set_rows, turn_then}
use Rattle.far_hand.proofs.Offering.{collect_empties, collect_found, collect_lost, collect_stays, collect_won}
use Rattle.far_hand.proofs.beset.hand.BesetNear.collect.Goals as goal

pub invariant_of-self : goal.invariant_of-self
invariant_of-self c =
    let hand = c.turn.new.self in
    let s = core_state hand.core in
    let j = c.args.job in
    let is = c.collect.ensures.state ∙ collect_empties s j c.args.old (collect_won s j c.args.old c.in-Ok.ensures.won) in
    let counts = subst (λ (u : State). CountsOnRest u (word_at hand.found.items) (is_counted hand.counted.items)) (sym is) hand.counts in
    job_set_rows hand (core_state c.collect.new.self) j 0 _ c.find_job.ensures (collected s j) _ (is_counted hand.counted.items) is refl refl refl refl refl counts

pub invariant_of-self-in-Err : goal.invariant_of-self-in-Err
invariant_of-self-in-Err c =
    let hand = c.turn.new.self in
    let s = core_state hand.core in
    let j = c.args.job in
    let found = c.in-Err.ensures.found in
    let is = c.collect.ensures.state ∙ collect_stays s j c.args.old (collect_lost s j c.args.old c.in-Err.found found) in
    job_seen_rows hand (core_state c.collect.new.self) j c.in-Err.found _ c.find_job-in-Err.ensures is (collect_found s j c.args.old c.in-Err.found found)

pub returns-in-Ok-clause-made : goal.returns-in-Ok-clause-made
returns-in-Ok-clause-made c =
    let turn = c.turn.ensures in
    turn_then c.args.self.now c.turn.new.self _ _ turn.view turn.made turn.change turn.events turn.next c.requires.legal c.collect.ensures.state c.in-Ok.ensures.won refl refl

pub returns-in-Err-clause-lost : goal.returns-in-Err-clause-lost
returns-in-Err-clause-lost c =
    let turn = c.turn.ensures in
    turn_then c.args.self.now c.turn.new.self _ _ turn.view turn.made turn.change turn.events turn.next c.requires.legal c.collect.ensures.state c.in-Err.ensures.found refl refl

pub returns-in-Ok-clause-set : goal.returns-in-Ok-clause-set
returns-in-Ok-clause-set c = λ still. absurd still

pub returns-in-Err-clause-set : goal.returns-in-Err-clause-set
returns-in-Err-clause-set c = λ still. absurd still
