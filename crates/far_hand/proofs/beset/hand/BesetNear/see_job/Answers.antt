use Rattle.std.proofs.Common.{◌≡◌, refl}
use Rattle.far_core.specs.state.CoreState.{core_state}
use Rattle.far_hand.proofs.Making.{job_seen_rows, turn_then}
use Rattle.far_hand.proofs.beset.hand.BesetNear.see_job.Goals as goal

pub invariant_of-self : goal.invariant_of-self
invariant_of-self c =
    let hand = c.turn.new.self in
    let here : (core_state hand.core).copying.word c.args.job ≡ c.see_job-word.result = cc in
    job_seen_rows hand (core_state hand.core) c.args.job c.see_job-word.result _ c.find_job.ensures refl here

pub returns-clause-made : goal.returns-clause-made
returns-clause-made c =
    let turn = c.turn.ensures in
    turn_then c.args.self.now c.turn.new.self _ _ turn.view turn.made turn.change turn.events turn.next c.requires.legal refl c.see_job-word.ensures.word refl refl

pub returns-clause-exact : goal.returns-clause-exact
returns-clause-exact c = λ still. absurd still

pub returns-clause-set : goal.returns-clause-set
returns-clause-set c = λ still. absurd still
