use Rattle.far_replay_laws.proofs.OutputLaws.{refused_stays, refusals_stay, unknown_refused}
use Rattle.far_replay_laws.proofs.Failures.{flaws_are_said}
use Rattle.far_replay_laws.proofs.FarRefusals.{device_refuses_far}
use Rattle.far_replay_laws.proofs.Lacking.{memory_is_refused_there}
use Rattle.far_replay_laws.proofs.Refusals.{near_refusals}
use Rattle.far_replay_laws.proofs.headline.refusals_leave_all.Goals as goal

pub returns : goal.returns
returns c = record { stay = refusals_stay; nothing = refused_stays; unknown = unknown_refused; near = near_refusals; far = device_refuses_far; memory = memory_is_refused_there; few = flaws_are_said }
