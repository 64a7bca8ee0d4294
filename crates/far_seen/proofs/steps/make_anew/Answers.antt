use Rattle.far_seen.specs.Parts.{plain}
use Rattle.far_seen.proofs.Outcomes.{grown_lines, grown_sound}
use Rattle.far_seen.proofs.steps.make_anew.Goals as goal

pub returns-clause-sound : goal.returns-clause-sound
returns-clause-sound c = λ f sound. grown_sound (plain f c.args.near.now) c.in-Ok.slots c.twice-more.result sound c.twice-more.ensures c.in-Ok.ensures

pub returns-clause-same : goal.returns-clause-same
returns-clause-same c = λ f sound. grown_lines (plain f c.args.near.now) c.in-Ok.slots c.twice-more.result sound c.twice-more.ensures c.in-Ok.ensures
