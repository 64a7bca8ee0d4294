use Rattle.std.proofs.Common.{arith}
use Rattle.far_log.proofs.WalkLaws.{same_image, same_image_bad}
use Rattle.far_log.proofs.laws.later_words_say_nothing.Goals as goal

pub returns-clause-tail : goal.returns-clause-tail
returns-clause-tail c word other tail spans same walk = same_image word other tail spans same walk

pub returns-clause-bad : goal.returns-clause-bad
returns-clause-bad c word other tail at w same first = same_image_bad word other tail at w (λ i lt. same i (omega arith)) first
