use Rattle.std.proofs.Common.{◌∙◌}
use Rattle.far_word.proofs.HeaderLaws.{head_found_v1, head_only_v1}
use Rattle.far_word.proofs.header.HeadWordV1.read.Goals as goal

pub returns-clause-found : goal.returns-clause-found
returns-clause-found c = rw c.decode.ensures (head_found_v1 c.args.word c.ranges.word.fits)

pub returns-clause-only : goal.returns-clause-only
returns-clause-only c = λ h ok e. c.decode.ensures ∙ head_only_v1 c.args.word h ok e
