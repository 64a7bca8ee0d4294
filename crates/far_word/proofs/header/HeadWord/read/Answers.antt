use Rattle.std.proofs.Common.{◌∙◌}
use Rattle.far_word.proofs.HeaderLaws.{head_found, head_only}
use Rattle.far_word.proofs.header.HeadWord.read.Goals as goal

pub returns-clause-found : goal.returns-clause-found
returns-clause-found c = rw c.decode.ensures (head_found c.args.word c.ranges.word.fits)

pub returns-clause-only : goal.returns-clause-only
returns-clause-only c = λ h ok e. c.decode.ensures ∙ head_only c.args.word h ok e
