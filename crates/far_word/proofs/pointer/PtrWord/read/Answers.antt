use Rattle.std.proofs.Common.{◌∙◌}
use Rattle.far_word.proofs.PointerLaws.{pointer_found, read_only}
use Rattle.far_word.proofs.pointer.PtrWord.read.Goals as goal

pub returns-clause-found : goal.returns-clause-found
returns-clause-found c = rw c.decode.ensures (pointer_found c.args.word c.ranges.word.fits)

pub returns-clause-only : goal.returns-clause-only
returns-clause-only c = λ v ok e. c.decode.ensures ∙ read_only c.args.word v ok e
