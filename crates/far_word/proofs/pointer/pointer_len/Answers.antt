use Rattle.std.proofs.Common.{◌∙◌}
use Rattle.far_word.proofs.FieldLaws.{len_read}
use Rattle.far_word.proofs.pointer.pointer_len.Goals as goal

pub returns : goal.returns
returns c = λ v e. c.field-len.ensures ∙ len_read c.args.word v c.ranges.word.fits e
