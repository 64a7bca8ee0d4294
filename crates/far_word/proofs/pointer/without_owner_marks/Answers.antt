use Rattle.far_word.proofs.MaskLaws.{without_owner_marks_read}
use Rattle.far_word.proofs.pointer.without_owner_marks.Goals as goal

pub returns : goal.returns
returns c = without_owner_marks_read c.args.word
