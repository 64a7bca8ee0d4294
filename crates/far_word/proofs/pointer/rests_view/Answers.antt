use Rattle.far_word.proofs.MaskLaws.{rests}
use Rattle.far_word.proofs.pointer.rests_view.Goals as goal

pub returns : goal.returns
returns c = rests c.args.word
