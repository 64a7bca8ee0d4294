use Rattle.far_replay_laws.proofs.Determined.{answers_are_one, answers_once, outside_decides_output}
use Rattle.far_replay_laws.proofs.EndsTold.{ends_said, ends_told}
use Rattle.far_replay_laws.proofs.OutputLaws.{each_answered}
use Rattle.far_replay_laws.proofs.SaidBy.{lines_numbered}
use Rattle.far_text.proofs.TextLaws.{texts_write}
use Rattle.far_replay_laws.proofs.headline.texts_are_answered.Goals as goal

pub returns : goal.returns
returns c = record { answered = each_answered; once = answers_once; decided = answers_are_one; made = outside_decides_output; bytes = texts_write; numbered = lines_numbered; ends = ends_told; said = ends_said }
