use Rattle.far_replay_laws.proofs.AllSaid.{texts_leave}
use Rattle.far_replay_laws.proofs.HotViews.{views_are_hot}
use Rattle.far_replay_laws.proofs.LeavingMarks.{commands_leave}
use Rattle.far_replay_laws.proofs.left_marks.views_mark.Goals as goal

pub returns : goal.returns
returns c = record { leave = commands_leave; viewed = views_are_hot; texts = texts_leave }
