use Rattle.far_private.proofs.Keeping.{keeps_both}
use Rattle.far_private.proofs.freeing.turn_all.Goals as goal

pub returns-clause-keeps : goal.returns-clause-keeps
returns-clause-keeps g c = keeps_both _ _ _ c.make_turns.ensures c.end_round.ensures.keeps
