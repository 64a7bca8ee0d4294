use Rattle.std.proofs.Common.{arith}
use Rattle.far_private.proofs.Keeping.{keeps_both}
use Rattle.far_private.proofs.freeing.free_logs.Goals as goal

pub returns-in-Ok-clause-keeps : goal.returns-in-Ok-clause-keeps
returns-in-Ok-clause-keeps g c = keeps_both _ _ _ (keeps_both _ _ _ c.end_round.ensures.keeps c.begin.ensures.keeps) c.turn_all.ensures.keeps

pub returns-in-Err-clause-keeps : goal.returns-in-Err-clause-keeps
returns-in-Err-clause-keeps g c = keeps_both _ _ _ c.end_round.ensures.keeps c.begin.ensures.keeps

pub returns-in-Ok-clause-named : goal.returns-in-Ok-clause-named
returns-in-Ok-clause-named g c = let h = c.in-Ok.ensures.named in (h.0, h.1, h.2, omega (arith, h.3, c.turn_all.ensures.few))
