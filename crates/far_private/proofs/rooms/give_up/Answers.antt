use Rattle.far_private.proofs.RoundsAsked.{ended_idle}
use Rattle.far_private.proofs.Rounds.{ends}
use Rattle.far_private.proofs.rooms.give_up.Goals as goal

pub returns-then-ne : goal.returns-then-ne
returns-then-ne g c = record {
  keeps = ends c.args.evac.now c.abort.new.self c.args.evac.now.book.near.core.law c.keeps_law.ensures.moment (c.keeps_law.ensures.exact tt) c.abort.result (c.abort.ensures.exact tt) c.abort.ensures.unchanged;
  idle = ended_idle c.args.evac.now c.abort.new.self c.abort.result (c.abort.ensures.exact tt) c.abort.ensures.refused c.abort.ensures.unchanged;
}
