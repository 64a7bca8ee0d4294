use Rattle.far_private.proofs.LastSteps.{poll_told, polls_cells, polls_held, polls_keeps, polls_logs, polls_phase}
use Rattle.far_private.proofs.last.poll_all.Goals as goal

pub returns : goal.returns
returns g c =
    let old = c.args.evac.now in
    let new = c.poll_wait.new.self in
    let is = poll_told _ c.poll_wait.result (c.poll_wait.ensures.exact tt) c.poll_wait.ensures.refused c.requires.waiting in
    record {
      keeps = polls_keeps old new c.requires.settled is;
      phase = polls_phase old new c.requires.settled is;
      collection = polls_held old new c.requires.settled is;
      logs = polls_logs old new c.requires.settled is;
      cells = polls_cells old new c.requires.settled is;
    }
