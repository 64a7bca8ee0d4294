use Rattle.std.proofs.Common.{arith}
use Rattle.far_private.proofs.LastSteps.{as_told, marks_cold, marks_held, marks_keeps, marks_logs, marks_phase}
use Rattle.far_private.proofs.last.mark_all.Goals as goal

pub returns : goal.returns
returns g c =
    let old = c.args.evac.now in
    let new = c.mark_some.new.self in
    let law = old.book.near.core.law in
    let moment = c.keeps_law.ensures.moment in
    let is = as_told c.mark_some.result (c.mark_some.ensures.exact tt) c.mark_some.ensures.refused c.requires.marking in
    record {
      keeps = marks_keeps old new law moment 65536 (omega arith) c.requires.marking is;
      phase = marks_phase old new law moment 65536 (omega arith) c.requires.marking is;
      collection = marks_held old new law moment 65536 (omega arith) c.requires.marking is;
      logs = marks_logs old new law moment 65536 (omega arith) c.requires.marking is;
      cold = marks_cold old new law moment 65536 (omega arith) c.requires.marking is;
    }
