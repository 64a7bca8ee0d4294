use Rattle.far_evac.specs.EvacOf.{moment_alone}
use Rattle.far_private.specs.Objects.{state_in}
use Rattle.far_private.proofs.LastCalls.{oldest_are, oldest_spent, stays_idle, stays_logs, stays_order, unmarked_bare, unmarked_keeps, unmarked_logs, unmarked_order}
use Rattle.far_private.proofs.Rounds.{unchanged}
use Rattle.far_private.proofs.RoundsAsked.{ended_idle}
use Rattle.far_private.proofs.last.unmark_oldest.Goals as goal

pub returns-in-Ok : goal.returns-in-Ok
returns-in-Ok g c =
    let old = c.args.evac.now in
    let mid = c.select.new.self in
    let new = c.abort.new.self in
    let begun = c.in-Ok.ensures.begun in
    let law = mid.book.near.core.law in
    let moment = c.keeps_law-in-Ok.ensures.moment in
    let alone = c.keeps_law-in-Ok.ensures.exact tt in
    let done = c.abort.ensures.exact tt in
    record {
      keeps = unmarked_keeps old mid _ begun law moment alone new c.abort.result done c.abort.ensures.refused c.abort.ensures.unchanged;
      idle = ended_idle mid new c.abort.result done c.abort.ensures.refused c.abort.ensures.unchanged;
      order = unmarked_order old mid _ begun law moment alone new c.abort.result done c.abort.ensures.refused c.abort.ensures.unchanged;
      logs = unmarked_logs old mid _ begun law moment alone new c.abort.result done c.abort.ensures.refused c.abort.ensures.unchanged;
      bare = unmarked_bare old mid _ begun law moment alone new c.abort.result done c.abort.ensures.refused c.abort.ensures.unchanged (oldest_are (state_in old) old.book.order _ c.in-Ok.ensures.gives);
      spent = tt;
    }

pub returns-in-Err : goal.returns-in-Err
returns-in-Err g c =
    let same = c.in-Err.ensures.unchanged in
    record {
      keeps = unchanged c.args.evac.now c.select.new.self same;
      idle = stays_idle c.args.evac.now c.select.new.self same c.requires.idle;
      order = stays_order c.args.evac.now c.select.new.self same;
      logs = stays_logs c.args.evac.now c.select.new.self same;
      bare = tt;
      spent = oldest_spent (moment_alone c.args.evac.now) c.in-Err.why _ c.requires.idle c.in-Err.ensures.why;
    }
