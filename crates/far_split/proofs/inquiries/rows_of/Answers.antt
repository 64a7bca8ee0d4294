use Rattle.std.proofs.Common.{arith}
use Rattle.far_table.specs.BookSeats.{seat_view}
use Rattle.far_evac.specs.EvacOf.{moment}
use Rattle.far_split.proofs.Telling.{rows_more}
use Rattle.far_split.proofs.inquiries.rows_of.Goals as goal

pub loop-log-preserved : goal.loop-log-preserved
loop-log-preserved g c =
    let begins = c.loop-log.auto.log in
    let i = c.loop-log.invariant in
    let fuller = c.push_reserved.ensures.len in
    let kept = c.push_reserved.ensures.capacity in
    record {
      lines = rows_more (moment seat_view c.args.book.now) c.args.first c.loop-log.log c.loop-log.rows.items c.push_reserved.new.self.items c.words_of.result begins (omega (arith, i.many)) i.lines c.push_reserved.ensures.items c.words_of.ensures;
      many = omega arith;
      buffer = omega arith;
    }
