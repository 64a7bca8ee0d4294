use Rattle.far_book.proofs.book.Book.rows.Goals as goal
use Rattle.std.proofs.Common.{◌∙◌, arith, take_all}
use Rattle.far_book.proofs.region.Gone.{taken_more}

pub loop-row-preserved : goal.loop-row-preserved
loop-row-preserved g c =
    let h = c.loop-row.invariant in
    record {
      rows = taken_more c.as_slice-found.result.now c.loop-row.row-index _ c.loop-row.all.items c.push_reserved.new.self.items c.loop-row-test.true h.rows c.push_reserved.ensures.items;
      count = omega (arith, c.push_reserved.ensures.len, h.count);
      few = omega (arith, c.loop-row-test.true);
      room = c.push_reserved.ensures.capacity ∙ h.room;
    }

pub returns-clause-rows : goal.returns-clause-rows
returns-clause-rows g c =
    let h = c.loop-row.invariant in
    h.rows ∙ take_all c.loop-row.row-index c.as_slice-found.result.now (omega (arith, c.loop-row-test.false)) ∙ c.as_slice-found.ensures ∙ c.log_rows-rows.ensures

pub returns-clause-room : goal.returns-clause-room
returns-clause-room g c = let h = c.loop-row.invariant in omega (arith, h.count, h.few, h.room, c.loop-row-test.false)
