use Rattle.far_private.proofs.Placing.{written_kept}
use Rattle.std.proofs.Common.{length}
use Rattle.far_private.specs.Objects.{objects_in, state_in}
use Rattle.far_private.proofs.HeapTies.{bars_so, done_so, stays_err, why_so, written_ok, written_at}
use Rattle.far_private.proofs.Lawful.{ends}
use Rattle.far_private.proofs.NotGiven.{given_so}
use Rattle.far_private.proofs.RoomTold.{room_so}
use Rattle.far_private.proofs.heap.PrivateHeap.write.Goals as goal

pub returns-clause-written : goal.returns-clause-written
returns-clause-written g c = written_ok (objects_in c.self.inside.evac) c.args.self.now c.self.view_is (ends (state_in c.self.inside.evac) c.self.inside.evac.book.near.core.law c.self.invariant.0.settled)
    c.write_range.result (objects_in c.write_range.new.evac) c.args.pointer c.args.from c.args.bytes.now c.write_range.ensures.written

pub returns-clause-object : goal.returns-clause-object
returns-clause-object g c = written_at (objects_in c.self.inside.evac) c.args.self.now c.self.view_is (ends (state_in c.self.inside.evac) c.self.inside.evac.book.near.core.law c.self.invariant.0.settled)
    c.write_range.result (objects_in c.write_range.new.evac) c.args.pointer c.args.from c.args.bytes.now (ends (state_in c.write_range.new.evac) c.write_range.new.evac.book.near.core.law c.write_range.ensures.settled) c.write_range.ensures.written

pub returns-clause-refused : goal.returns-clause-refused
returns-clause-refused g c = stays_err (objects_in c.self.inside.evac) c.args.self.now c.self.view_is c.write_range.result (objects_in c.write_range.new.evac) c.write_range.ensures.refused

pub returns-clause-done : goal.returns-clause-done
returns-clause-done g c = done_so (objects_in c.self.inside.evac) c.args.self.now c.self.view_is (ends (state_in c.self.inside.evac) c.self.inside.evac.book.near.core.law c.self.invariant.0.settled)
    c.args.pointer c.args.from (length c.args.bytes.now) c.write_range.result c.write_range.ensures.barred c.write_range.ensures.outside

pub returns-clause-barred : goal.returns-clause-barred
returns-clause-barred g c = bars_so (objects_in c.self.inside.evac) c.args.self.now c.self.view_is (ends (state_in c.self.inside.evac) c.self.inside.evac.book.near.core.law c.self.invariant.0.settled)
    c.args.pointer c.args.from (length c.args.bytes.now) c.write_range.result c.write_range.ensures.barred c.write_range.ensures.outside

pub returns-clause-why : goal.returns-clause-why
returns-clause-why g c = why_so (objects_in c.self.inside.evac) c.args.self.now c.self.view_is (ends (state_in c.self.inside.evac) c.self.inside.evac.book.near.core.law c.self.invariant.0.settled)
    c.args.pointer c.args.from (length c.args.bytes.now) c.write_range.result c.write_range.ensures.barred c.write_range.ensures.outside

pub returns-clause-room : goal.returns-clause-room
returns-clause-room g c = room_so g.D.Device.writes (state_in c.self.inside.evac) c.args.self.now c.self.view_is (ends (state_in c.self.inside.evac) c.self.inside.evac.book.near.core.law c.self.invariant.0.settled) c.write_range.result c.write_range.ensures.stuck

pub returns-clause-given : goal.returns-clause-given
returns-clause-given g c = given_so g.D.Device.reads (objects_in c.self.inside.evac) c.args.self.now c.self.view_is (ends (state_in c.self.inside.evac) c.self.inside.evac.book.near.core.law c.self.invariant.0.settled)
    (state_in c.write_range.new.evac) c.args.pointer c.write_range.new.evac.book.device c.args.from (length c.args.bytes.now) c.write_range.result c.write_range.ensures.barred
    c.write_range.ensures.refused
    c.write_range.ensures.away

pub invariant_of-self : goal.invariant_of-self
invariant_of-self g c = (
  written_kept (state_in c.self.inside.evac) (state_in c.write_range.new.evac) c.self.inside.free c.self.invariant.0 c.write_range.result c.args.pointer c.args.from c.args.bytes.now
      c.write_range.ensures.settled c.write_range.ensures.written c.write_range.ensures.refused,
  c.write_range.ensures.idle c.self.invariant.1,
)
