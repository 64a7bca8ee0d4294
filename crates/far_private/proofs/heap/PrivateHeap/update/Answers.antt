use Rattle.std.proofs.Common.{length}
use Rattle.far_private.specs.Objects.{objects_in, state_in}
use Rattle.far_private.proofs.Calling.{updates_so}
use Rattle.far_private.proofs.HeapTies.{bars_so, done_so, stays_err, why_so}
use Rattle.far_private.proofs.Lawful.{ends}
use Rattle.far_private.proofs.Placing.{changed_kept}
use Rattle.far_private.proofs.NotGiven.{given_so}
use Rattle.far_private.proofs.RoomTold.{room_so}
use Rattle.far_private.proofs.heap.PrivateHeap.update.Goals as goal

pub returns-clause-changed : goal.returns-clause-changed
returns-clause-changed g c = updates_so _ (objects_in c.self.inside.evac) c.args.self.now c.self.view_is (ends (state_in c.self.inside.evac) c.self.inside.evac.book.near.core.law c.self.invariant.0.settled)
    c.change_range.result (objects_in c.change_range.new.evac) c.args.pointer c.args.from (length c.args.bytes.now) c.change_range.new.bytes c.change_range.ensures.changed

pub returns-clause-refused : goal.returns-clause-refused
returns-clause-refused g c = stays_err (objects_in c.self.inside.evac) c.args.self.now c.self.view_is c.change_range.result (objects_in c.change_range.new.evac) c.change_range.ensures.refused

pub returns-clause-done : goal.returns-clause-done
returns-clause-done g c = done_so (objects_in c.self.inside.evac) c.args.self.now c.self.view_is (ends (state_in c.self.inside.evac) c.self.inside.evac.book.near.core.law c.self.invariant.0.settled)
    c.args.pointer c.args.from (length c.args.bytes.now) c.change_range.result c.change_range.ensures.barred c.change_range.ensures.outside

pub returns-clause-barred : goal.returns-clause-barred
returns-clause-barred g c = bars_so (objects_in c.self.inside.evac) c.args.self.now c.self.view_is (ends (state_in c.self.inside.evac) c.self.inside.evac.book.near.core.law c.self.invariant.0.settled)
    c.args.pointer c.args.from (length c.args.bytes.now) c.change_range.result c.change_range.ensures.barred c.change_range.ensures.outside

pub returns-clause-why : goal.returns-clause-why
returns-clause-why g c = why_so (objects_in c.self.inside.evac) c.args.self.now c.self.view_is (ends (state_in c.self.inside.evac) c.self.inside.evac.book.near.core.law c.self.invariant.0.settled)
    c.args.pointer c.args.from (length c.args.bytes.now) c.change_range.result c.change_range.ensures.barred c.change_range.ensures.outside

pub returns-clause-room : goal.returns-clause-room
returns-clause-room g c = room_so g.D.Device.writes (state_in c.self.inside.evac) c.args.self.now c.self.view_is (ends (state_in c.self.inside.evac) c.self.inside.evac.book.near.core.law c.self.invariant.0.settled) c.change_range.result c.change_range.ensures.stuck

pub returns-clause-given : goal.returns-clause-given
returns-clause-given g c = given_so g.D.Device.reads (objects_in c.self.inside.evac) c.args.self.now c.self.view_is (ends (state_in c.self.inside.evac) c.self.inside.evac.book.near.core.law c.self.invariant.0.settled)
    (state_in c.change_range.new.evac) c.args.pointer c.change_range.new.evac.book.device c.args.from (length c.args.bytes.now) c.change_range.result c.change_range.ensures.barred
    c.change_range.ensures.refused
    c.change_range.ensures.away

pub invariant_of-self : goal.invariant_of-self
invariant_of-self g c = (
  changed_kept (state_in c.self.inside.evac) (state_in c.change_range.new.evac) c.self.inside.free c.self.invariant.0 _ c.change_range.result c.args.pointer c.args.from (length c.args.bytes.now) c.change_range.new.bytes
      c.change_range.ensures.settled c.change_range.ensures.changed c.change_range.ensures.refused,
  c.change_range.ensures.idle c.self.invariant.1,
)
