use Rattle.far_private.proofs.Placing.{keeps_kept}
use Rattle.std.proofs.Common.{◌∙◌, length, sym}
use Rattle.far_private.specs.Objects.{objects_in, state_in}
use Rattle.far_private.proofs.HeapTies.{bars_so, done_so, read_so, refusal_so, stays_so, why_so}
use Rattle.far_private.proofs.Lawful.{ends}
use Rattle.far_private.proofs.NotGiven.{given_so, on_err, stays_away}
use Rattle.far_private.proofs.heap.PrivateHeap.read.Goals as goal

pub returns-clause-same : goal.returns-clause-same
returns-clause-same g c = stays_so (objects_in c.self.inside.evac) c.args.self.now c.self.view_is (objects_in c.read_range.new.evac) c.read_range.ensures.keeps.objects

pub returns-clause-read : goal.returns-clause-read
returns-clause-read g c = read_so (objects_in c.self.inside.evac) c.args.self.now c.self.view_is (ends (state_in c.self.inside.evac) c.self.inside.evac.book.near.core.law c.self.invariant.0.settled)
    c.read_range.result c.args.pointer c.args.from (length c.args.out.now) c.read_range.new.out c.read_range.ensures.read

pub returns-clause-done : goal.returns-clause-done
returns-clause-done g c = done_so (objects_in c.self.inside.evac) c.args.self.now c.self.view_is (ends (state_in c.self.inside.evac) c.self.inside.evac.book.near.core.law c.self.invariant.0.settled)
    c.args.pointer c.args.from (length c.args.out.now) c.read_range.result c.read_range.ensures.barred c.read_range.ensures.outside

pub returns-clause-barred : goal.returns-clause-barred
returns-clause-barred g c = bars_so (objects_in c.self.inside.evac) c.args.self.now c.self.view_is (ends (state_in c.self.inside.evac) c.self.inside.evac.book.near.core.law c.self.invariant.0.settled)
    c.args.pointer c.args.from (length c.args.out.now) c.read_range.result c.read_range.ensures.barred c.read_range.ensures.outside

pub returns-clause-why : goal.returns-clause-why
returns-clause-why g c = why_so (objects_in c.self.inside.evac) c.args.self.now c.self.view_is (ends (state_in c.self.inside.evac) c.self.inside.evac.book.near.core.law c.self.invariant.0.settled)
    c.args.pointer c.args.from (length c.args.out.now) c.read_range.result c.read_range.ensures.barred c.read_range.ensures.outside

pub returns-clause-fault : goal.returns-clause-fault
returns-clause-fault g c = λ e. c.read_range.ensures.fault
    (sym (refusal_so (objects_in c.self.inside.evac) c.args.self.now c.self.view_is (ends (state_in c.self.inside.evac) c.self.inside.evac.book.near.core.law c.self.invariant.0.settled) c.args.pointer c.args.from (length c.args.out.now)) ∙ e)

pub returns-clause-given : goal.returns-clause-given
returns-clause-given g c = given_so g.D.Device.reads (objects_in c.self.inside.evac) c.args.self.now c.self.view_is (ends (state_in c.self.inside.evac) c.self.inside.evac.book.near.core.law c.self.invariant.0.settled)
    (state_in c.read_range.new.evac) c.args.pointer c.read_range.new.evac.book.device c.args.from (length c.args.out.now) c.read_range.result c.read_range.ensures.barred
    (on_err c.read_range.result c.read_range.ensures.keeps.objects)
    (λ e. stays_away g.D.Device.reads (state_in c.read_range.new.evac) c.args.pointer c.read_range.new.evac.book.device c.read_range.result (c.read_range.ensures.far e))

pub invariant_of-self : goal.invariant_of-self
invariant_of-self g c = (keeps_kept (state_in c.self.inside.evac) (state_in c.read_range.new.evac) c.self.inside.free c.self.invariant.0 c.read_range.ensures.keeps, c.read_range.ensures.idle c.self.invariant.1)
