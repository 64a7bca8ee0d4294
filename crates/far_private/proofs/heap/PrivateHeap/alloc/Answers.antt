use Rattle.std.proofs.Common.{Err, ◌<◌, ◌∙◌, Some, ap, arith}
use Rattle.far_private.specs.Heap.{Heap, new_object}
use Rattle.far_private.specs.Objects.{objects_in, state_in}
use Rattle.far_private.proofs.HeapTies.{full_so, length_yes, made_so, new_at, none_so, not_full, not_long, stays_so}
use Rattle.far_private.proofs.Lawful.{ends}
use Rattle.far_private.proofs.Placing.{free_none, full_some, has_same, has_taken}
use Rattle.far_private.proofs.RoomTold.{room_so, want_why}
use Rattle.far_private.proofs.heap.PrivateHeap.alloc.Goals as goal

pub returns-in_default-clause-long : goal.returns-in_default-clause-long
returns-in_default-clause-long g c = let some : 0 < c.args.len = omega arith in not_long c.args.self.now c.args.len some (omega arith) _

pub returns-in_default-clause-why : goal.returns-in_default-clause-why
returns-in_default-clause-why g c =
    let s = state_in c.self.inside.evac in
    let law = c.self.inside.evac.book.near.core.law in
    let some : 0 < c.args.len = omega arith in
    (length_yes c.args.len some (omega arith), full_so (objects_in c.self.inside.evac) c.args.self.now c.self.view_is (ends s law c.self.invariant.0.settled) (full_some s law c.self.invariant.0.settled c.in_default.ensures))

pub returns-in-Ok : goal.returns-in-Ok
returns-in-Ok g c =
    let s = state_in c.self.inside.evac in
    let law = c.self.inside.evac.book.near.core.law in
    let some : 0 < c.args.len = omega arith in
    let free = c.in-Some.ensures in
    let none = none_so (objects_in c.self.inside.evac) c.args.self.now c.self.view_is (ends s law c.self.invariant.0.settled) c.in-Some.pointer (free_none s law c.self.invariant.0.settled c.in-Some.pointer free.free) in
    record {
      made = (free.inside, none, made_so (objects_in c.self.inside.evac) c.args.self.now c.self.view_is (objects_in c.place_new.new.evac) c.in-Some.pointer c.args.len c.args.structure c.in-Ok.ensures.made);
      object = new_at (objects_in c.place_new.new.evac) (objects_in c.self.inside.evac) c.in-Some.pointer _ free.inside c.in-Ok.ensures.made ∙ ap (λ (h : Heap). Some (new_object h.honest c.args.len c.args.structure)) c.self.view_is;
      done = length_yes c.args.len some (omega arith);
      refused = tt;
      long = not_long c.args.self.now c.args.len some (omega arith) _;
      full = not_full c.args.self.now c.args.len some (omega arith) c.in-Some.pointer free.inside none _;
      why = tt;
      room = λ e. absurd cc;
    }

pub returns-in-Err : goal.returns-in-Err
returns-in-Err g c =
    let s = state_in c.self.inside.evac in
    let law = c.self.inside.evac.book.near.core.law in
    let some : 0 < c.args.len = omega arith in
    let free = c.in-Some.ensures in
    let none = none_so (objects_in c.self.inside.evac) c.args.self.now c.self.view_is (ends s law c.self.invariant.0.settled) c.in-Some.pointer (free_none s law c.self.invariant.0.settled c.in-Some.pointer free.free) in
    record {
      made = tt;
      object = tt;
      done = tt;
      refused = stays_so (objects_in c.self.inside.evac) c.args.self.now c.self.view_is (objects_in c.place_new.new.evac) c.in-Err.ensures.refused;
      long = not_long c.args.self.now c.args.len some (omega arith) _;
      full = not_full c.args.self.now c.args.len some (omega arith) c.in-Some.pointer free.inside none _;
      why = want_why c.args.self.now c.args.len (length_yes c.args.len some (omega arith)) (c.in-Some.pointer, free.inside, none) c.in-Err.why c.in-Err.ensures.why;
      room = room_so g.D.Device.writes s c.args.self.now c.self.view_is (ends s law c.self.invariant.0.settled) (Err c.in-Err.why) c.in-Err.ensures.stuck;
    }

pub invariant_of-self : goal.invariant_of-self
invariant_of-self g c = (
  record {
    settled = c.place_new.ensures.settled;
    free = has_taken c.self.inside.free c.remove.new.self (objects_in c.self.inside.evac) c.self.invariant.0.free (objects_in c.place_new.new.evac) c.in-Some.pointer _ c.in-Ok.ensures.made c.remove.ensures;
  },
  c.place_new.ensures.idle c.self.invariant.1,
)

pub invariant_of-self-in-Err : goal.invariant_of-self-in-Err
invariant_of-self-in-Err g c = (
  record {
    settled = c.place_new.ensures.settled;
    free = has_same c.self.inside.free c.self.inside.free (objects_in c.self.inside.evac) c.self.invariant.0.free (objects_in c.place_new.new.evac) c.in-Err.ensures.refused;
  },
  c.place_new.ensures.idle c.self.invariant.1,
)
