use Rattle.std.proofs.Common.{Err, ◌≡◌, ◌∙◌, length, sym, true, Some, ap}
use Rattle.std.proofs.lemmas.Bool.{false≢true}
use Rattle.far_private.specs.Heap.{Heap, is_length, object_with}
use Rattle.far_private.specs.Objects.{objects_in, state_in}
use Rattle.far_private.proofs.Calling.{bytes_so, length_most, length_some}
use Rattle.far_private.proofs.HeapTies.{full_so, none_so, not_full, not_long, stays_so, new_at}
use Rattle.far_private.proofs.Lawful.{ends}
use Rattle.far_private.proofs.Placing.{free_none, full_some, has_same, has_taken}
use Rattle.far_private.proofs.RoomTold.{room_so, want_why}
use Rattle.far_private.proofs.heap.PrivateHeap.alloc_with.Goals as goal

pub returns-then-not-is_object-clause-full : goal.returns-then-not-is_object-clause-full
returns-then-not-is_object-clause-full g c e full = absurd (false≢true (sym c.if-not-is_object.true ∙ c.is_object.ensures ∙ e))

pub returns-then-not-is_object-clause-why : goal.returns-then-not-is_object-clause-why
returns-then-not-is_object-clause-why g c = sym c.is_object.ensures ∙ c.if-not-is_object.true

pub place_with-requires-clause-some : goal.place_with-requires-clause-some
place_with-requires-clause-some g c = length_some (length c.args.bytes.now) (sym c.is_object.ensures ∙ c.if-not-is_object.false)

pub place_with-requires-clause-most : goal.place_with-requires-clause-most
place_with-requires-clause-most g c = length_most (length c.args.bytes.now) (sym c.is_object.ensures ∙ c.if-not-is_object.false)

pub returns-in_default-clause-long : goal.returns-in_default-clause-long
returns-in_default-clause-long g c =
    let long : is_length (length c.args.bytes.now) ≡ true = sym c.is_object.ensures ∙ c.if-not-is_object.false in
    not_long c.args.self.now (length c.args.bytes.now) (length_some _ long) (length_most _ long) _

pub returns-in_default-clause-why : goal.returns-in_default-clause-why
returns-in_default-clause-why g c =
    let s = state_in c.self.inside.evac in
    let law = c.self.inside.evac.book.near.core.law in
    (sym c.is_object.ensures ∙ c.if-not-is_object.false, full_so (objects_in c.self.inside.evac) c.args.self.now c.self.view_is (ends s law c.self.invariant.0.settled) (full_some s law c.self.invariant.0.settled c.in_default.ensures))

pub returns-in-Ok : goal.returns-in-Ok
returns-in-Ok g c =
    let s = state_in c.self.inside.evac in
    let law = c.self.inside.evac.book.near.core.law in
    let long : is_length (length c.args.bytes.now) ≡ true = sym c.is_object.ensures ∙ c.if-not-is_object.false in
    let free = c.in-Some.ensures in
    let none = none_so (objects_in c.self.inside.evac) c.args.self.now c.self.view_is (ends s law c.self.invariant.0.settled) c.in-Some.pointer (free_none s law c.self.invariant.0.settled c.in-Some.pointer free.free) in
    record {
      made = (free.inside, none, bytes_so (objects_in c.self.inside.evac) c.args.self.now c.self.view_is (objects_in c.place_with.new.evac) c.in-Some.pointer c.args.structure c.args.bytes.now c.in-Ok.ensures.made);
      object = new_at (objects_in c.place_with.new.evac) (objects_in c.self.inside.evac) c.in-Some.pointer _ free.inside c.in-Ok.ensures.made ∙ ap (λ (h : Heap). Some (object_with h.honest c.args.structure c.args.bytes.now)) c.self.view_is;
      done = long;
      refused = tt;
      long = not_long c.args.self.now (length c.args.bytes.now) (length_some _ long) (length_most _ long) _;
      full = not_full c.args.self.now (length c.args.bytes.now) (length_some _ long) (length_most _ long) c.in-Some.pointer free.inside none _;
      why = tt;
      room = λ e. absurd cc;
    }

pub returns-in-Err : goal.returns-in-Err
returns-in-Err g c =
    let s = state_in c.self.inside.evac in
    let law = c.self.inside.evac.book.near.core.law in
    let long : is_length (length c.args.bytes.now) ≡ true = sym c.is_object.ensures ∙ c.if-not-is_object.false in
    let free = c.in-Some.ensures in
    let none = none_so (objects_in c.self.inside.evac) c.args.self.now c.self.view_is (ends s law c.self.invariant.0.settled) c.in-Some.pointer (free_none s law c.self.invariant.0.settled c.in-Some.pointer free.free) in
    record {
      made = tt;
      object = tt;
      done = tt;
      refused = stays_so (objects_in c.self.inside.evac) c.args.self.now c.self.view_is (objects_in c.place_with.new.evac) c.in-Err.ensures.refused;
      long = not_long c.args.self.now (length c.args.bytes.now) (length_some _ long) (length_most _ long) _;
      full = not_full c.args.self.now (length c.args.bytes.now) (length_some _ long) (length_most _ long) c.in-Some.pointer free.inside none _;
      why = want_why c.args.self.now (length c.args.bytes.now) long (c.in-Some.pointer, free.inside, none) c.in-Err.why c.in-Err.ensures.why;
      room = room_so g.D.Device.writes s c.args.self.now c.self.view_is (ends s law c.self.invariant.0.settled) (Err c.in-Err.why) c.in-Err.ensures.stuck;
    }

pub invariant_of-self : goal.invariant_of-self
invariant_of-self g c = (
  record {
    settled = c.place_with.ensures.settled;
    free = has_taken c.self.inside.free c.remove.new.self (objects_in c.self.inside.evac) c.self.invariant.0.free (objects_in c.place_with.new.evac) c.in-Some.pointer _ c.in-Ok.ensures.made c.remove.ensures;
  },
  c.place_with.ensures.idle c.self.invariant.1,
)

pub invariant_of-self-in-Err : goal.invariant_of-self-in-Err
invariant_of-self-in-Err g c = (
  record {
    settled = c.place_with.ensures.settled;
    free = has_same c.self.inside.free c.self.inside.free (objects_in c.self.inside.evac) c.self.invariant.0.free (objects_in c.place_with.new.evac) c.in-Err.ensures.refused;
  },
  c.place_with.ensures.idle c.self.invariant.1,
)
