use Rattle.std.proofs.Common.{◌∙◌, ap, sym}
use Rattle.far_events.specs.state.Memory.{state_of}
use Rattle.far_events.specs.state.State.{State}
use Rattle.far_core.proofs.Kept.{rows_same}
use Rattle.far_core.proofs.NewObjects.{MayMake, layout, made_end, made_keep, made_legal, pointer}
use Rattle.far_core.proofs.machine.Core.place_with.Goals as goal

pub place_with-requires-clause-layout : goal.place_with-requires-clause-layout
place_with-requires-clause-layout c =
    let x : MayMake (state_of c.args.self.now.memory) c.args.owner c.args.head.pointer c.args.head.len c.args.head.ds c.args.place c.args.bytes.now = record {
      law = c.args.self.now.law;
      closed = c.requires.closed;
      fresh = c.requires.fresh;
      own = c.requires.own;
      free = c.requires.free;
      next = c.requires.next;
      some = c.requires.head.some;
      inside = c.requires.inside;
      structure = c.requires.head.structure;
      front = c.requires.front;
      small = λ k. (c.type_inv.bytes k).fits;
    } in
    layout x

pub place_with-requires-clause-pointer : goal.place_with-requires-clause-pointer
place_with-requires-clause-pointer c =
    let x : MayMake (state_of c.args.self.now.memory) c.args.owner c.args.head.pointer c.args.head.len c.args.head.ds c.args.place c.args.bytes.now = record {
      law = c.args.self.now.law;
      closed = c.requires.closed;
      fresh = c.requires.fresh;
      own = c.requires.own;
      free = c.requires.free;
      next = c.requires.next;
      some = c.requires.head.some;
      inside = c.requires.inside;
      structure = c.requires.head.structure;
      front = c.requires.front;
      small = λ k. (c.type_inv.bytes k).fits;
    } in
    pointer x

pub invariant_of-self : goal.invariant_of-self
invariant_of-self c =
    let x : MayMake (state_of c.args.self.now.memory) c.args.owner c.args.head.pointer c.args.head.len c.args.head.ds c.args.place c.args.bytes.now = record {
      law = c.args.self.now.law;
      closed = c.requires.closed;
      fresh = c.requires.fresh;
      own = c.requires.own;
      free = c.requires.free;
      next = c.requires.next;
      some = c.requires.head.some;
      inside = c.requires.inside;
      structure = c.requires.head.structure;
      front = c.requires.front;
      small = λ k. (c.type_inv.bytes k).fits;
    } in
    record {
      law = rw c.place_with.ensures (made_keep x);
      rows_are = rows_same c.args.self.now.rows (state_of c.args.self.now.memory) (state_of c.place_with.new.self) (ap (λ (u : State). u.stored) c.place_with.ensures) (ap (λ (u : State). u.mutators) c.place_with.ensures) c.args.self.now.rows_are;
    }

pub returns-clause-events : goal.returns-clause-events
returns-clause-events c =
    let x : MayMake (state_of c.args.self.now.memory) c.args.owner c.args.head.pointer c.args.head.len c.args.head.ds c.args.place c.args.bytes.now = record {
      law = c.args.self.now.law;
      closed = c.requires.closed;
      fresh = c.requires.fresh;
      own = c.requires.own;
      free = c.requires.free;
      next = c.requires.next;
      some = c.requires.head.some;
      inside = c.requires.inside;
      structure = c.requires.head.structure;
      front = c.requires.front;
      small = λ k. (c.type_inv.bytes k).fits;
    } in
    c.place_with.ensures ∙ sym (made_end x)

pub returns-clause-legal : goal.returns-clause-legal
returns-clause-legal c =
    let x : MayMake (state_of c.args.self.now.memory) c.args.owner c.args.head.pointer c.args.head.len c.args.head.ds c.args.place c.args.bytes.now = record {
      law = c.args.self.now.law;
      closed = c.requires.closed;
      fresh = c.requires.fresh;
      own = c.requires.own;
      free = c.requires.free;
      next = c.requires.next;
      some = c.requires.head.some;
      inside = c.requires.inside;
      structure = c.requires.head.structure;
      front = c.requires.front;
      small = λ k. (c.type_inv.bytes k).fits;
    } in
    made_legal x
