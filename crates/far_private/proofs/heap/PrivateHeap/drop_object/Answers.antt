use Rattle.std.proofs.Common.{◌≡◌, ◌∙◌, ℕ, Bool, ap, refl, sym}
use Rattle.std.specs.Prelude.{is_some}
use Rattle.far_core.specs.declared.machine.Core.{Core}
use Rattle.far_core.specs.state.CoreState.{core_state}
use Rattle.far_private.specs.Objects.{objects_in, state_in}
use Rattle.far_private.proofs.HeapTies.{goes_so, none_so, some_so}
use Rattle.far_private.proofs.Lawful.{ends}
use Rattle.far_private.proofs.Placing.{unused_none, used_some, has_more, used_inside}
use Rattle.far_private.proofs.heap.PrivateHeap.drop_object.Goals as goal

used_is : (x core : Core) (p : ℕ) (told b : Bool) → x ≡ core → told ≡ (core_state x).used p → told ≡ b → (core_state core).used p ≡ b
used_is x core p told b same says is = ap (λ (y : Core). (core_state y).used p) (sym same) ∙ sym says ∙ is

pub returns-then-not-is_used-clause-refused : goal.returns-then-not-is_used-clause-refused
returns-then-not-is_used-clause-refused g c =
    let s = state_in c.self.inside.evac in (
      refl,
      none_so (objects_in c.self.inside.evac) c.args.self.now c.self.view_is (ends s c.self.inside.evac.book.near.core.law c.self.invariant.0.settled) c.args.pointer
          (unused_none s c.args.pointer c.self.invariant.0.settled (used_is _ _ c.args.pointer _ _ c.core_of.ensures c.is_used.ensures c.if-not-is_used.true)),
      refl,
    )

pub returns-clause-dropped : goal.returns-clause-dropped
returns-clause-dropped g c =
    let s = state_in c.self.inside.evac in
    let law = c.self.inside.evac.book.near.core.law in (
      some_so (objects_in c.self.inside.evac) c.args.self.now c.self.view_is (ends s law c.self.invariant.0.settled) c.args.pointer
          (ap is_some (used_some s c.args.pointer law (used_is _ _ c.args.pointer _ _ c.core_of.ensures c.is_used.ensures c.if-not-is_used.false)).1),
      goes_so (objects_in c.self.inside.evac) c.args.self.now c.self.view_is (objects_in c.drop_used.new.evac) c.args.pointer c.drop_used.ensures.dropped,
    )

pub insert-requires : goal.insert-requires
insert-requires g c = used_inside (state_in c.self.inside.evac) c.self.inside.free c.self.inside.evac.book.near.core.law c.self.invariant.0 c.args.pointer
    (ap (λ (x : Core). (core_state x).used c.args.pointer) (sym c.core_of.ensures) ∙ sym c.is_used.ensures ∙ c.if-not-is_used.false)

pub invariant_of-self : goal.invariant_of-self
invariant_of-self g c = (
  record {
    settled = c.drop_used.ensures.settled;
    free = has_more c.self.inside.free c.insert.new.self (objects_in c.self.inside.evac) c.self.invariant.0.free (objects_in c.drop_used.new.evac) c.args.pointer c.drop_used.ensures.dropped c.insert.ensures;
  },
  c.drop_used.ensures.idle c.self.invariant.1,
)
