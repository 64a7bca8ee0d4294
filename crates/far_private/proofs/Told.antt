-- What a cell tells of its object.
use Rattle.std.proofs.Common.{◌≡◌, ℕ, ◌+◌, ◌/◌, Bool, true, false, cond, refl, sym, ap, ◌∙◌, Option, Some, None, is_some}
use Rattle.std.proofs.lemmas.Bool.{false≢true, not-true}
use Rattle.far_word.specs.declared.pointer.PtrWord.{PtrWord}
use Rattle.far_word.specs.declared.pointer.PtrWord.TheVariants.{Near, Far}
use Rattle.far_word.specs.declared.sizes.TheConstants.{CELLS}
use Rattle.far_word.specs.Bytes.{bytes_of}
use Rattle.far_word.specs.Pointer.{read_of}
use Rattle.far_events.specs.state.Law.{Law, in_use}
use Rattle.far_events.specs.state.State.{State, addr}
use Rattle.far_core.specs.world.World.{Object as Thing, Group, FarSide}
use Rattle.far_core.specs.world.WorldOf.{object_of, world_of}
use Rattle.far_private.specs.Heap.{size_of, structure_of}
use Rattle.far_private.specs.Looks.{named_structure}
use Rattle.far_private.specs.Objects.{Settled, len_in, len_of, objects_of, seen}
use Rattle.far_private.proofs.Placing.{unused_none, used_some}

structure_by : (s : State) (p : ℕ) (o : Option PtrWord) → read_of (s.cell p) ≡ o → in_use o ≡ true → structure_of ((objects_of s).object p) ≡ Some (named_structure o)
unfolding world_of
structure_by s p (Some (Near len ds place marks)) e u =
    let o : Thing = record { owner = p / CELLS; ds = ds; bytes = bytes_of (λ i. s.word (addr place + 1 + i)) len; home = Group place.log } in
    ap (λ (x : Option Thing). structure_of (seen s.honest x)) (ap (object_of s.word (s.stored p) p) e ∙ ap (λ b. cond b None (Some o)) (not-true marks.dropped u))
structure_by s p (Some (Far len ds marks)) e u =
    let o : Thing = record { owner = p / CELLS; ds = ds; bytes = bytes_of (s.stored p) len; home = FarSide } in
    ap (λ (x : Option Thing). structure_of (seen s.honest x)) (ap (object_of s.word (s.stored p) p) e ∙ ap (λ b. cond b None (Some o)) (not-true marks.dropped u))
structure_by s p _ e u = absurd (false≢true u)

-- the data structure of an object is the one that its cell names
pub structure_used : (s : State) → Law s → (p n : ℕ) → s.used p ≡ true → n ≡ named_structure (read_of (s.cell p)) → Some n ≡ structure_of ((objects_of s).object p)
structure_used s law p n used e = ap Some e ∙ sym (structure_by s p (read_of (s.cell p)) refl (law.views.used_cell p used))

pub size_used : (s : State) → Law s → (p n : ℕ) → s.used p ≡ true → n ≡ len_in (objects_of s) p → Some n ≡ size_of ((objects_of s).object p)
size_used s law p n used e = let x = used_some s p law used in ap Some (e ∙ ap len_of x.1) ∙ sym (ap size_of x.1)

-- where there is none, none is told
pub structure_unused : (s : State) (p : ℕ) → Settled s → s.used p ≡ false → None ≡ structure_of ((objects_of s).object p)
structure_unused s p settled free = sym (ap structure_of (unused_none s p settled free))

pub size_unused : (s : State) (p : ℕ) → Settled s → s.used p ≡ false → None ≡ size_of ((objects_of s).object p)
size_unused s p settled free = sym (ap size_of (unused_none s p settled free))

pub used_is : (s : State) → Law s → Settled s → (p : ℕ) → s.used p ≡ is_some ((objects_of s).object p)
used_is s law settled p = by (s.used p) refl where
  by : (b : Bool) → s.used p ≡ b → s.used p ≡ is_some ((objects_of s).object p)
  by true e = e ∙ sym (ap is_some (used_some s p law e).1)
  by false e = e ∙ sym (ap is_some (unused_none s p settled e))
