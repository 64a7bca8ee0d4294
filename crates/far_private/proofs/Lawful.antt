-- What holds of a heap between any two calls.
use Rattle.std.proofs.Common.{◌≡◌, ℕ, ◌+◌, ◌*◌, ◌/◌, ◌<◌, ◌≤◌, Bool, true, false, cond, Option, Some, None, length, refl, sym, ap, subst, ◌∙◌, inl, inr, arith}
use Rattle.std.proofs.lemmas.Bool.{cases_Bool, false≢true, not-true}
use Rattle.far_word.specs.declared.pointer.PtrWord.{PtrWord}
use Rattle.far_word.specs.declared.pointer.PtrWord.TheVariants.{Near, Far}
use Rattle.far_word.specs.declared.sizes.TheConstants.{CELLS, LONGEST, POINTERS}
use Rattle.far_word.specs.Bytes.{bytes_of}
use Rattle.far_word.specs.Pointer.{read_of}
use Rattle.far_word.proofs.ByteLaws.{length-bytes_of, bytes_of-small}
use Rattle.far_word.proofs.PointerLaws.{read_says}
use Rattle.far_events.specs.state.Law.{Law, in_use}
use Rattle.far_events.specs.state.State.{State, addr}
use Rattle.far_core.specs.world.World.{FarSide, Group, Object as Thing}
use Rattle.far_core.specs.world.WorldOf.{object_of, world_of}
use Rattle.far_core.proofs.KeepOwner.{nonzero}
use Rattle.far_alone.proofs.Spliced.{AreBytes}
use Rattle.far_private.specs.Objects.{Settled, objects_of, seen}
use Rattle.far_private.specs.Heap.{Heap, HeapLaw, IsWell}
use Rattle.far_private.specs.HeapOf.{heap_of}
use Rattle.far_private.proofs.HeapTies.{EndsThere, length-row, object_is}
use Rattle.far_private.proofs.Placing.{unused_none}

well_object : (b : Bool) (x : Thing) → 0 < length x.bytes → length x.bytes ≤ LONGEST → x.ds < 256 → AreBytes x.bytes → IsWell b (seen b (Some x))
well_object true x some most structure small = record { some = some; most = most; structure = structure; known = (x.bytes, refl, record { many = refl; small = small }) }
well_object false x some most structure small = record { some = some; most = most; structure = structure; known = refl }

module _ (s : State) (law : Law s) where
  -- bytes of words, as many as a pointer's word says
  well_bytes : (f : ℕ → ℕ) (x : Thing) (len : ℕ) → x.bytes ≡ bytes_of f len → 0 < len → len ≤ LONGEST → x.ds < 256 → IsWell s.honest (seen s.honest (Some x))
  well_bytes f x len e some most structure =
      let long : length x.bytes ≡ len = ap length e ∙ length-bytes_of f len in
      well_object s.honest x (omega (arith, long)) (omega (arith, long)) structure (subst AreBytes (sym e) (bytes_of-small f len))

  well_cell : (p : ℕ) (v : Option PtrWord) → read_of (s.cell p) ≡ v → in_use v ≡ true → IsWell s.honest (seen s.honest ((world_of s).object p))
  unfolding world_of
  well_cell p (Some (Near len ds place marks)) e used =
      let x = (read_says (s.cell p) (Near len ds place marks) (law.cells.cell_read p).0 e).0 in
      let o : Thing = record { owner = p / CELLS; ds = ds; bytes = bytes_of (λ i. s.word (addr place + 1 + i)) len; home = Group place.log } in
      subst (λ y. IsWell s.honest (seen s.honest y)) (sym (ap (object_of s.word (s.stored p) p) e ∙ ap (λ b. cond b None (Some o)) (not-true marks.dropped used)))
      (well_bytes (λ i. s.word (addr place + 1 + i)) o len refl x.0 x.1 x.2)
  well_cell p (Some (Far len ds marks)) e used =
      let x = (read_says (s.cell p) (Far len ds marks) (law.cells.cell_read p).0 e).0 in
      let o : Thing = record { owner = p / CELLS; ds = ds; bytes = bytes_of (s.stored p) len; home = FarSide } in
      subst (λ y. IsWell s.honest (seen s.honest y)) (sym (ap (object_of s.word (s.stored p) p) e ∙ ap (λ b. cond b None (Some o)) (not-true marks.dropped used)))
      (well_bytes (s.stored p) o len refl x.0 x.1 x.2)
  well_cell p _ e used = absurd (false≢true used)

  module _ (settled : Settled s) where
    well_at : (p : ℕ) → IsWell s.honest ((objects_of s).object p)
    well_at p = elim (cases_Bool (s.used p)) [
      | inl used ↦ well_cell p (read_of (s.cell p)) refl (law.views.used_cell p used)
      | inr free ↦ subst (IsWell s.honest) (sym (unused_none s p settled free)) tt
    ]

    -- a pointer at or past the last has no object
    pub ends : EndsThere (objects_of s)
    ends p le = elim (cases_Bool (s.used p)) [
      | inl used ↦ (let inside : p < CELLS * s.mutators = law.cells.cell_range p (nonzero s law p used) in absurd (omega (arith, inside, settled.mutators, le)))
      | inr free ↦ unused_none s p settled free
    ]

    lawful : HeapLaw (heap_of (objects_of s))
    lawful = record {
      many = length-row POINTERS (objects_of s).object;
      well = λ p. subst (IsWell s.honest) (sym (object_is (objects_of s) ends p)) (well_at p);
      outside = λ p le. object_is (objects_of s) ends p ∙ ends p le;
    }

    pub lawful_so : (v : Heap) → heap_of (objects_of s) ≡ v → HeapLaw v
    lawful_so v is = subst HeapLaw is lawful
