-- The world of a state that has the law.
use Rattle.std.proofs.Common.{◌≡◌, ◌≢◌, ℕ, ◌+◌, ◌/◌, Bool, true, false, cond, arith, sym, refl, ap, ◌∙◌, Option, Some, None, inl, inr}
use Rattle.std.specs.Prelude.{◌||◌, ◌&&◌, not}
use Rattle.std.proofs.lemmas.Bool.{false≢true, cases_eq, eq-eqb, ne_eqb}
use Rattle.std.proofs.lemmas.Bool.Decides.{nat_tests}
use mathlib.Core.Path.{fun_ext}
use Rattle.far_word.specs.declared.pointer.PtrWord.{PtrWord}
use Rattle.far_word.specs.declared.pointer.PtrWord.TheVariants.{Free, Near, Far}
use Rattle.far_word.specs.declared.sizes.TheConstants.{CELLS}
use Rattle.far_word.specs.Bytes.{bytes_of}
use Rattle.far_word.specs.Pointer.{read_of}
use Rattle.far_word.proofs.PointerLaws.{read_says}
use Rattle.far_events.specs.declared.event.Kind.{Kind}
use Rattle.far_events.specs.declared.event.Kind.TheVariants as kinds
use Rattle.far_events.specs.declared.shape.Shape.{Shape}
use Rattle.far_events.specs.state.Law.{Law}
use Rattle.far_events.specs.state.Opening.{for_copiers, opening}
use Rattle.far_events.specs.state.State.{State, put, addr}
use Rattle.far_core.specs.world.World.{Object, Group, FarSide, start}
use Rattle.far_core.specs.laws.Agreement.{ViewRests, MarksAgree, MarksExist}
use Rattle.far_core.specs.world.WorldOf.{world_of, object_of, is_marked, is_group}
use Rattle.far_events.proofs.Bounds.{some_of}
use Rattle.far_events.proofs.Cells.{unused, held_near}
use Rattle.far_core.proofs.Observations.{in_range}
use Rattle.far_events.proofs.Put.{put_same}
use Rattle.far_core.proofs.Worlds.{World-ext}

-- a log that isn't free is a held group
pub held_group : (k : Kind) → k ≢ kinds.Free → is_group k ≡ true
held_group kinds.Free h = absurd (h refl)
held_group kinds.Open h = refl
held_group kinds.Sealed h = refl

pub view_rests : (s : State) → Law s → (p : ℕ) → (world_of s).viewed p ≡ true → ViewRests (world_of s) p
unfolding world_of
view_rests s law p h =
    let x = some_of (s.held p) h in
    let near = held_near _ x.0 (law.views.held_names p x.0 x.1) in
    let span = in_range s law p near.len near.ds x.0 near.marks near.near in
    let opened : s.scope (p / CELLS) ≢ 0 = law.views.held_open p h in
    let o : Object = record { owner = p / CELLS; ds = near.ds; bytes = bytes_of (λ i. s.word (addr x.0 + 1 + i)) near.len; home = Group x.0.log } in
    record {
      opened = ap not (ne_eqb (s.scope (p / CELLS)) 0 opened);
      near = (
        o,
        x.0.log,
        ap (object_of s.word (s.stored p) p) near.near ∙ ap (λ b. cond b None (Some o)) near.kept,
        refl,
        refl,
        held_group (s.kind x.0.log) (λ free. let none : s.tail x.0.log ≡ 0 = law.logs.free_tail x.0.log free in omega (arith, span.0)),
      );
    }

pub marks_agree : (s : State) → Law s → (p : ℕ) → MarksAgree s p
unfolding world_of
marks_agree s law p = (
  λ len ds place m e kept. ap is_marked e ∙ ap (λ b. not b && (m.evac || m.moved)) kept,
  λ len ds m e kept.
      let says = read_says (s.cell p) (Far len ds m) (law.cells.cell_read p).0 e in
      ap is_marked e ∙ ap (λ b. not b && (m.evac || m.moved)) kept ∙ ap (λ b. b || m.moved) says.0.3,
)

at_marked : (f g : ℕ → ℕ) (p : ℕ) (c : Option PtrWord) → is_marked c ≡ true → (o : Object) × (object_of f g p c ≡ Some o)
at_marked f g p None h = absurd (false≢true h)
at_marked f g p (Some Free) h = absurd (false≢true h)
at_marked f g p (Some (Near len ds place m)) h =
    let kept : m.dropped ≡ false = grind (arith, nat_tests) in
    let o : Object = record { owner = p / CELLS; ds = ds; bytes = bytes_of (λ i. f (addr place + 1 + i)) len; home = Group place.log } in
    (o, ap (λ b. cond b None (Some o)) kept)
at_marked f g p (Some (Far len ds m)) h =
    let kept : m.dropped ≡ false = grind (arith, nat_tests) in
    let o : Object = record { owner = p / CELLS; ds = ds; bytes = bytes_of g len; home = FarSide } in
    (o, ap (λ b. cond b None (Some o)) kept)

pub marks_exist : (s : State) (p : ℕ) → MarksExist s p
unfolding world_of
marks_exist s p h = at_marked s.word (s.stored p) p (read_of (s.cell p)) h

-- the opening state means the world at the start
pub opening_world : (has : Bool) (shape : Shape) (honest : Bool) → world_of (for_copiers has (opening shape honest)) ≡ start honest
unfolding world_of
opening_world has shape honest = World-ext _ _
    (fun_ext (λ p. ap (object_of (λ _. 0) (λ _. 0) p) unused))
    refl refl
    (fun_ext (λ p. ap is_marked unused))
    (fun_ext (λ g. elim (cases_eq g 0) [
      | inl e ↦ ap is_group (put_same (λ _. kinds.Free) 0 kinds.Open g e) ∙ sym (eq-eqb g 0 e)
      | inr ne ↦ ap is_group (other g ne) ∙ sym (ne_eqb g 0 ne)
    ]))
    refl where
      other : (g : ℕ) → g ≢ 0 → put (λ _. kinds.Free) 0 kinds.Open g ≡ kinds.Free
      other g ne = ap (λ b. cond b kinds.Open kinds.Free) (ne_eqb g 0 ne)
