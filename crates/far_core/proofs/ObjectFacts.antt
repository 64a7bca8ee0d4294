-- What the objects of a state's world are, by the cell and the words of each.
use Rattle.std.proofs.Common.{◌≡◌, ◌≢◌, ℕ, ◌+◌, ◌/◌, Bool, true, false, cond, sym, refl, ap, ◌∙◌, Option, Some, None}
use Rattle.std.specs.Prelude.{◌↔◌, not}
use Rattle.std.proofs.lemmas.Bool.{false≢true, eq-eqb, ne_eqb}
use Rattle.far_word.specs.declared.pointer.PtrWord.{PtrWord}
use Rattle.far_word.specs.declared.pointer.PtrWord.TheVariants.{Free, Near, Far}
use Rattle.far_word.specs.declared.sizes.TheConstants.{CELLS}
use Rattle.far_word.specs.Bytes.{bytes_of}
use Rattle.far_word.specs.Pointer.{read_of}
use Rattle.far_word.proofs.ByteLaws.{bytes_of-get, length-bytes_of}
use Rattle.far_events.specs.declared.event.Kind.{Kind}
use Rattle.far_events.specs.declared.event.Kind.TheVariants as kinds
use Rattle.far_core.specs.laws.Agreement.{ObjectAgrees}
use Rattle.far_events.specs.state.Law.{in_use}
use Rattle.far_events.specs.state.State.{State, addr}
use Rattle.far_core.specs.world.World.{Object, Group, FarSide}
use Rattle.far_core.specs.world.WorldOf.{world_of, object_of, is_group}

dropped_if : (b : Bool) → not b ≡ false → b ≡ true
dropped_if true h = refl
dropped_if false h = absurd (false≢true (sym h))

no_object : (f g : ℕ → ℕ) (p : ℕ) (c : Option PtrWord) → in_use c ≡ false → object_of f g p c ≡ None
no_object f g p None h = refl
no_object f g p (Some Free) h = refl
no_object f g p (Some (Near len ds place m)) h =
    let o : Object = record { owner = p / CELLS; ds = ds; bytes = bytes_of (λ i. f (addr place + 1 + i)) len; home = Group place.log } in
    ap (λ b. cond b None (Some o)) (dropped_if m.dropped h)
no_object f g p (Some (Far len ds m)) h =
    let o : Object = record { owner = p / CELLS; ds = ds; bytes = bytes_of g len; home = FarSide } in
    ap (λ b. cond b None (Some o)) (dropped_if m.dropped h)

group_is : (k : Kind) → (is_group k ≡ true) ↔ (k ≢ kinds.Free)
group_is kinds.Free = (λ h e. false≢true h, λ ne. absurd (ne refl))
group_is kinds.Open = (λ h e. let odd : kinds.Open ≡ kinds.Free = e in cc, λ _. refl)
group_is kinds.Sealed = (λ h e. let odd : kinds.Sealed ≡ kinds.Free = e in cc, λ _. refl)

pub object_agrees : (s : State) (p : ℕ) → ObjectAgrees s p
unfolding world_of
object_agrees s p = record {
  near = λ len ds place m e kept.
      let o : Object = record { owner = p / CELLS; ds = ds; bytes = bytes_of (λ i. s.word (addr place + 1 + i)) len; home = Group place.log } in (
        o,
        ap (object_of s.word (s.stored p) p) e ∙ ap (λ b. cond b None (Some o)) kept,
        refl,
        refl,
        length-bytes_of (λ i. s.word (addr place + 1 + i)) len,
        refl,
        λ k lt. bytes_of-get (λ i. s.word (addr place + 1 + i)) len k lt,
      );
  far = λ len ds m e kept.
      let o : Object = record { owner = p / CELLS; ds = ds; bytes = bytes_of (s.stored p) len; home = FarSide } in (
        o,
        ap (object_of s.word (s.stored p) p) e ∙ ap (λ b. cond b None (Some o)) kept,
        refl,
        refl,
        length-bytes_of (s.stored p) len,
        refl,
        λ k lt. bytes_of-get (s.stored p) len k lt,
      );
  none = no_object s.word (s.stored p) p (read_of (s.cell p));
  opened = (λ h e. false≢true (sym (ap not (eq-eqb (s.scope (p / CELLS)) 0 e)) ∙ h), λ ne. ap not (ne_eqb (s.scope (p / CELLS)) 0 ne));
  viewed = (λ h. h, λ h. h);
  group = λ l. group_is (s.kind l);
  honest = refl;
}
