-- What a mutator knows of a state: its scope, and the bytes of the pointers that it uses.
use Rattle.std.proofs.Common.{◌≡◌, ◌≢◌, ℕ, ◌+◌, ◌/◌, ◌<◌, ◌≤◌, true, false, cond, nat_eq, nat_lt, arith, sym, refl, ap, ◌∙◌, Option, Some, None, List, length, inl, inr}
use Rattle.std.specs.Prelude.{not, ◌⊎◌, ◌&&◌}
use Rattle.std.proofs.lemmas.Bool.{and_parts, and_cases, cases_eq, cond_both, eq-eqb, false≢true, not-true, true≢false, cases_lt}
use Rattle.std.proofs.lemmas.Bool.Decides.{nat_tests}
use Rattle.far_word.specs.declared.mark.Marks.{Marks}
use Rattle.far_word.specs.declared.pointer.Place.{Place}
use Rattle.far_word.specs.declared.pointer.PtrWord.{PtrWord}
use Rattle.far_word.specs.declared.pointer.PtrWord.TheVariants.{Near, Far}
use Rattle.far_word.specs.declared.sizes.TheConstants.{CELLS}
use Rattle.far_word.specs.Bytes.{bytes_of}
use Rattle.far_word.specs.Pointer.{read_of}
use Rattle.far_word.proofs.ByteLaws.{length-bytes_of, bytes_of-small}
use Rattle.far_events.specs.state.Law.{Law, in_use}
use Rattle.far_events.specs.state.State.{State, addr}
use Rattle.far_events.specs.events.Step.{is_opened, near_data, near_len, data_len}
use Rattle.far_core.specs.world.World.{Object, Group, FarSide}
use Rattle.far_core.specs.world.WorldOf.{world_of, object_of}
use Rattle.far_events.proofs.Cells.{held_near, unused}
use Rattle.far_alone.specs.Own.{own_of, bytes_in_world}
use Rattle.far_alone.specs.Objects.{uses, object_len, named_len, data_of, is_range, lowest_cell}
use Rattle.far_alone.proofs.Lowest.{lowest_cell_is, no_cell_is}
use Rattle.far_alone.proofs.Spliced.{AreBytes}

-- ---- tests
pub not_outside : (k n : ℕ) → k < n → not (nat_lt k n) ≡ true → ⊥
not_outside k n lt h = absurd (grind (arith, nat_tests))

pub open_world : (s : State) (m : ℕ) → is_opened s m ≡ true → (world_of s).opened m ≡ true
unfolding world_of
open_world s m h = (and_parts (nat_lt m s.mutators) (not (nat_eq (s.scope m) 0)) h).1

pub shut_world : (s : State) (m : ℕ) → m < s.mutators → is_opened s m ≡ false → (world_of s).opened m ≡ false
unfolding world_of
shut_world s m within h = elim (and_cases (nat_lt m s.mutators) (not (nat_eq (s.scope m) 0)) h) [
  | inl off ↦ absurd (not_outside m s.mutators within (ap not off))
  | inr shut ↦ shut
]

pub range_in : (n from count : ℕ) → not (is_range n from count) ≡ false → (0 < count) × (from + count ≤ n)
range_in n from count h = (grind (arith, nat_tests), grind (arith, nat_tests))

pub range_out : (n from count : ℕ) → not (is_range n from count) ≡ true → (count ≡ 0) ⊎ (n < from + count)
range_out n from count h = elim (cases_eq count 0) [
  | inl e ↦ inl e
  | inr ne ↦ inr (elim (cases_lt n (from + count)) [
    | inl lt ↦ lt
    | inr le ↦ (let some : 0 < count = omega arith in absurd (grind (arith, nat_tests)))
  ])
]

-- ---- objects
-- the object of a cell in use has as many bytes as the cell says
pub record Has (s : State) (p : ℕ) : Type 0 where
  pub object : Object
  pub there : (world_of s).object p ≡ Some object
  pub long : length object.bytes ≡ object_len s p

module _ (s : State) where
  object_in : (p : ℕ) (o : Option PtrWord) → read_of (s.cell p) ≡ o → in_use o ≡ true → Has s p
  unfolding world_of
  object_in p (Some (Near len ds place marks)) e u =
      let o : Object = record { owner = p / CELLS; ds = ds; bytes = bytes_of (λ i. s.word (addr place + 1 + i)) len; home = Group place.log } in record {
        object = o;
        there = ap (object_of s.word (s.stored p) p) e ∙ ap (λ b. cond b None (Some o)) (not-true marks.dropped u);
        long = length-bytes_of (λ i. s.word (addr place + 1 + i)) len ∙ sym (ap named_len e);
      }
  object_in p (Some (Far len ds marks)) e u =
      let o : Object = record { owner = p / CELLS; ds = ds; bytes = bytes_of (s.stored p) len; home = FarSide } in record {
        object = o;
        there = ap (object_of s.word (s.stored p) p) e ∙ ap (λ b. cond b None (Some o)) (not-true marks.dropped u);
        long = length-bytes_of (s.stored p) len ∙ sym (ap named_len e);
      }
  object_in p _ e u = absurd (false≢true u)

  -- a used pointer has one
  pub object_used : Law s → (p : ℕ) → s.used p ≡ true → Has s p
  object_used law p u = object_in p (read_of (s.cell p)) refl (law.views.used_cell p u)

  -- a pointer that isn't used has none, where what is named is used
  pub object_unused : ((p : ℕ) → s.cell p ≢ 0 → s.used p ≡ true) → (p : ℕ) → s.used p ≡ false → (world_of s).object p ≡ None
  unfolding world_of
  object_unused named p u = elim (cases_eq (s.cell p) 0) [
    | inl e ↦ ap (object_of s.word (s.stored p) p) (ap read_of e ∙ unused)
    | inr ne ↦ absurd (true≢false (sym (named p ne) ∙ u))
  ]

  -- the bytes of a pointer that the mutator uses
  pub own_used : Law s → (m p : ℕ) → uses s m p ≡ true → (all : List ℕ) × ((own_of (world_of s) m).object p ≡ Some all) × (length all ≡ object_len s p)
  own_used law m p h =
      let both = and_parts (nat_eq (p / CELLS) m) (s.used p) h in
      let x = object_used law p both.1 in
      (x.object.bytes, ap (λ b. cond b (bytes_in_world ((world_of s).object p)) None) both.0 ∙ ap bytes_in_world x.there, x.long)

  -- a pointer that it doesn't use is none of its objects
  pub own_unused : ((p : ℕ) → s.cell p ≢ 0 → s.used p ≡ true) → (m p : ℕ) → uses s m p ≡ false → (own_of (world_of s) m).object p ≡ None
  own_unused named m p h = elim (and_cases (nat_eq (p / CELLS) m) (s.used p) h) [
    | inl other ↦ ap (λ b. cond b (bytes_in_world ((world_of s).object p)) None) other
    | inr free ↦ cond_both (nat_eq (p / CELLS) m) (bytes_in_world ((world_of s).object p)) None (λ (x : Option (List ℕ)). x ≡ None) (λ _. ap bytes_in_world (object_unused named p free)) (λ _. refl)
  ]

-- the bytes of an object are as many as its length says, and they are bytes
pub length-data : (s : State) (p : ℕ) → length (data_of s p) ≡ data_len s p
length-data s p = length-bytes_of (λ i. s.word (near_data (read_of (s.cell p)) + i)) (data_len s p)

-- an object that is near, and not dropped, has the bytes at its place
pub object_near : (s : State) (p len ds : ℕ) (place : Place) (marks : Marks) → read_of (s.cell p) ≡ Some (Near len ds place marks) → marks.dropped ≡ false →
    (o : Object) × ((world_of s).object p ≡ Some o) × (o.bytes ≡ data_of s p)
unfolding world_of
object_near s p len ds place marks e kept =
    let o : Object = record { owner = p / CELLS; ds = ds; bytes = bytes_of (λ i. s.word (addr place + 1 + i)) len; home = Group place.log } in (
      o,
      ap (object_of s.word (s.stored p) p) e ∙ ap (λ b. cond b None (Some o)) kept,
      sym (ap (λ (c : Option PtrWord). bytes_of (λ i. s.word (near_data c + i)) (near_len c)) e),
    )

-- so has one that is viewed
pub object_viewed : (s : State) → Law s → (p : ℕ) (place : Place) → s.held p ≡ Some place → (o : Object) × ((world_of s).object p ≡ Some o) × (o.bytes ≡ data_of s p)
object_viewed s law p place e =
    let h = held_near (read_of (s.cell p)) place (law.views.held_names p place e) in
    object_near s p h.len h.ds place h.marks h.near h.kept

pub data_small : (s : State) (p : ℕ) → AreBytes (data_of s p)
data_small s p = bytes_of-small (λ i. s.word (near_data (read_of (s.cell p)) + i)) (data_len s p)

-- ---- the lowest cell of a mutator is its own
pub lowest_own : (s : State) (m p : ℕ) → lowest_cell s m ≡ Some p → p / CELLS ≡ m
lowest_own s m p e = let x = lowest_cell_is s m p e in omega (arith, x.0, x.1)

-- and it is free
pub lowest_free : (s : State) (m p : ℕ) → lowest_cell s m ≡ Some p → s.cell p ≡ 0
lowest_free s m p e = (lowest_cell_is s m p e).2

-- so its mutator knows of no object there
no_object : (s : State) (p : ℕ) → s.cell p ≡ 0 → (world_of s).object p ≡ None
unfolding world_of read_of
no_object s p e = ap (λ w. object_of s.word (s.stored p) p (read_of w)) e

pub lowest_unknown : (s : State) (m p : ℕ) → lowest_cell s m ≡ Some p → (own_of (world_of s) m).object p ≡ None
lowest_unknown s m p e = cond_both (nat_eq (p / CELLS) m) (bytes_in_world ((world_of s).object p)) None (λ (x : Option (List ℕ)). x ≡ None)
    (λ _. ap bytes_in_world (no_object s p (lowest_free s m p e))) (λ _. refl)

-- where no cell of it is free it knows of an object at each
pub all_known : (s : State) → Law s → ((p : ℕ) → s.cell p ≢ 0 → s.used p ≡ true) → (m : ℕ) → lowest_cell s m ≡ None → (p : ℕ) → p / CELLS ≡ m → (own_of (world_of s) m).object p ≢ None
all_known s law named m e p own free =
    let taken : s.cell p ≢ 0 = no_cell_is s m e p (omega (arith, own)) (omega (arith, own)) in
    let ours : uses s m p ≡ true = ap (λ b. b && s.used p) (eq-eqb (p / CELLS) m own) ∙ named p taken in
    let x = own_used s law m p ours in
    let odd : Some x.0 ≡ None = sym x.1 ∙ free in cc
