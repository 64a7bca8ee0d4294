-- What the further calls come to for users.
use Rattle.std.proofs.Common.{◌≡◌, ℕ, suc, ◌+◌, ◌<◌, ◌≤◌, arith, Bool, true, false, cond, refl, sym, ap, subst, ◌∙◌, Option, List, [], ◌∷◌, length, filter, is_some, Result, Ok, Err}
use Rattle.std.specs.Prelude.{IfSome, OnOk, map, slice_range}
use Rattle.std.specs.List.{range_with_len}
use Rattle.std.proofs.lemmas.Bool.Decides.{nat_tests}
use Rattle.far_word.specs.declared.refused.Refused.{Refused}
use Rattle.far_word.specs.declared.sizes.TheConstants.{LONGEST}
use Rattle.far_private.specs.Objects as inner
use Rattle.far_private.specs.Objects.{Object, Objects}
use Rattle.far_private.specs.Changes.{Changes, Updates}
use Rattle.far_private.specs.Heap.{Heap, is_length, with_made}
use Rattle.far_private.specs.HeapOf.{heap_of, row}
use Rattle.far_private.specs.Looks as looks
use Rattle.far_private.proofs.HeapTies.{EndsThere, object_so, put_is, written_so}

-- ---- a new object of given bytes
pub bytes_so : (o : Objects) (v : Heap) → heap_of o ≡ v → (u : Objects) (p ds : ℕ) (bytes : List ℕ) → u ≡ looks.with_made p ds bytes o → heap_of u ≡ with_made p ds bytes v
bytes_so o v is u p ds bytes e = ap heap_of e ∙ put_is o p _ ∙ ap (with_made p ds bytes) is

-- a length that objects have
pub length_some : (n : ℕ) → is_length n ≡ true → 0 < n
length_some n e = grind (arith, nat_tests)

pub length_most : (n : ℕ) → is_length n ≡ true → n ≤ LONGEST
length_most n e = grind (arith, nat_tests)

-- ---- an update
updated : (outcome : List ℕ → Unit {0} → List ℕ → Type 0) (o : Objects) (v : Heap) → heap_of o ≡ v → EndsThere o → (u : Objects) (p from count : ℕ) (bytes : List ℕ) → Changes outcome p from count bytes o u →
    Updates outcome p from count bytes v (heap_of u)
updated outcome o v is ends u p from count bytes c = record {
  read = c.read;
  told = subst (λ (x : Option Object). IfSome (inner.bytes_of x) (λ all. c.read ≡ slice_range all from (from + count))) (sym (object_so o v is ends p)) c.told;
  called = c.called;
  written = written_so o v is ends u p from bytes c.written;
}

pub updates_so : (outcome : List ℕ → Unit {0} → List ℕ → Type 0) (o : Objects) (v : Heap) → heap_of o ≡ v → EndsThere o → (r : Result (Unit {0}) Refused) (u : Objects) (p from count : ℕ) (bytes : List ℕ) →
    OnOk r (Changes outcome p from count bytes o u) → OnOk r (Updates outcome p from count bytes v (heap_of u))
updates_so outcome o v is ends (Ok x) u p from count bytes c = updated outcome o v is ends u p from count bytes c
updates_so outcome o v is ends (Err why) u p from count bytes c = tt

-- ---- how many objects there are
counted_by : {X : Type 0} (b : Bool) (y : X) (x : ℕ) (ys : List X) (xs : List ℕ) → length ys ≡ length xs → length (cond b (y ∷ ys) ys) ≡ length (cond b (x ∷ xs) xs)
counted_by true y x ys xs e = ap suc e
counted_by false y x ys xs e = e

counted_map : {X : Type 0} (t : X → Bool) (f : ℕ → X) (xs : List ℕ) → length (filter t (map f xs)) ≡ length (filter (λ x. t (f x)) xs)
counted_map t f [] = refl
counted_map t f (x ∷ xs) = counted_by (t (f x)) (f x) x (filter t (map f xs)) (filter (λ y. t (f y)) xs) (counted_map t f xs)

counted_row : (o : Objects) → length (filter (λ p. is_some (o.object p)) (range_with_len 0 2048)) ≡ length (filter is_some (heap_of o).objects)
unfolding row
counted_row o = sym (counted_map is_some o.object (range_with_len 0 2048))

pub counted_so : (o : Objects) (v : Heap) (n : ℕ) → heap_of o ≡ v → n ≡ length (filter (λ p. is_some (o.object p)) (range_with_len 0 2048)) → n ≡ length (filter is_some v.objects)
counted_so o v n is e = e ∙ counted_row o ∙ ap (λ (h : Heap). length (filter is_some h.objects)) is
