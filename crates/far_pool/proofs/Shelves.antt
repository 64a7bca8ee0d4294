-- What one call of a heap leaves of a worker's objects, by handle.
use Rattle.std.proofs.Common.{◌≡◌, ◌≢◌, ◌⊎◌, ◌<◌, ◌==◌, ℕ, Bool, true, false, Option, None, List, length, refl, ap, sym, ◌∙◌, inl, inr}
use Rattle.std.specs.Prelude.{if◌then◌else◌, slice_set}
use Rattle.std.proofs.lemmas.Bool.{cases_eq, eq-eqb, ne_eqb}
use Rattle.std.proofs.lemmas.List.{get_or-set_other, get_or-set_same}
use Rattle.far_private.specs.Objects.{Object}
use Rattle.far_pool.specs.declared.handle.Handle.{Handle}
use Rattle.far_pool.specs.Pool.{Changes, NextGeneration, Pool, SameGenerations, Shelf, at, dropping, found, generation_in, generation_on, next_generation, no_shelf, object_on, putting, shelf_in}

pub if_true : (b : Bool) (x : Option Object) → b ≡ true → (if b then x else None) ≡ x
if_true true x e = refl
if_true false x e = absurd cc

pub if_false : (b : Bool) (x : Option Object) → b ≡ false → (if b then x else None) ≡ None
if_false true x e = absurd cc
if_false false x e = refl

pub if_none : (b : Bool) (x : Option Object) → x ≡ None → (if b then x else None) ≡ None
if_none true x e = e
if_none false x e = refl

-- ---- on one shelf
pub found_now : (s : Shelf) (p g : ℕ) → generation_on s p ≡ g → found s p g ≡ object_on s p
found_now s p g e = if_true (generation_on s p == g) (object_on s p) (eq-eqb (generation_on s p) g e)

pub found_stale : (s : Shelf) (p g : ℕ) → generation_on s p ≢ g → found s p g ≡ None
found_stale s p g ne = if_false (generation_on s p == g) (object_on s p) (ne_eqb (generation_on s p) g ne)

pub found_free : (s : Shelf) (p g : ℕ) → object_on s p ≡ None → found s p g ≡ None
found_free s p g e = if_none (generation_on s p == g) (object_on s p) e

-- ---- by handle
pub same_handle : (k h : Handle) → k.heap ≡ h.heap → k.pointer ≡ h.pointer → k.generation ≡ h.generation → k ≡ h
same_handle k h a b c = λ i. record { heap = a i; pointer = b i; generation = c i }

pub same_or_not : (g h : Handle) → (g ≡ h) ⊎ (g ≢ h)
same_or_not g h = elim (cases_eq g.heap h.heap) [
  | inr ne ↦ inr (λ e. ne (ap (λ (x : Handle). x.heap) e))
  | inl a ↦ elim (cases_eq g.pointer h.pointer) [
    | inr ne ↦ inr (λ e. ne (ap (λ (x : Handle). x.pointer) e))
    | inl b ↦ elim (cases_eq g.generation h.generation) [
      | inr ne ↦ inr (λ e. ne (ap (λ (x : Handle). x.generation) e))
      | inl c ↦ inl (same_handle g h a b c)
    ]
  ]
]

-- one pointer's handles are told apart by their generations
pub at_stale : (w : Pool) (h k : Handle) → generation_in w h ≡ h.generation → k ≢ h → k.heap ≡ h.heap → k.pointer ≡ h.pointer → at w k ≡ None
at_stale w h k now ne e f = found_stale (shelf_in w k.heap) k.pointer k.generation (λ x. ne (same_handle k h e f (sym x ∙ (λ i. generation_on (shelf_in w (e i)) (f i)) ∙ now)))

-- ---- one shelf of all is another
module _ (b : Bool) (l : ℕ) (shelves : List Shelf) (k : ℕ) (n : Shelf) (lt : k < length shelves) where
  abbrev old : Pool
  old = record { honest = b; logs = l; shelves = shelves }

  abbrev new : Pool
  new = record { honest = b; logs = l; shelves = slice_set shelves k n }

  pub shelf_here : shelf_in new k ≡ n
  shelf_here = get_or-set_same shelves k n no_shelf lt

  pub shelf_beside : (j : ℕ) → j ≢ k → shelf_in new j ≡ shelf_in old j
  shelf_beside j ne = get_or-set_other shelves k j n no_shelf ne

  module _ (h : Handle) (at_k : h.heap ≡ k) (m : Shelf) (is : shelf_in old k ≡ m) (now : generation_on m h.pointer ≡ h.generation) where
    now_old : generation_in old h ≡ h.generation
    now_old = ap (λ j. generation_on (shelf_in old j) h.pointer) at_k ∙ ap (λ s. generation_on s h.pointer) is ∙ now

    here_new : (j : ℕ) → j ≡ k → shelf_in new j ≡ n
    here_new j e = ap (shelf_in new) e ∙ shelf_here

    here_old : (j : ℕ) → j ≡ k → shelf_in old j ≡ m
    here_old j e = ap (shelf_in old) e ∙ is

    -- an object is put
    module _ (o : Option Object) (within : h.pointer < length m.objects) (put : n ≡ putting h.pointer o m) where
      put_generation : (j : Handle) → generation_in new j ≡ generation_in old j
      put_generation j = elim (cases_eq j.heap k) [
        | inl e ↦ ap (λ s. generation_on s j.pointer) (here_new j.heap e ∙ put) ∙ sym (ap (λ s. generation_on s j.pointer) (here_old j.heap e))
        | inr ne ↦ ap (λ s. generation_on s j.pointer) (shelf_beside j.heap ne)
      ]

      put_here : at new h ≡ o
      put_here = ap (λ s. found s h.pointer h.generation) (here_new h.heap at_k ∙ put)
          ∙ found_now (putting h.pointer o m) h.pointer h.generation now ∙ get_or-set_same m.objects h.pointer o None within

      put_others : (j : Handle) → j ≢ h → at new j ≡ at old j
      put_others j ne = elim (cases_eq j.heap k) [
        | inr other ↦ ap (λ s. found s j.pointer j.generation) (shelf_beside j.heap other)
        | inl e ↦ elim (cases_eq j.pointer h.pointer) [
          | inr apart ↦ ap (λ s. found s j.pointer j.generation) (here_new j.heap e ∙ put)
              ∙ ap (λ x. if generation_on m j.pointer == j.generation then x else None) (get_or-set_other m.objects h.pointer j.pointer o None apart)
              ∙ sym (ap (λ s. found s j.pointer j.generation) (here_old j.heap e))
          | inl f ↦ found_stale (shelf_in new j.heap) j.pointer j.generation (λ x. ne (same_handle j h (e ∙ sym at_k) f
              (sym x ∙ put_generation j ∙ (λ i. generation_on (shelf_in old ((e ∙ sym at_k) i)) (f i)) ∙ now_old)))
              ∙ sym (at_stale old h j now_old ne (e ∙ sym at_k) f)
        ]
      ]

      pub puts : Changes h o old new
      puts = record { here = put_here; others = put_others; honest = refl; logs = refl }

      pub puts_same : SameGenerations old new
      puts_same = put_generation

    -- one is dropped
    module _ (within : h.pointer < length m.objects) (within_too : h.pointer < length m.generations) (drop : n ≡ dropping h.pointer h.generation m) where
      drop_generation : (j : Handle) → ((j.heap ≡ h.heap) × (j.pointer ≡ h.pointer) → ⊥) → generation_in new j ≡ generation_in old j
      drop_generation j ne = elim (cases_eq j.heap k) [
        | inl e ↦ ap (λ s. generation_on s j.pointer) (here_new j.heap e ∙ drop)
            ∙ get_or-set_other m.generations h.pointer j.pointer (next_generation h.generation) 0 (λ f. ne (e ∙ sym at_k, f))
            ∙ sym (ap (λ s. generation_on s j.pointer) (here_old j.heap e))
        | inr other ↦ ap (λ s. generation_on s j.pointer) (shelf_beside j.heap other)
      ]

      gone : (j : Handle) → j.heap ≡ k → j.pointer ≡ h.pointer → at new j ≡ None
      gone j e f = ap (λ s. found s j.pointer j.generation) (here_new j.heap e ∙ drop) ∙ ap (λ p. found (dropping h.pointer h.generation m) p j.generation) f
          ∙ found_free (dropping h.pointer h.generation m) h.pointer j.generation (get_or-set_same m.objects h.pointer None None within)

      drop_others : (j : Handle) → j ≢ h → at new j ≡ at old j
      drop_others j ne = elim (cases_eq j.heap k) [
        | inr other ↦ ap (λ s. found s j.pointer j.generation) (shelf_beside j.heap other)
        | inl e ↦ elim (cases_eq j.pointer h.pointer) [
          | inl f ↦ gone j e f ∙ sym (at_stale old h j now_old ne (e ∙ sym at_k) f)
          | inr apart ↦ ap (λ s. found s j.pointer j.generation) (here_new j.heap e ∙ drop)
              ∙ (λ i. if get_or-set_other m.generations h.pointer j.pointer (next_generation h.generation) 0 apart i == j.generation then get_or-set_other m.objects h.pointer j.pointer None None apart i else None)
              ∙ sym (ap (λ s. found s j.pointer j.generation) (here_old j.heap e))
        ]
      ]

      pub drops : Changes h None old new
      drops = record { here = gone h at_k refl; others = drop_others; honest = refl; logs = refl }

      pub drops_next : NextGeneration h old new
      drops_next = record {
        was = now_old;
        here = ap (λ s. generation_on s h.pointer) (here_new h.heap at_k ∙ drop) ∙ get_or-set_same m.generations h.pointer (next_generation h.generation) 0 within_too;
        others = drop_generation;
      }
