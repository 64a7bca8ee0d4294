-- How many objects a worker's heaps have, and which is the first from a place on.
use Rattle.std.proofs.Common.{◌≡◌, ◌≤◌, ◌+◌, ℕ, suc, Option, Some, None, is_some, List, [], ◌∷◌, length, refl, ap, subst, ◌∙◌, arith}
use Rattle.std.specs.Prelude.{filter, slice_index_or}
use Rattle.std.proofs.lemmas.List.{get_or_past}
use Rattle.far_private.specs.Objects.{Object}
use Rattle.far_pool.specs.declared.handle.Handle.{Handle}
use Rattle.far_pool.specs.Pool.{Pool, Shelf, at, count_below, count_on, found, no_shelf}
use Rattle.far_pool.proofs.Shelves.{found_free}

pub few_some : (xs : List (Option Object)) → length (filter is_some xs) ≤ length xs
few_some [] = omega arith
few_some (None ∷ xs) = (let e = few_some xs in omega arith)
few_some (Some x ∷ xs) = (let e = few_some xs in omega arith)

pub count_more : (shelves : List Shelf) (k : ℕ) → count_below shelves (k + 1) ≡ count_below shelves k + count_on (slice_index_or shelves k no_shelf)
unfolding count_below
count_more shelves k = subst (λ n. count_below shelves n ≡ count_below shelves k + count_on (slice_index_or shelves k no_shelf)) (let e : suc k ≡ k + 1 = omega arith in e) refl

pub count_none : (shelves : List Shelf) → count_below shelves 0 ≡ 0
unfolding count_below
count_none shelves = refl

pub nothing_outside : (w : Pool) (k : Handle) → length w.shelves ≤ k.heap → at w k ≡ None
nothing_outside w k le = ap (λ s. found s k.pointer k.generation) (get_or_past w.shelves k.heap no_shelf le) ∙ found_free no_shelf k.pointer k.generation refl
