-- What a worker's objects are with a heap more.
use Rattle.std.proofs.Common.{◌≡◌, ◌<◌, ◌≤◌, ℕ, Bool, None, List, [], ◌∷◌, ◌++◌, length, refl, ap, sym, subst, ◌∙◌, inl, inr, arith}
use Rattle.std.specs.Prelude.{slice_index_or}
use Rattle.std.proofs.lemmas.Bool.{cases_lt}
use Rattle.std.proofs.lemmas.List.{get_or_append_left, get_or_past, length-append}
use Rattle.std.proofs.Math.Seq.{get_or-append_seam}
use Rattle.far_pool.specs.declared.handle.Handle.{Handle}
use Rattle.far_pool.specs.declared.worker.TheConstants.{MOST_HEAPS}
use Rattle.far_pool.specs.Pool.{AreAlike, IsAlike, Pool, Same, Shelf, at, found, generation_in, generation_on, no_shelf, object_on}
use Rattle.far_pool.proofs.Counting.{nothing_outside}
use Rattle.far_pool.proofs.Shelves.{found_free}
use Rattle.far_pool.proofs.Workers.{pool}

module _ (b : Bool) (l : ℕ) (shelves : List Shelf) (n : Shelf) where
  at_last : (k : ℕ) → k < length (shelves ++ n ∷ []) → length shelves ≤ k → slice_index_or (shelves ++ n ∷ []) k no_shelf ≡ n
  at_last k lt le =
      let is : k ≡ length shelves = omega (arith, length-append shelves (n ∷ [])) in
      subst (λ j. slice_index_or (shelves ++ n ∷ []) j no_shelf ≡ n) (sym is) (get_or-append_seam shelves n [] no_shelf)

  pub few_more : length shelves < MOST_HEAPS → length (shelves ++ n ∷ []) ≤ MOST_HEAPS
  few_more few = omega (arith, length-append shelves (n ∷ []))

  pub alike_more : AreAlike b l shelves → IsAlike b l n → AreAlike b l (shelves ++ n ∷ [])
  alike_more alike e k lt = elim (cases_lt k (length shelves)) [
    | inl less ↦ subst (λ (x : Shelf). IsAlike b l x) (sym (get_or_append_left shelves (n ∷ []) no_shelf k less)) (alike k less)
    | inr le ↦ subst (λ (x : Shelf). IsAlike b l x) (sym (at_last k lt le)) e
  ]

  module _ (empty : (p : ℕ) → object_on n p ≡ None) (begun : (p : ℕ) → generation_on n p ≡ 0) where
    none_behind : (h : Handle) → length shelves ≤ h.heap → at (pool b l (shelves ++ n ∷ [])) h ≡ None
    none_behind h le = elim (cases_lt h.heap (length (shelves ++ n ∷ []))) [
      | inl lt ↦ ap (λ x. found x h.pointer h.generation) (at_last h.heap lt le) ∙ found_free n h.pointer h.generation (empty h.pointer)
      | inr past ↦ nothing_outside (pool b l (shelves ++ n ∷ [])) h past
    ]

    zero_behind : (h : Handle) → length shelves ≤ h.heap → generation_in (pool b l (shelves ++ n ∷ [])) h ≡ 0
    zero_behind h le = elim (cases_lt h.heap (length (shelves ++ n ∷ []))) [
      | inl lt ↦ ap (λ x. generation_on x h.pointer) (at_last h.heap lt le) ∙ begun h.pointer
      | inr past ↦ ap (λ x. generation_on x h.pointer) (get_or_past (shelves ++ n ∷ []) h.heap no_shelf past)
    ]

    pub same_more : (s : Pool) → pool b l shelves ≡ s → Same s (pool b l (shelves ++ n ∷ []))
    same_more s e = subst (λ (x : Pool). Same x (pool b l (shelves ++ n ∷ []))) e record {
      honest = refl;
      logs = refl;
      all = λ h. elim (cases_lt h.heap (length shelves)) [
        | inl less ↦ ap (λ x. found x h.pointer h.generation) (get_or_append_left shelves (n ∷ []) no_shelf h.heap less)
        | inr le ↦ none_behind h le ∙ sym (nothing_outside (pool b l shelves) h le)
      ];
      generations = λ h. elim (cases_lt h.heap (length shelves)) [
        | inl less ↦ ap (λ x. generation_on x h.pointer) (get_or_append_left shelves (n ∷ []) no_shelf h.heap less)
        | inr le ↦ zero_behind h le ∙ sym (ap (λ x. generation_on x h.pointer) (get_or_past shelves h.heap no_shelf le))
      ];
    }
