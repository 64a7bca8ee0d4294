-- The jobs of a new heap's threads.
use Rattle.std.proofs.Common.{◌≡◌, inl, inr, ℕ, suc, ◌+◌, ◌-◌, ◌<◌, List, [], ◌∷◌, ◌++◌, length, length-append, get_or, ap, sym, subst, ◌∙◌, arith}
use Rattle.std.specs.Prelude.{map}
use Rattle.std.specs.List.{range_with_len, remove}
use Rattle.std.proofs.lemmas.Bool.{cases_lt}
use Rattle.std.proofs.lemmas.List.{get_or_append_left, get_or_push}
use Rattle.far_heap.specs.HeapId.{HeapId}
use Rattle.far_heap.specs.Mine.{Mine, newcomer}
use Rattle.far_split.specs.Jobs.{IsJobAt}
use Rattle.far_split.specs.declared.run.Job.{Job}

-- the mutators from this one on, of so many
abbrev pub later : HeapId → ℕ → List Mine
later heap number = map (λ m. newcomer heap.table m heap.honest) (range_with_len number (heap.mutators - number))

-- the first of them, and those behind it
pub record IsFirst (heap : HeapId) (number : ℕ) (mutator : Mine) (left : List Mine) : Type 0 where
  pub first : mutator ≡ newcomer heap.table number heap.honest
  pub rest : left ≡ later heap (number + 1)

pub first_is : (heap : HeapId) (number : ℕ) (mutators : List Mine) (mutator : Mine) (left : List Mine) → number < heap.mutators
    → mutators ≡ later heap number → mutator ≡ get_or mutators 0 mutator → left ≡ remove mutators 0 → IsFirst heap number mutator left
first_is heap number mutators mutator left lt are is others =
    let f = λ (m : ℕ). newcomer heap.table m heap.honest in
    let more : heap.mutators - number ≡ suc (heap.mutators - (number + 1)) = omega arith in
    let all : mutators ≡ f number ∷ later heap (number + 1) = are ∙ ap (λ n. map f (range_with_len number n)) more in
    record { first = is ∙ ap (λ xs. get_or xs 0 mutator) all; rest = others ∙ ap (λ xs. remove xs 0) all }

-- the jobs of the mutators before this one
pub record JobsBefore {K : Type 0} (heap : HeapId) (number : ℕ) (jobs : List (Job K)) : Type 0 where
  pub many : length jobs ≡ number
  pub each : (at : ℕ) (other : Job K) → at < number → IsJobAt heap at (get_or jobs at other)

module _ {K : Type 0} (heap : HeapId) (number : ℕ) (jobs : List (Job K)) (before : JobsBefore heap number jobs) where
  each_more : (job : Job K) → IsJobAt heap number job → (at : ℕ) (other : Job K) → at < number + 1 → IsJobAt heap at (get_or (jobs ++ job ∷ []) at other)
  each_more job is at other lt = elim (cases_lt at number) [
    | inl sooner ↦ subst (IsJobAt heap at) (sym (get_or_append_left jobs (job ∷ []) other at (omega (arith, sooner, before.many)))) (before.each at other sooner)
    | inr after ↦
        let here : at ≡ number = omega (arith, after, lt) in
        subst (IsJobAt heap at) (sym (get_or_push jobs job other at (before.many ∙ sym here))) (subst (λ k. IsJobAt heap k job) (sym here) is)
  ]

  pub jobs_more : (job : Job K) (more : List (Job K)) → IsJobAt heap number job → more ≡ jobs ++ job ∷ [] → JobsBefore heap (number + 1) more
  jobs_more job more is pushed = subst (JobsBefore heap (number + 1)) (sym pushed) record { many = omega (arith, length-append jobs (job ∷ []), before.many); each = each_more job is }
