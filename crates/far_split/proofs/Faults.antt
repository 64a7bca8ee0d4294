-- How far it is known which fault threads ended with.
use Rattle.std.proofs.Common.{◌≡◌, ◌≢◌, inl, inr, ℕ, ◌+◌, ◌<◌, ◌≤◌, Option, Some, None, Result, Err, List, length, get_or, sym, subst, ◌∙◌, arith}
use Rattle.std.proofs.lemmas.Bool.{cases_lt}
use Rattle.std.proofs.lemmas.List.{get_or_default}
use Rattle.far_split.specs.Joined.{IsFault, IsStopped, who_at}
use Rattle.far_split.specs.declared.mutators.Stop.{Stop}
use Rattle.far_split.specs.declared.mutators.Stop.TheVariants as stops
use Rattle.far_split.specs.declared.run.SplitFault.{SplitFault}
use Rattle.far_split.specs.declared.run.SplitFault.TheVariants as faults

-- of those before a place none was stopped by its gate; some was refused memory, or none was
abbrev pub SoFar : {A : Type 0} → List (Result A Stop) → ℕ → Option SplitFault → Type 0
SoFar ends at None = (k : ℕ) (why : Stop) → k < at → ¬ IsStopped ends why k
SoFar ends at (Some faults.Memory) = ((k : ℕ) × IsStopped ends stops.Memory k) × ((k : ℕ) → k < at → ¬ IsStopped ends stops.Gate k)
SoFar ends at (Some (faults.Gate who)) = ⊥

pub err_is : {A : Type 0} (end : Result A Stop) (found why : Stop) → end ≡ Err found → found ≡ why → end ≡ Err why
err_is end found why e same = cc

module _ {A : Type 0} (ends : List (Result A Stop)) (at : ℕ) (end : Result A Stop) (below : at < length ends) (is : end ≡ get_or ends at end) where
  same : (why : Stop) → IsStopped ends why at → end ≡ Err why
  same why stopped = is ∙ stopped.1 end

  -- it is stopped
  pub stopped_here : (why : Stop) → end ≡ Err why → IsStopped ends why at
  stopped_here why e = (below, λ other. get_or_default ends at other end below ∙ sym is ∙ e)

  -- by its gate
  pub gate_first : (fault : Option SplitFault) (who : ℕ) → SoFar ends at fault → end ≡ Err stops.Gate → who ≡ who_at (length ends) at → IsFault ends (Some (faults.Gate who))
  gate_first None who none e named = (at, stopped_here stops.Gate e, (λ k lt. none k stops.Gate lt), named)
  gate_first (Some faults.Memory) who some e named = (at, stopped_here stops.Gate e, some.1, named)
  gate_first (Some (faults.Gate other)) who never e named = absurd never

  none_more : (why : Stop) → ((k : ℕ) → k < at → ¬ IsStopped ends why k) → end ≢ Err why → (k : ℕ) → k < at + 1 → ¬ IsStopped ends why k
  none_more why none other k lt stopped = elim (cases_lt k at) [
    | inl sooner ↦ none k sooner stopped
    | inr after ↦ let here : k ≡ at = omega (arith, after, lt) in other (same why (subst (IsStopped ends why) here stopped))
  ]

  -- memory was refused it
  pub memory_more : (fault : Option SplitFault) → SoFar ends at fault → end ≡ Err stops.Memory → SoFar ends (at + 1) (Some faults.Memory)
  memory_more None none e = ((at, stopped_here stops.Memory e), none_more stops.Gate (λ k lt. none k stops.Gate lt) (λ gate. absurd cc))
  memory_more (Some faults.Memory) some e = ((at, stopped_here stops.Memory e), none_more stops.Gate some.1 (λ gate. absurd cc))
  memory_more (Some (faults.Gate other)) never e = absurd never

  -- or it wasn't stopped
  pub fine_more : (fault : Option SplitFault) → SoFar ends at fault → ((why : Stop) → end ≢ Err why) → SoFar ends (at + 1) fault
  fine_more None none fine = λ k why lt. none_more why (λ j sooner. none j why sooner) (fine why) k lt
  fine_more (Some faults.Memory) some fine = (some.0, none_more stops.Gate some.1 (fine stops.Gate))
  fine_more (Some (faults.Gate other)) never fine = absurd never

-- after all of them
pub all_seen : {A : Type 0} (ends : List (Result A Stop)) (at : ℕ) (fault : Option SplitFault) → length ends ≤ at → SoFar ends at fault → IsFault ends fault
all_seen ends at None end none = λ k why stopped. none k why (omega (arith, stopped.0)) stopped
all_seen ends at (Some faults.Memory) end some = (some.0, λ k stopped. some.1 k (omega (arith, stopped.0)) stopped)
all_seen ends at (Some (faults.Gate other)) end never = absurd never
