-- Which logs an evacuation gives back where copies may be offered, and how many it counts.
use Rattle.std.specs.Prelude.{◌≡◌, ◌+◌, ◌⊎◌, ℕ, Bool, true, false, List, [], ◌∷◌, length}
use Rattle.far_evac.specs.Beside.{EvacuatesBeside, StopsBeside}
use Rattle.far_evac.specs.Moment.{Moment, Tally}
use Rattle.far_evac.specs.RoundSteps.{among}

-- these are some of them, in their order
abbrev pub AreSome : List ℕ → List ℕ → Type 0
AreSome [] ls = Unit {0}
AreSome (k ∷ ks) [] = ⊥
AreSome (k ∷ ks) (l ∷ ls) = ((k ≡ l) × AreSome ks ls) ⊎ AreSome (k ∷ ks) ls

-- what is left of the collection set are some of its logs, in their order; the others are counted as given back, and each of them is out of the round, also where it was opened anew
pub record CountsBack (m t : Moment) (freed : ℕ) : Type 0 where
  pub kept : AreSome t.collection m.collection
  pub counted : freed + length t.collection ≡ length m.collection
  pub gone : (l : ℕ) → among m.collection l ≡ true → among t.collection l ≡ false → t.core.round l ≡ false

-- also where an object was refused
abbrev pub CopiedComesBack : Type 0
CopiedComesBack = (m t : Moment) (n : ℕ) (tally : Tally) → ((done : Bool) → EvacuatesBeside m n t tally done → CountsBack m t tally.freed) × (StopsBeside m n t tally → CountsBack m t tally.freed)
