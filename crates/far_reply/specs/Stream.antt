-- What was written where a writer may fail.
use Rattle.std.specs.Prelude.{◌≡◌, ◌++◌, ◌<◌, ℕ, List, Option, Result, MatchResult, length, take}
use Rattle.std.specs.Io.KnownBytes.{Appends}

-- known bytes grow by a prefix of these
abbrev pub AppendsFront : Option (List ℕ) → Option (List ℕ) → List ℕ → Type 0
AppendsFront old new bytes = (n : ℕ) × Appends old new (take n bytes)

-- known bytes grow by a proper prefix of these
abbrev pub AppendsPart : Option (List ℕ) → Option (List ℕ) → List ℕ → Type 0
AppendsPart old new bytes = (n : ℕ) × (n < length bytes) × Appends old new (take n bytes)

-- the bytes were written, or a proper prefix of them where there is an error
abbrev pub Writes : {A E : Type 0} → Option (List ℕ) → Option (List ℕ) → Result A E → List ℕ → Type 0
Writes old new result bytes = MatchResult result (λ _. Appends old new bytes) (λ _. AppendsPart old new bytes)

-- what was written since the start, and what waits, are the bytes; or a proper prefix of the bytes was written, where there is an error
abbrev pub Holds : {A E : Type 0} → Option (List ℕ) → Option (List ℕ) → List ℕ → Result A E → List ℕ → Type 0
Holds start now waiting result bytes =
    MatchResult result (λ _. (front : List ℕ) × Appends start now front × (front ++ waiting ≡ bytes)) (λ _. AppendsPart start now bytes)
