-- What a device holds: a function from keys to the bytes under them.
use Rattle.std.specs.Prelude.{◌≡◌, ◌≢◌, ℕ, List, Option}

-- every key but one has what it had
abbrev pub KeepsOthers : (ℕ → Option (List ℕ)) → (ℕ → Option (List ℕ)) → ℕ → Type 0
KeepsOthers old new id = (q : ℕ) → q ≢ id → new q ≡ old q
