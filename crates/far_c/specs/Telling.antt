-- What a map of C's is after a call, and what it told.
use Rattle.std.specs.Prelude.{◌≡◌, ◌<◌, ◌⊎◌, ℕ, Option, List, [], ◌∷◌, length, take}
use Rattle.std.specs.Option.{option_map}
use Rattle.far_map.specs.Entries.{Entry}
use Rattle.far_backed.specs.Kept.{Kept}

-- the entries are as before; those that are still to be told may be others
abbrev pub SameEntries : Option Kept → Option Kept → Type 0
SameEntries old new = option_map (λ (m : Kept). m.entries) new ≡ option_map (λ (m : Kept). m.entries) old

-- the first entry that was to be told was told: its lengths, and what two buffers begin with
abbrev pub TellsFirst : List Entry → ℕ → ℕ → List ℕ → List ℕ → List Entry → Type 0
TellsFirst [] k v key value rest = ⊥
TellsFirst (e ∷ es) k v key value rest = (k ≡ length e.0) × (v ≡ length e.1) × (take k key ≡ e.0) × (take v value ≡ e.1) × (rest ≡ es)

-- its lengths were told, for which a buffer has too little room
abbrev pub KeepsFirst : List Entry → ℕ → ℕ → ℕ → ℕ → List Entry → Type 0
KeepsFirst [] k v key_room value_room rest = ⊥
KeepsFirst (e ∷ es) k v key_room value_room rest = (k ≡ length e.0) × (v ≡ length e.1) × ((key_room < k) ⊎ (value_room < v)) × (rest ≡ e ∷ es)
