-- A dictionary at rest, or while its entries are told.
use Rattle.std.specs.FinMap as map
use Rattle.std.specs.Prelude.{◌≡◌, ℕ, ◌&&◌, nat_le, true, false, Option, Some, None, List, [], ◌∷◌, length, take}
use Rattle.far_map.specs.Entries.{Entry}
use Rattle.far_dict.specs.Dictionaries.{Dictionary}
use Rattle.far_dict.specs.Walks.{Walked, resting}
use Rattle.far_dict.specs.declared.tour.State.{State}
use Rattle.far_dict.specs.declared.tour.State.TheVariants.{Gone, Still, Walking}

abbrev pub toured : {O : Type 0} → State O → Walked
toured (Still dict) = resting dict
toured (Walking walk) = walk
toured Gone = record { honest = true; honest_long = true; entries = map.empty; rest = [] }

-- it is either
abbrev pub IsThere : {O : Type 0} → State O → Type 0
IsThere (Still dict) = Unit {0}
IsThere (Walking walk) = Unit {0}
IsThere Gone = ⊥

-- the first entry that wasn't told was told, by the lengths of its key and its value: where two buffers have room for both, they begin with them, and it counts as told; or each was
abbrev pub Tells : List Entry → Option (ℕ × ℕ) → List ℕ → List ℕ → List Entry → Type 0
Tells [] r key value rest = (r ≡ None) × (rest ≡ [])
Tells (e ∷ es) r key value rest =
    (r ≡ Some (length e.0, length e.1))
    × ((nat_le (length e.0) (length key) && nat_le (length e.1) (length value)) ≡ true → (take (length e.0) key ≡ e.0) × (take (length e.1) value ≡ e.1) × (rest ≡ es))
    × ((nat_le (length e.0) (length key) && nat_le (length e.1) (length value)) ≡ false → rest ≡ e ∷ es)
