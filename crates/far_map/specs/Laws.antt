-- What calls come to together, and what a list of entries says.
use Rattle.std.specs.Prelude.{◌≡◌, ℕ, cond, Option, Some, None, List, [], ◌∷◌, slice_get}
use Rattle.std.specs.FinMap as map
use Rattle.std.specs.Str.{bytes_eq}
use Rattle.far_map.specs.Entries.{Entry}
use Rattle.far_map.specs.Listed.{AreAllOf}
use Rattle.far_map.specs.Table.{Entries}

-- calls that were answered, the last one first: a key with its value, or with none where it was taken out
abbrev pub Calls : Type 0
Calls = List (List ℕ × Option (List ℕ))

abbrev pub called : Entries → List ℕ → Option (List ℕ) → Entries
called entries key (Some value) = map.insert entries key value
called entries key None = map.remove entries key

-- what they make of an empty map
abbrev pub after : Calls → Entries
after [] = map.empty
after (c ∷ calls) = called (after calls) c.0 c.1

-- what the last of them that named the key gave it
abbrev pub given_last : List ℕ → Calls → Option (List ℕ)
given_last key [] = None
given_last key (c ∷ calls) = cond (bytes_eq key c.0) c.1 (given_last key calls)

abbrev pub HasWhatWasPutLast : Type 0
HasWhatWasPutLast = (calls : Calls) (key : List ℕ) → map.get (after calls) key ≡ given_last key calls

-- a list that has all entries of a map has a key with a value where the map has, at one place, and nowhere else
pub record EntriesAreTold : Type 0 where
  pub there : (told : List Entry) (entries : Entries) (i : ℕ) (key v : List ℕ) → AreAllOf told entries → slice_get told i ≡ Some (key, v) → map.get entries key ≡ Some v
  pub once : (told : List Entry) (entries : Entries) (i j : ℕ) (key v w : List ℕ) → AreAllOf told entries → slice_get told i ≡ Some (key, v) → slice_get told j ≡ Some (key, w) → i ≡ j
  pub each : (told : List Entry) (entries : Entries) (key v : List ℕ) → AreAllOf told entries → map.get entries key ≡ Some v → (i : ℕ) × (slice_get told i ≡ Some (key, v))
