-- Long values: what a table of them and their worker's objects come to.
use Rattle.std.specs.Prelude.{◌≡◌, ◌≢◌, ℕ, ◌<◌, Bool, true, Option, Some, None, List, [], ◌∷◌, ◌++◌, length, map as each}
use Rattle.std.specs.FinMap as map
use Rattle.std.specs.List.{AllByRecursion}
use Rattle.far_objects.specs.Far.{Far}
use Rattle.far_large.specs.Parts.{AreOthers, Holds, IsCount, Parts, number_of}
use Rattle.far_map.specs.Entries.{Entry}
use Rattle.far_map.specs.Table.{Entries, Table}
use Rattle.far_dict.specs.Names.{Names}

-- what objects hold, by their numbers
abbrev pub Bytes : Type 0
Bytes = ℕ → Option (List ℕ)

abbrev pub bytes_in : Option (List ℕ) → List ℕ
bytes_in None = []
bytes_in (Some xs) = xs

-- the bytes of objects, one after the other
abbrev pub joined : Bytes → List ℕ → List ℕ
joined bytes [] = []
joined bytes (n ∷ ns) = bytes_in (bytes n) ++ joined bytes ns

abbrev pub value_of : Far → Parts → List ℕ
value_of far large = joined far.bytes large.numbers

-- a list of values with their bytes
abbrev pub valued : Far → List (List ℕ × Parts) → List Entry
valued far es = each (λ e. (e.0, value_of far e.1)) es

abbrev pub entries_of : Far → Names → Entries
entries_of far names = map.from_entries (valued far (map.entries names))

abbrev pub table_of : Far → Names → Table
table_of far names = record { honest = far.honest; entries = entries_of far names }

-- a value has all its parts, and they are as many as its length says
pub record IsWhole (far : Far) (large : Parts) : Type 0 where
  pub bytes : List ℕ
  pub holds : Holds far large bytes
  pub count : IsCount large.len (length large.numbers)

-- so have all of a list
abbrev pub AreWhole : {K : Type 0} → Far → List (K × Parts) → Type 0
AreWhole {K} far es = AllByRecursion (λ (e : K × Parts). IsWhole far e.1) es

-- an object is part of a value
pub record IsPart (large : Parts) (n : ℕ) : Type 0 where
  pub place : ℕ
  pub within : place < length large.numbers
  pub is : number_of large.numbers place ≡ n

-- each value has its objects, no two have one in common, and there are no others
pub record Sound (far : Far) (names : Names) : Type 0 where
  pub whole : (key : List ℕ) (large : Parts) → map.get names key ≡ Some large → IsWhole far large
  pub apart : (j k : List ℕ) (a b : Parts) → j ≢ k → map.get names j ≡ Some a → map.get names k ≡ Some b → AreOthers a b
  pub owned : (n size : ℕ) → far.sizes n ≡ Some size → (key : List ℕ) × (large : Parts) × (map.get names key ≡ Some large) × IsPart large n

-- a key got a value: where it was told to an honest worker it is this one
abbrev pub Gets : Bool → Entries → List ℕ → List ℕ → Entries → Type 0
Gets honest old key value new = (v : List ℕ) × (new ≡ map.insert old key v) × (honest ≡ true → v ≡ value)
