-- The entries of a map, one after the other.
use Rattle.std.specs.Prelude.{◌≡◌, ℕ, List, ◌∷◌, ◌++◌, length, Result, Ok, Err}
use Rattle.std.specs.Borrow.{Bor}
use Rattle.std.specs.List.{FoldsTo}
use Rattle.std.specs.FinMap as map
use Rattle.far_map.specs.Entries.{Entry}
use Rattle.far_map.specs.Table.{Entries}

-- a list has a map's entries and no others; and as many as there are, so none twice
pub record AreAllOf (told : List Entry) (entries : Entries) : Type 0 where
  pub are : map.from_entries told ≡ entries
  pub once : length told ≡ map.len entries

-- steps of a closure, one at the key and the value of each entry of a list, took it from f to last
abbrev pub StepsAtEach : {F : Type 0} → (F → List ℕ → List ℕ → F → Type 0) → F → List Entry → F → Type 0
StepsAtEach {F} step f told last = FoldsTo {P = F} {A = Entry} (λ p e q. step p e.0 e.1 q) f told last

-- a closure gave r of what was made before it, a key and a value
abbrev pub GivesAt : {A R : Type 0} → (A → Bor (List ℕ) → Bor (List ℕ) → R → Type 0) → A → List ℕ → List ℕ → R → Type 0
GivesAt post made key value r = (k : Bor (List ℕ)) × (v : Bor (List ℕ)) × post made k v r × (k.now ≡ key) × (v.now ≡ value)

-- steps at the entries of a list, one at each, made b of a
abbrev pub FoldsAll : {A E : Type 0} → (A → List ℕ → List ℕ → Result A E → Type 0) → A → List Entry → A → Type 0
FoldsAll {A} {E} step a told b = FoldsTo {P = A} {A = Entry} (λ p e q. step p e.0 e.1 (Ok q)) a told b

-- the step at some entry of a list was refused, those before it weren't, and none was made after it
pub record Stops {A E : Type 0} (step : A → List ℕ → List ℕ → Result A E → Type 0) (a : A) (told : List Entry) (why : E) : Type 0 where
  pub done : List Entry
  pub entry : Entry
  pub rest : List Entry
  pub is : told ≡ done ++ (entry ∷ rest)
  pub made : A
  pub steps : FoldsAll step a done made
  pub stop : step made entry.0 entry.1 (Err why)

-- steps at the entries of a list, until one is refused, came to r
abbrev pub FoldsUntil : {A E : Type 0} → (A → List ℕ → List ℕ → Result A E → Type 0) → A → List Entry → Result A E → Type 0
FoldsUntil step a told (Ok b) = FoldsAll step a told b
FoldsUntil step a told (Err why) = Stops step a told why
