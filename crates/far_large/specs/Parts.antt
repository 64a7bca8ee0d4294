-- What a large value is to a contract.
use Rattle.std.specs.Prelude.{◌≡◌, ◌≢◌, ℕ, ◌+◌, ◌-◌, ◌*◌, ◌<◌, ◌≤◌, min, Bool, true, Option, Some, None, List, length, take, drop, slice_index_or}
use Rattle.far_word.specs.declared.refused.Refused.{Refused}
use Rattle.far_word.specs.declared.refused.Refused.TheVariants.{Length, Memory, NotHeld, Range}
use Rattle.far_objects.specs.declared.objects.TheConstants.{MOST}
use Rattle.far_objects.specs.Far.{Far, Makes, Others}

-- how many bytes a large value has, and the numbers of its parts, in order
pub record Parts : Type 0 where
  pub len : ℕ
  pub numbers : List ℕ

abbrev pub number_of : List ℕ → ℕ → ℕ
number_of numbers i = slice_index_or numbers i 0

-- the bytes of a part, by its place, and how many they are
unfoldable pub part_of : List ℕ → ℕ → List ℕ
part_of bytes i = take MOST (drop (i * MOST) bytes)

unfoldable pub part_len : ℕ → ℕ → ℕ
part_len len i = min MOST (len - i * MOST)

-- so many numbers are enough for so many bytes, and no more than enough
pub record IsCount (len count : ℕ) : Type 0 where
  pub some : 0 < len
  pub enough : len ≤ MOST * count
  pub few : MOST * count < len + MOST

-- no number stands twice among the first so many
abbrev pub AreApart : List ℕ → ℕ → Type 0
AreApart numbers count = (i j : ℕ) → i < j → j < count → number_of numbers i ≢ number_of numbers j

-- a number is none of the first so many
abbrev pub IsNone : List ℕ → ℕ → ℕ → Type 0
IsNone numbers count k = (i : ℕ) → i < count → number_of numbers i ≢ k

-- ---- where a value's parts are
-- an object has just these bytes: so many always, and these where the far side is honest
pub record HasBytes (far : Far) (number : ℕ) (xs : List ℕ) : Type 0 where
  pub size : far.sizes number ≡ Some (length xs)
  pub bytes : far.honest ≡ true → far.bytes number ≡ Some xs

-- each of its parts is there, as long as it has to be
abbrev pub Stands : Far → Parts → Type 0
Stands far large = (i : ℕ) → i < length large.numbers → far.sizes (number_of large.numbers i) ≡ Some (part_len large.len i)

abbrev pub HasParts : Far → List ℕ → List ℕ → Type 0
HasParts far numbers xs = (i : ℕ) → i < length numbers → HasBytes far (number_of numbers i) (part_of xs i)

-- a value has just these bytes
pub record Holds (far : Far) (large : Parts) (bytes : List ℕ) : Type 0 where
  pub len : large.len ≡ length bytes
  pub parts : HasParts far large.numbers bytes

-- ---- what calls do
-- all objects but the first so many numbers' are as before
pub record OthersThan (numbers : List ℕ) (count : ℕ) (old new : Far) : Type 0 where
  pub honest : new.honest ≡ old.honest
  pub sizes : (k : ℕ) → IsNone numbers count k → new.sizes k ≡ old.sizes k
  pub bytes : (k : ℕ) → IsNone numbers count k → new.bytes k ≡ old.bytes k

-- the same objects are there as before, with the same bytes
pub record AsBefore (old new : Far) : Type 0 where
  pub honest : new.honest ≡ old.honest
  pub sizes : (k : ℕ) → new.sizes k ≡ old.sizes k
  pub bytes : (k n : ℕ) → old.sizes k ≡ Some n → new.bytes k ≡ old.bytes k

-- the first so many parts of these bytes were made, of numbers that no object had, each its own
pub record Placed (numbers : List ℕ) (count : ℕ) (xs : List ℕ) (old new : Far) : Type 0 where
  pub apart : AreApart numbers count
  pub fresh : (i : ℕ) → i < count → old.sizes (number_of numbers i) ≡ None
  pub holds : (i : ℕ) → i < count → HasBytes new (number_of numbers i) (part_of xs i)
  pub others : OthersThan numbers count old new

-- the objects of the first so many numbers were dropped
pub record Dropped (numbers : List ℕ) (count : ℕ) (old new : Far) : Type 0 where
  pub gone : (i : ℕ) → i < count → new.sizes (number_of numbers i) ≡ None
  pub others : OthersThan numbers count old new

-- a value was made, of numbers that no object had
pub record Puts (large : Parts) (bytes : List ℕ) (old new : Far) : Type 0 where
  pub fresh : (i : ℕ) → i < length large.numbers → old.sizes (number_of large.numbers i) ≡ None
  pub holds : Holds new large bytes
  pub others : OthersThan large.numbers (length large.numbers) old new

-- a value was taken away with all its parts
pub record Takes (large : Parts) (old new : Far) : Type 0 where
  pub there : Stands old large
  pub dropped : Dropped large.numbers (length large.numbers) old new

-- ---- why calls are refused, by what the far side may say
-- why no value was made
abbrev pub IsWhyNotPut : (Refused → Type 0) → ℕ → Refused → Type 0
IsWhyNotPut unmade n Length = n ≡ 0
IsWhyNotPut unmade n Memory = 0 < n
IsWhyNotPut unmade n why = (0 < n) × unmade why

-- why a value wasn't read: its parts aren't there; the range is empty or passes its end; or a part isn't reached
abbrev pub IsWhyNotRead : (Bool → Refused → Type 0) → Far → Parts → Option Refused → Refused → Type 0
IsWhyNotRead unreached far large o NotHeld = (o ≡ None) × (Stands far large → ⊥)
IsWhyNotRead unreached far large o Range = o ≡ Some Range
IsWhyNotRead unreached far large o why = (o ≡ None) × unreached far.honest why

-- the same of one part, by whether its object is there with that range
abbrev pub IsWhyMissed : (Bool → Refused → Type 0) → Bool → Option Refused → Refused → Type 0
IsWhyMissed unreached honest o NotHeld = o ≢ None
IsWhyMissed unreached honest o Range = ⊥
IsWhyMissed unreached honest o why = (o ≡ None) × unreached honest why

-- ---- what stays
-- a number is none of a value's parts
abbrev pub IsNoPart : Parts → ℕ → Type 0
IsNoPart large k = IsNone large.numbers (length large.numbers) k

-- two values have no part in common
abbrev pub AreOthers : Parts → Parts → Type 0
AreOthers a b = (i : ℕ) → i < length b.numbers → IsNoPart a (number_of b.numbers i)

-- a value keeps its bytes in each call that is of no part of it; and what is made after it has other numbers
pub record ValuesStay : Type 0 where
  pub others : (large : Parts) (bytes : List ℕ) (old new : Far) (k : ℕ) → Holds old large bytes → Others k old new → IsNoPart large k → Holds new large bytes
  pub made : (large : Parts) (bytes : List ℕ) (old new : Far) (k : ℕ) (xs : List ℕ) → Holds old large bytes → Makes k xs old new → IsNoPart large k × Holds new large bytes
  pub put : (a b : Parts) (bytes more : List ℕ) (old new : Far) → Holds old a bytes → Puts b more old new → AreOthers a b × Holds new a bytes
  pub taken : (a b : Parts) (bytes : List ℕ) (old new : Far) → Holds old a bytes → AreOthers a b → Takes b old new → Holds new a bytes
  pub refused : (large : Parts) (bytes : List ℕ) (old new : Far) → Holds old large bytes → AsBefore old new → Holds new large bytes
