-- The near index: slots, each of which is empty, has been left, or has a tag and the number of an object.
use Rattle.std.specs.Prelude.{◌≡◌, ◌≢◌, ℕ, ◌+◌, ◌*◌, ◌/◌, ◌%◌, ◌<◌, ◌≤◌, ◌==◌, nat_lt, cond, List, [], ◌∷◌, slice_index_or}
use Rattle.far_index.specs.declared.slot.Slot.{Slot}
use Rattle.far_index.specs.declared.slot.Slot.TheVariants.{Empty, Gone, Full}

-- a slot as a word, the upper 32 bits of its tag above the number, and the lower 16 bits of the tag. Tags below 2^16 are none: word 0 is empty, and
-- others below 2^32 are slots that have been left
abbrev pub slot_of : ℕ → ℕ → Slot
slot_of word rest = cond (word == 0) Empty (cond (nat_lt word 4294967296) Gone (Full (word / 4294967296 * 65536 + rest % 65536) (word % 4294967296)))

-- words, and as many rests
unfoldable pub slots_of : List ℕ → List ℕ → List Slot
slots_of [] rests = []
slots_of (word ∷ words) [] = slot_of word 0 ∷ slots_of words []
slots_of (word ∷ words) (rest ∷ rests) = slot_of word rest ∷ slots_of words rests

-- a tag of 48 bits, of which the upper 32 aren't all 0
abbrev pub IsTag : ℕ → Type 0
IsTag tag = (65536 ≤ tag) × (tag < 281474976710656)

-- a slot that fits a word and a rest
abbrev pub Fits : Slot → Type 0
Fits slot = (tag number : ℕ) → slot ≡ Full tag number → IsTag tag

-- past the end all are empty
abbrev pub slot_at : List Slot → ℕ → Slot
slot_at slots i = slice_index_or slots i Empty

-- where the search for a tag begins: homes are in the order of tags
abbrev pub home : ℕ → ℕ → ℕ
home buckets tag = tag * buckets / 281474976710656

-- an entry stands at its home or later, and no slot from there to it is empty
pub record Reached (buckets : ℕ) (slots : List Slot) : Type 0 where
  pub later : (j tag number : ℕ) → slot_at slots j ≡ Full tag number → home buckets tag ≤ j
  pub through : (j tag number i : ℕ) → slot_at slots j ≡ Full tag number → home buckets tag ≤ i → i < j → slot_at slots i ≢ Empty
