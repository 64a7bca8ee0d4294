-- Lines by their places in a list, in the order in which each came first.
use Rattle.std.specs.Prelude.{◌≡◌, ℕ, suc, ◌<◌, ◌==◌, cond, Option, Some, None, List, [], ◌∷◌, length}
use Rattle.std.specs.List.{slice_get}
use Rattle.far_objects.specs.Far.{Far}
use Rattle.far_index.specs.declared.slot.Slot.{Slot}
use Rattle.far_index.specs.declared.slot.Slot.TheVariants.{Empty, Gone, Full}
use Rattle.far_index.specs.Slots.{slot_at}
use Rattle.far_large.specs.Parts.{Parts}
use Rattle.far_seen.specs.Parts.{Bytes, all_in, stamp_at}
use Rattle.far_seen.specs.Stored.{with_longs}
use Rattle.far_seen.specs.Tallied.{Counts}

abbrev pub of_number : {A : Type 0} → (ℕ → Option A) → Option ℕ → Option A
of_number f None = None
of_number f (Some number) = f number

-- what stands for lines, by place: at each is the number of an object, or of a long line
abbrev pub by_place : Far → List ℕ → Far
by_place far numbers = record {
  honest = far.honest;
  sizes = λ k. of_number far.sizes (slice_get numbers k);
  bytes = λ k. of_number far.bytes (slice_get numbers k);
}

abbrev pub all_of : Far → List Parts → List ℕ → Far
all_of far longs numbers = by_place (with_longs far longs) numbers

-- each place has a slot, and a count
pub record Listed (slots : List Slot) (numbers counts : List ℕ) : Type 0 where
  pub each : (k : ℕ) → k < length numbers → (j : ℕ) × (t : ℕ) × (slot_at slots j ≡ Full t k)
  pub long : length counts ≡ length numbers

-- the stamp of a slot's line, if the slot has this place
abbrev pub stamp_if : (ℕ → Option ℕ) → ℕ → Slot → Option (List ℕ)
stamp_if sizes k Empty = None
stamp_if sizes k Gone = None
stamp_if sizes k (Full tag number) = cond (number == k) (stamp_at tag (sizes number)) None

-- the stamp of what was put for a place, of which one slot has it
abbrev pub stamp_for : (ℕ → Option ℕ) → List Slot → ℕ → Option (List ℕ)
stamp_for sizes slots k = slice_get (all_in (stamp_if sizes k) slots) 0

abbrev pub line_or_none : Option (List ℕ) → List ℕ
line_or_none None = []
line_or_none (Some line) = line

-- the lines, or the stamps, from a place on, with their counts
abbrev pub counts_from : Bytes → ℕ → List ℕ → Counts
counts_from bytes k [] = []
counts_from bytes k (n ∷ ns) = (line_or_none (bytes k), n) ∷ counts_from bytes (suc k) ns
