-- What a heap says of a mutator's objects: which it uses, their bytes, and the cell of the next one.
use Rattle.std.specs.Prelude.{ℕ, ◌+◌, ◌*◌, ◌/◌, Bool, ◌==◌, ◌&&◌, nat_lt, nat_le, Option, Some, None, List, ◌++◌, length, take, drop, find}
use Rattle.std.specs.List.{range_with_len}
use Rattle.far_word.specs.declared.pointer.PtrWord.{PtrWord}
use Rattle.far_word.specs.declared.pointer.PtrWord.TheVariants.{Free, Near, Far}
use Rattle.far_word.specs.declared.sizes.TheConstants.{CELLS}
use Rattle.far_word.specs.Bytes.{bytes_of}
use Rattle.far_word.specs.Pointer.{read_of}
use Rattle.far_events.specs.state.State.{State}
use Rattle.far_events.specs.events.Step.{near_data, data_len}

-- the mutator uses the pointer
abbrev pub uses : State → ℕ → ℕ → Bool
uses s m p = (p / CELLS == m) && s.used p

-- the length of the object that a cell names, near or far
abbrev pub named_len : Option PtrWord → ℕ
named_len None = 0
named_len (Some Free) = 0
named_len (Some (Near len ds place marks)) = len
named_len (Some (Far len ds marks)) = len

abbrev pub object_len : State → ℕ → ℕ
object_len s p = named_len (read_of (s.cell p))

-- the bytes of a near object
abbrev pub data_of : State → ℕ → List ℕ
data_of s p = bytes_of (λ i. s.word (near_data (read_of (s.cell p)) + i)) (data_len s p)

-- bytes with others in the place of those from here on
abbrev pub with_range : List ℕ → ℕ → List ℕ → List ℕ
with_range bytes from new = take from bytes ++ new ++ drop (from + length new) bytes

-- the lowest cell of a mutator that is free
unfoldable pub lowest_cell : State → ℕ → Option ℕ
lowest_cell s m = find (λ p. s.cell p == 0) (range_with_len (m * CELLS) CELLS)

-- some bytes of an object of this length, none past its end
abbrev pub is_range : ℕ → ℕ → ℕ → Bool
is_range len from count = nat_lt 0 count && nat_le (from + count) len
