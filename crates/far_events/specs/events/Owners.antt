-- What the guards of owners' events say, as tests and as facts.
use Rattle.std.specs.Prelude.{◌≡◌, ◌≢◌, ◌+◌, ◌-◌, ◌*◌, ◌/◌, ◌^◌, ◌<◌, ◌==◌, ◌&&◌, ℕ, Bool, not, nat_lt, Option, Some, None, is_some}
use Rattle.far_word.specs.declared.mark.Marks.{Marks}
use Rattle.far_word.specs.declared.pointer.Place.{Place}
use Rattle.far_word.specs.declared.pointer.PtrWord.{PtrWord}
use Rattle.far_word.specs.declared.pointer.PtrWord.TheVariants.{Near, Far}
use Rattle.far_word.specs.declared.sizes.TheConstants.{CELLS}
use Rattle.far_word.specs.Pointer.{read_of}
use Rattle.far_word.specs.Sizes.{words_for}
use Rattle.far_events.specs.state.State.{State, addr}
use Rattle.far_word.specs.declared.pointer.PtrWord.TheVariants as pointer

-- tests of owners
abbrev pub is_closed : State → ℕ → Bool
is_closed s m = nat_lt m s.mutators && (s.scope m == 0)

abbrev pub is_opened : State → ℕ → Bool
is_opened s m = nat_lt m s.mutators && not (s.scope m == 0)

abbrev pub holds : State → ℕ → ℕ → Bool
holds s m p = (p / CELLS == m) && is_some (s.held p)

-- what a near cell says of its data
abbrev pub near_len : Option PtrWord → ℕ
near_len None = 0
near_len (Some pointer.Free) = 0
near_len (Some (Near len ds place m)) = len
near_len (Some (Far len ds m)) = 0

-- the first data word
abbrev pub near_data : Option PtrWord → ℕ
near_data None = 0
near_data (Some pointer.Free) = 0
near_data (Some (Near len ds place m)) = addr place + 1
near_data (Some (Far len ds m)) = 0

abbrev pub data_len : State → ℕ → ℕ
data_len s p = near_len (read_of (s.cell p))

abbrev pub data_word : State → ℕ → ℕ → ℕ
data_word s p i = near_data (read_of (s.cell p)) + i

-- a word that leaves the bytes after an object's end 0
abbrev pub keeps_padding : ℕ → ℕ → ℕ → Bool
keeps_padding len i w = nat_lt w (2 ^ (8 * (len - 8 * i)))

abbrev pub IsClosed : State → ℕ → Type 0
IsClosed s m = (m < s.mutators) × (s.scope m ≡ 0)

abbrev pub IsOpen : State → ℕ → Type 0
IsOpen s m = (m < s.mutators) × (s.scope m ≢ 0)

-- the owner holds its pointer's object, which has this length, at this place
pub record HoldsObject (s : State) (m p len : ℕ) (place : Place) : Type 0 where
  pub own : p / CELLS ≡ m
  pub rests : s.held p ≡ Some place
  pub near : (ds : ℕ) × (marks : Marks) × (read_of (s.cell p) ≡ Some (Near len ds place marks))

-- the word is one of the object's data words
abbrev pub HoldsWord : State → ℕ → ℕ → ℕ → ℕ → Type 0
HoldsWord s m p i len = (place : Place) × HoldsObject s m p len place × (i < words_for len)
