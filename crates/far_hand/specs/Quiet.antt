-- When the bytes of an object stay: its owner has asked for it to be moved, or can't reach it while the round lasts.
use Rattle.std.specs.Prelude.{◌≡◌, ◌⊎◌, ◌+◌, ◌*◌, ◌/◌, ◌%◌, ◌<◌, ◌≤◌, ◌&&◌, ◌==◌, nat_lt, nat_le, ℕ, Bool, true, false, Option, Some, None}
use Rattle.far_word.specs.declared.mark.Marks.{Marks}
use Rattle.far_word.specs.declared.pointer.Place.{Place}
use Rattle.far_word.specs.declared.pointer.PtrWord.{PtrWord}
use Rattle.far_word.specs.declared.pointer.PtrWord.TheVariants.{Free, Near, Far}
use Rattle.far_word.specs.declared.sizes.TheConstants.{CELLS, LOG_WORDS}
use Rattle.far_word.specs.Pointer.{read_of}
use Rattle.far_word.specs.Sizes.{words_for}
use Rattle.far_events.specs.state.State.{State, addr}
pub use Rattle.far_events.specs.events.Quiet.{is_quiet}

-- a word of a log is a data word of the object that a pointer's cell names, and the object is quiet
abbrev pub is_quiet_word : (ℕ → Bool) → (ℕ → Bool) → ℕ → Option PtrWord → ℕ → ℕ → Bool
is_quiet_word round clear p None l at = false
is_quiet_word round clear p (Some Free) l at = false
is_quiet_word round clear p (Some (Near len ds place marks)) l at =
    is_quiet round clear p place marks && ((place.log == l) && nat_lt place.at at && nat_le at (place.at + words_for len))
is_quiet_word round clear p (Some (Far len ds marks)) l at = false

-- the word at an address is a data word of a near object that these cells, logs of the round and clear owners show to be quiet
pub record IsQuietBy (mutators : ℕ) (round clear : ℕ → Bool) (cell : ℕ → ℕ) (a : ℕ) : Type 0 where
  pub p : ℕ
  pub len : ℕ
  pub ds : ℕ
  pub place : Place
  pub marks : Marks
  pub index : ℕ
  pub pointer : p < CELLS * mutators
  pub near : read_of (cell p) ≡ Some (Near len ds place marks)
  pub quiet : is_quiet round clear p place marks ≡ true
  pub inside : index < words_for len
  pub here : a ≡ addr place + 1 + index

-- the same by the cells, the round and the clear owners of a state
abbrev pub IsQuietAt : State → ℕ → Type 0
IsQuietAt s a = IsQuietBy s.mutators s.round s.clear s.cell a

-- nobody but the book writes the word at an address: it stands at or past the end of its log, or is a quiet object's. No word of a dead span is such
abbrev pub RestsAt : State → ℕ → Type 0
RestsAt s a = ∥ ((s.tail (a / LOG_WORDS) ≤ a % LOG_WORDS) ⊎ IsQuietAt s a) ∥₁

-- an object is near and quiet: nobody stores into it
pub record IsQuietNear (s : State) (p : ℕ) : Type 0 where
  pub len : ℕ
  pub ds : ℕ
  pub place : Place
  pub marks : Marks
  pub near : read_of (s.cell p) ≡ Some (Near len ds place marks)
  pub quiet : is_quiet s.round s.clear p place marks ≡ true
