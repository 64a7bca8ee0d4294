-- When the bytes of an object stay: its owner has asked for it to be moved, or can't reach it while the round lasts.
use Rattle.std.specs.Prelude.{◌≡◌, ◌⊎◌, ◌/◌, ◌&&◌, ◌||◌, ℕ, Bool, true, false, Option, Some, None}
use Rattle.far_word.specs.declared.mark.Marks.{Marks}
use Rattle.far_word.specs.declared.pointer.Place.{Place}
use Rattle.far_word.specs.declared.pointer.PtrWord.{PtrWord}
use Rattle.far_word.specs.declared.pointer.PtrWord.TheVariants.{Free, Near, Far}
use Rattle.far_word.specs.declared.sizes.TheConstants.{CELLS}
use Rattle.far_word.specs.Pointer.{read_of}
use Rattle.far_events.specs.state.State.{State}

-- a near object is quiet: it has MOVE; or it has EVAC, its log is in the round, and its owner was seen clear in it
abbrev pub is_quiet : (ℕ → Bool) → (ℕ → Bool) → ℕ → Place → Marks → Bool
is_quiet round clear p place marks = marks.moved || (marks.evac && round place.log && clear (p / CELLS))

-- the same of what a cell says; a far one is quiet where it has MOVE
abbrev pub is_quiet_cell : State → ℕ → Option PtrWord → Bool
is_quiet_cell s p None = false
is_quiet_cell s p (Some Free) = false
is_quiet_cell s p (Some (Near len ds place m)) = is_quiet s.round s.clear p place m
is_quiet_cell s p (Some (Far len ds m)) = m.moved

-- MOVE is set
abbrev pub has_move : Option PtrWord → Bool
has_move None = false
has_move (Some Free) = false
has_move (Some (Near len ds place m)) = m.moved
has_move (Some (Far len ds m)) = m.moved

-- near with EVAC, in a log of the round, and its owner was seen clear in the round
abbrev pub IsClearNear : State → ℕ → Type 0
IsClearNear s p = (len ds : ℕ) × (place : Place) × (m : Marks) × (read_of (s.cell p) ≡ Some (Near len ds place m)) × (m.evac ≡ true) × (s.round place.log ≡ true) × (s.clear (p / CELLS) ≡ true)

abbrev pub IsQuiet : State → ℕ → Type 0
IsQuiet s p = (has_move (read_of (s.cell p)) ≡ true) ⊎ IsClearNear s p
