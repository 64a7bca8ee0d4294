-- What a fetch asks of a state, and what it leaves.
use Rattle.std.specs.Prelude.{◌≡◌, ℕ, Bool, true, false, Option, Some, None, IsSome, List}
use Rattle.far_word.specs.declared.mark.Marks.{Marks}
use Rattle.far_word.specs.declared.pointer.Place.{Place}
use Rattle.far_word.specs.declared.pointer.PtrWord.{PtrWord}
use Rattle.far_word.specs.declared.pointer.PtrWord.TheVariants.{Free, Near, Far}
use Rattle.far_word.specs.declared.refused.Refused.{Refused}
use Rattle.far_word.specs.declared.refused.Refused.TheVariants.{Memory, NoRoom, Device, Damaged}
use Rattle.far_word.specs.Pointer.{read_of}
use Rattle.far_word.specs.Sizes.{size_of, words_for}
use Rattle.far_events.specs.events.Copies.{Alike}
use Rattle.far_events.specs.state.Law.{IsStored}
use Rattle.far_core.specs.state.Room.{room}
use Rattle.far_events.specs.state.State.{State}
use Rattle.far_hand.specs.Known.{Forgets}
use Rattle.far_book.specs.book.Effects.{fetched, order_after}

-- an object is far
pub record IsFar (s : State) (p : ℕ) : Type 0 where
  pub len : ℕ
  pub ds : ℕ
  pub marks : Marks
  pub far : read_of (s.cell p) ≡ Some (Far len ds marks)

-- how many bytes it has there
abbrev pub far_len : Option PtrWord → ℕ
far_len None = 0
far_len (Some Free) = 0
far_len (Some (Near len ds place marks)) = 0
far_len (Some (Far len ds marks)) = len

-- where it comes when it is fetched, if there is room: never into the last free log
abbrev pub room_for : State → ℕ → Option Place
room_for s p = room s (size_of (far_len (read_of (s.cell p)))) true

-- it has come near to a place, with as many bytes as it has: where the far side is honest, those that were stored. Words may have been forgotten
pub record IsFetched (still : Type 0) (is_honest : Bool) (s t : State) (p : ℕ) (place : Place) : Type 0 where
  pub row : ℕ → ℕ
  pub kept : t ≡ record (fetched s p place row) { word = t.word }
  pub forgot : Forgets (fetched s p place row) t
  pub padded : IsStored row (far_len (read_of (s.cell p)))
  pub stored : is_honest ≡ true → Alike row (s.stored p) (words_for (far_len (read_of (s.cell p))))
  pub exact : still → t ≡ fetched s p place row

-- the sealed logs after it, oldest first
abbrev pub order_fetched : State → List ℕ → Option Place → List ℕ
order_fetched s order None = order
order_fetched s order (Some place) = order_after s order place

-- why a fetch may be refused: room is none; or room is, and the device wants memory, or fails, or isn't honest
abbrev pub RefusesFetch : Refused → Option Place → Bool → Type 0
RefusesFetch NoRoom place is_honest = place ≡ None
RefusesFetch Memory place is_honest = IsSome place
RefusesFetch Device place is_honest = IsSome place
RefusesFetch Damaged place is_honest = IsSome place × (is_honest ≡ false)
RefusesFetch why place is_honest = ⊥
