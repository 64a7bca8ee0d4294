-- How a near object is copied to another place while owners are at work, or stays where it lies.
use Rattle.std.specs.Prelude.{◌≡◌, ◌+◌, ◌*◌, ◌-◌, ◌^◌, ◌<◌, ◌≤◌, ℕ, true, false, Some}
use Rattle.far_word.specs.declared.mark.Marks.{Marks}
use Rattle.far_word.specs.declared.pointer.Place.{Place}
use Rattle.far_word.specs.declared.pointer.PtrWord.TheVariants.{Near}
use Rattle.far_word.specs.declared.sizes.TheConstants.{CELLS, LOG_WORDS}
use Rattle.far_word.specs.Header.{head_word}
use Rattle.far_word.specs.Pointer.{read_of}
use Rattle.far_word.specs.Sizes.{size_of, words_for}
use Rattle.far_events.specs.events.Copies.{Alike, data_at, EndsPadded}
use Rattle.far_events.specs.events.Legal.{IsNext}
use Rattle.far_events.specs.events.Ranges.{with_row}
use Rattle.far_events.specs.state.Law.{Law}
use Rattle.far_events.specs.state.State.{State, addr, put}
use Rattle.far_hand.specs.Known.{IsKnown, KeepsKnown}
use Rattle.far_hand.specs.Quiet.{is_quiet}
use Rattle.far_book.specs.book.Effects.{with_written_span}
use Rattle.far_book.specs.book.Own.{own_part}

-- a near object that is quiet may be copied: the next span of a log may stand at the place, and fits
pub record MayCopy (s : State) (p len ds : ℕ) (from to : Place) : Type 0 where
  pub law : Law (own_part s)
  pub pointer : p < CELLS * s.mutators
  pub marks : Marks
  pub near : read_of (s.cell p) ≡ Some (Near len ds from marks)
  pub quiet : is_quiet s.round s.clear p from marks ≡ true
  pub next : IsNext s to
  pub fits : to.at + size_of len ≤ LOG_WORDS

-- a near object that has MOVE, and that the book doesn't want elsewhere, may stay where it lies
pub record MayStay (s : State) (p len ds : ℕ) (place : Place) : Type 0 where
  pub pointer : p < CELLS * s.mutators
  pub marks : Marks
  pub near : read_of (s.cell p) ≡ Some (Near len ds place marks)
  pub moved : marks.moved ≡ true
  pub unwanted : marks.evac ≡ false

-- the first n words are copied
pub record Copying (s t : State) (p len ds : ℕ) (from to : Place) (n : ℕ) : Type 0 where
  pub is : t ≡ record s { word = t.word }
  pub header : t.word (addr to) ≡ head_word p len ds
  pub same : Alike (data_at t.word to) (data_at t.word from) n
  pub padded : (j : ℕ) → j < n → data_at t.word to j < 2 ^ (8 * (len - 8 * j))
  pub keeps : (a : ℕ) → IsKnown (s.word a) → (addr to ≤ a → a < addr to + size_of len → ⊥) → t.word a ≡ s.word a

-- the same exactly, where no other word changes
abbrev pub with_copied : State → ℕ → ℕ → ℕ → Place → Place → ℕ → State
with_copied s p len ds from to n = record s { word = with_row (put s.word (addr to) (head_word p len ds)) (addr to + 1) n (data_at s.word from) }

-- from s to t a header and the object's data words were written at the place; nothing else but words that were learned is another
pub record Copied (s t : State) (p len ds : ℕ) (from to : Place) : Type 0 where
  pub is : t ≡ record s { word = t.word }
  pub header : t.word (addr to) ≡ head_word p len ds
  pub same : Alike (data_at t.word to) (data_at t.word from) (words_for len)
  pub padded : EndsPadded t.word len to
  pub keeps : KeepsKnown (with_written_span s p len ds to (data_at s.word from)) t
