-- What a book's device holds.
use Rattle.std.specs.Prelude.{◌≡◌, ℕ, ◌+◌, Bool, true, false, cond, List, length, Option, Some, None}
use Rattle.far_word.specs.declared.mark.Marks.{Marks}
use Rattle.far_word.specs.declared.pointer.Place.{Place}
use Rattle.far_word.specs.declared.pointer.PtrWord.{PtrWord}
use Rattle.far_word.specs.declared.pointer.PtrWord.TheVariants.{Free, Near, Far}
use Rattle.far_word.specs.Bytes.{bytes_of}
use Rattle.far_word.specs.Pointer.{read_of}
use Rattle.far_events.specs.state.State.{State, addr}
use Rattle.far_book.specs.declared.ledger.Ledger.{Ledger}
use Rattle.far_book.specs.book.Ledger.{Notes}
use Rattle.far_book.specs.book.Own.{own_part}

-- how many bytes the far side is to hold of what a cell names: of a far object, and of a near one without DIRTY
abbrev pub kept_len : Option PtrWord → Option ℕ
kept_len None = None
kept_len (Some Free) = None
kept_len (Some (Near len ds place m)) = cond m.dirty None (Some len)
kept_len (Some (Far len ds m)) = Some len

-- of each such object bytes of its length, under its pointer; where the far side is honest, those that are stored of it
pub record HoldsFar (s : State) (contents : ℕ → Option (List ℕ)) : Type 0 where
  pub long : (p len : ℕ) → kept_len (read_of (s.cell p)) ≡ Some len → (bytes : List ℕ) × (contents p ≡ Some bytes) × (length bytes ≡ len)
  pub same : s.honest ≡ true → (p len : ℕ) → kept_len (read_of (s.cell p)) ≡ Some len → contents p ≡ Some (bytes_of (s.stored p) len)

-- where the far side is honest, of each near object without DIRTY its own bytes: nothing is lost if it leaves without a write
abbrev pub HoldsOwn : State → (ℕ → Option (List ℕ)) → Type 0
HoldsOwn s contents = s.honest ≡ true → (p len ds : ℕ) (place : Place) (m : Marks) → read_of (s.cell p) ≡ Some (Near len ds place m) → m.dirty ≡ false →
    contents p ≡ Some (bytes_of (λ i. s.word (addr place + 1 + i)) len)

-- a book is so at every moment: its ledger is right about what no owner changes, its device holds what is far, and what is near without DIRTY, and is
-- honest where the words say that the far side is
pub record InOrder (s : State) (ledger : Ledger) (contents : ℕ → Option (List ℕ)) (is_honest : Bool) : Type 0 where
  pub notes : Notes (own_part s) ledger
  pub far : HoldsFar s contents
  pub honest : s.honest ≡ true → is_honest ≡ true
