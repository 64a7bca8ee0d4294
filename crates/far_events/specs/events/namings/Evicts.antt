-- A near object that is quiet goes far: its words are stored, and its span is dead from then on.
use Rattle.std.specs.Prelude.{◌≡◌, ◌≢◌, ◌+◌, ◌<◌, ℕ, cond, nat_lt, Some}
use Rattle.far_word.specs.declared.mark.Marks.{Marks}
use Rattle.far_word.specs.declared.pointer.PtrWord.TheVariants.{Near}
use Rattle.far_word.specs.declared.pointer.Place.{Place}
use Rattle.far_word.specs.Pointer.{read_of}
use Rattle.far_word.specs.Sizes.{words_for}
use Rattle.far_events.specs.state.State.{State, addr, put}
use Rattle.far_events.specs.events.Changes.{Change, GoesFar}
use Rattle.far_events.specs.events.NamingRow.{NamingRow}
use Rattle.far_events.specs.events.Quiet.{is_quiet_cell, IsQuiet}

-- the first n stored words of p are those from a on; its others stay
abbrev pub with_kept : (ℕ → ℕ) → (ℕ → ℕ → ℕ) → ℕ → ℕ → ℕ → ℕ → ℕ
with_kept word stored p a n i = cond (nat_lt i n) (word (a + i)) (stored p i)

-- p's cell is near at this place, with this length
abbrev pub IsAt : State → ℕ → ℕ → Place → Type 0
IsAt s p len place = (ds : ℕ) × (m : Marks) × (read_of (s.cell p) ≡ Some (Near len ds place m))

-- the data words at a place are stored for p, and no other pointer's; no span, log or round changes, nor who was seen clear
pub record StoresAway (s : State) (p len : ℕ) (place : Place) (t : State) : Type 0 where
  pub words : (i : ℕ) → i < words_for len → t.stored p i ≡ s.word (addr place + 1 + i)
  pub others : (q : ℕ) → q ≢ p → t.stored q ≡ s.stored q
  pub logs : (t.kind ≡ s.kind) × (t.tail ≡ s.tail) × (t.current ≡ s.current) × (t.starts ≡ s.starts)
  pub round : t.round ≡ s.round
  pub clear : t.clear ≡ s.clear

abbrev pub evicts_row : State → ℕ → ℕ → ℕ → Place → NamingRow
evicts_row s p new len place = record {
  test = is_quiet_cell s p (read_of (s.cell p));
  after = record s { cell = put s.cell p new; stored = put s.stored p (with_kept s.word s.stored p (addr place + 1) (words_for len)) };
  Legal = IsQuiet s p;
  Reports = StoresAway s p len place;
}

abbrev pub evicts_change : ℕ → Change
evicts_change p = GoesFar p
