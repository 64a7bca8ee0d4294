-- A cell gets a new word while owners add marks to it.
use Rattle.std.specs.Prelude.{◌≡◌, ◌&&◌, ◌||◌, ℕ, ◌^◌, ◌<◌, Bool, true, false, not, Option, Result, IfOk, IfErr}
use Rattle.far_word.specs.declared.pointer.Place.{Place}
use Rattle.far_word.specs.declared.pointer.PtrWord.{PtrWord}
use Rattle.far_word.specs.Pointer.{read_of}
use Rattle.far_events.specs.declared.event.Event.{Event}
use Rattle.far_events.specs.declared.event.Event.TheVariants.{Name}
use Rattle.far_events.specs.declared.event.Reply.{Reply}
use Rattle.far_events.specs.declared.event.Reply.TheVariants.{Done}
use Rattle.far_events.specs.events.Legal.{Legal}
use Rattle.far_events.specs.events.Naming.{is_dropped}
use Rattle.far_events.specs.events.Step.{after}
use Rattle.far_events.specs.state.Law.{is_dirty}
use Rattle.far_events.specs.state.State.{State, put}
use Rattle.far_hand.specs.Came.{Came, only}
use Rattle.far_hand.specs.Finds.{Finds}
use Rattle.far_hand.specs.Known.{Forgets, KnowsLeaving, StoresLeaving}
use Rattle.far_book.specs.book.Effects.{near_word}
use Rattle.far_book.specs.book.Only.{Names, NamesNear}

-- the state as it is known once a word was found in a cell
abbrev pub seen : State → ℕ → ℕ → State
seen s p word = record s { cell = put s.cell p word }

-- a word at which a naming by another ends: its owner has dropped the object; or it says DIRTY, as the other didn't, so that the new word may not be
-- right any more
abbrev pub stops : Option PtrWord → Option PtrWord → Bool
stops known found = is_dropped found || (is_dirty found && not (is_dirty known))

-- whatever marks its owner has added to the cell, it may get the new word, unless one of them is DROP or DIRTY
abbrev pub MayRename : State → ℕ → ℕ → Type 0
MayRename s p new = (word : ℕ) → word < 2 ^ 64 → Finds (s.cell p) word → stops (read_of (s.cell p)) (read_of word) ≡ false →
    Legal (seen s p word) (Name p word new) × KnowsLeaving (seen s p word) word new

-- from s to t the cell has got the new word, in place of one that was found there; words may have been forgotten
pub record Renamed (s t : State) (p new : ℕ) : Type 0 where
  pub word : ℕ
  pub found : Finds (s.cell p) word
  pub alive : stops (read_of (s.cell p)) (read_of word) ≡ false
  pub leads : t ≡ record (after (seen s p word) (Name p word new)) { word = t.word; stored = t.stored }
  pub stored : StoresLeaving (seen s p word) t p word new
  pub forgot : Forgets (seen s p word) t

-- one exchange gave the cell the new word, and nothing came after it: the cell had this word until then, which was found there and doesn't end the naming
pub record IsWonBy {N : Type 0} (makes : N → Event → Reply → N → Type 0) (next : N) (p old new : ℕ) : Type 0 where
  pub before : N
  pub word : ℕ
  pub found : Finds old word
  pub goes_on : stops (read_of old) (read_of word) ≡ false
  pub made : makes before (Name p word new) Done next

-- from one hand to another the cell was to get the new word, by the old one or one with marks added. It has got it; or the answer is the word that was
-- found, with DROP, or with DIRTY where the old one had none. Over a hand that is still no mark was added
pub record Renames {N : Type 0} (still : Type 0) (view : N → State) (makes : N → Event → Reply → N → Type 0) (hand next : N) (p old new : ℕ) (result : Result (Unit {0}) ℕ) : Type 0 where
  pub done : IfOk result (λ _. Renamed (view hand) (view next) p new)
  pub set : still → IfOk result (λ _. view next ≡ after (view hand) (Name p old new))
  pub won_by : IfOk result (λ _. IsWonBy makes next p old new)
  pub won : still → IfErr result (λ _. ⊥)
  pub fits : IfErr result (λ word. word < 2 ^ 64)
  pub found : IfErr result (λ word. Finds old word)
  pub stopped : IfErr result (λ word. stops (read_of old) (read_of word) ≡ true)
  pub kept : IfErr result (λ word. view next ≡ seen (view hand) p word)
  pub names : Came (only (Names p new) makes) hand next

-- ---- a near word, which keeps DIRTY
-- whatever marks its owner has added to the cell, DIRTY too, it may get the near word that has DIRTY as it has, unless one of them is DROP
abbrev pub MayRenameNear : State → ℕ → ℕ → ℕ → Place → Type 0
MayRenameNear s p len ds place = (word : ℕ) → word < 2 ^ 64 → Finds (s.cell p) word → is_dropped (read_of word) ≡ false →
    Legal (seen s p word) (Name p word (near_word (is_dirty (read_of word)) len ds place)) × KnowsLeaving (seen s p word) word (near_word (is_dirty (read_of word)) len ds place)

-- from s to t the cell has got the near word that has DIRTY as it was found
pub record RenamedNear (s t : State) (p len ds : ℕ) (place : Place) : Type 0 where
  pub from : ℕ
  pub fits : from < 2 ^ 64
  pub finds : Finds (s.cell p) from
  pub alive : is_dropped (read_of from) ≡ false
  pub named : Renamed (seen s p from) t p (near_word (is_dirty (read_of from)) len ds place)

-- from one hand to another the cell was to get that word. It has got it; or the answer is the word that was found, with DROP. Over a hand that is still no
-- mark was added
pub record RenamesNear {N : Type 0} (still : Type 0) (view : N → State) (makes : N → Event → Reply → N → Type 0) (hand next : N) (p old len ds : ℕ) (place : Place) (result : Result (Unit {0}) ℕ) : Type 0 where
  pub done : IfOk result (λ _. RenamedNear (view hand) (view next) p len ds place)
  pub set : still → IfOk result (λ _. view next ≡ after (view hand) (Name p old (near_word (is_dirty (read_of old)) len ds place)))
  pub won : still → IfErr result (λ _. ⊥)
  pub fits : IfErr result (λ word. word < 2 ^ 64)
  pub found : IfErr result (λ word. Finds old word)
  pub dropped : IfErr result (λ word. is_dropped (read_of word) ≡ true)
  pub kept : IfErr result (λ word. view next ≡ seen (view hand) p word)
  pub names : Came (only (NamesNear p len ds place) makes) hand next
