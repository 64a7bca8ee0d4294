-- Words in a row that one call reads, writes or copies: each is read or written by an event of its own, one after the other.
use Rattle.std.specs.Prelude.{◌≡◌, ◌≢◌, ◌+◌, ◌*◌, ◌^◌, ◌<◌, ◌≤◌, ℕ, Bool, zero, suc, false, true, List, take}
use Rattle.far_word.specs.declared.pointer.Place.{Place}
use Rattle.far_word.specs.declared.sizes.TheConstants.{LOG_WORDS}
use Rattle.far_word.specs.Bytes.{bytes_of}
use Rattle.far_events.specs.declared.event.Event.{Event}
use Rattle.far_events.specs.declared.event.Event.TheVariants.{Get, Put}
use Rattle.far_events.specs.declared.event.Kind.TheVariants.{Sealed}
use Rattle.far_events.specs.declared.event.Reply.{Reply}
use Rattle.far_events.specs.declared.event.Reply.TheVariants.{Done, Word}
use Rattle.far_events.specs.events.Step.{after}
use Rattle.far_events.specs.state.State.{State, put}
use Rattle.far_hand.specs.Known.{Forgets, IsKnown, IsPaddedAt}
use Rattle.far_hand.specs.Quiet.{IsQuietAt}

-- so many words from one on lie in a log
abbrev pub IsWithin : State → ℕ → ℕ → ℕ → Type 0
IsWithin s l at count = (l < s.logs) × (at + count ≤ LOG_WORDS)

-- so many words from one on lie in a log that isn't sealed, at or past its tail
abbrev pub IsPast : State → ℕ → ℕ → ℕ → Type 0
IsPast s l at count = (l < s.logs) × (s.kind l ≢ Sealed) × (s.tail l ≤ at) × (at + count ≤ LOG_WORDS)

-- what a word that was read tells: from the view o to the view v
pub record Gets (o v : State) (l at : ℕ) (free : Bool) (w : ℕ) : Type 0 where
  pub known : IsKnown (o.word (l * LOG_WORDS + at)) → w ≡ o.word (l * LOG_WORDS + at)
  pub padding : IsPaddedAt o (l * LOG_WORDS + at) w
  pub read : free ≡ false → IsQuietAt o (l * LOG_WORDS + at) → v ≡ record o { word = put o.word (l * LOG_WORDS + at) w }
  pub kept : free ≡ false → IsKnown (o.word (l * LOG_WORDS + at)) → v ≡ o
  pub unread : free ≡ false → ¬ IsQuietAt o (l * LOG_WORDS + at) → v ≡ o
  pub here : free ≡ false → IsKnown (v.word (l * LOG_WORDS + at)) → v.word (l * LOG_WORDS + at) ≡ w
  pub others : free ≡ false → (a : ℕ) → a ≢ l * LOG_WORDS + at → v.word a ≡ o.word a
  pub forgot : free ≡ true → Forgets o v
  pub rest : v ≡ record (after o (Get l at free)) { word = v.word }

module _ {S : Type 0} where
  -- n steps, numbered from i on, lead from s to t, one after the other
  abbrev pub InTurn : (ℕ → S → S → Type 0) → ℕ → ℕ → S → S → Type 0
  InTurn step i zero s t = t ≡ s
  InTurn step i (suc n) s t = (u : S) × InTurn step i n s u × step (i + n) u t

  module _ (still : Type 0) (view : S → State) (makes : S → Event → Reply → S → Type 0) where
    -- one call read this word of a log, which is w
    pub record ReadsWord (l at w : ℕ) (s t : S) : Type 0 where
      pub fits : w < 2 ^ 64
      pub gets : Gets (view s) (view t) l at false w
      pub exact : still → w ≡ (view s).word (l * LOG_WORDS + at)
      pub same : still → view t ≡ view s
      pub made : makes s (Get l at false) (Word w) t

    -- one call wrote w to this word of a log
    pub record WritesWord (l at w : ℕ) (s t : S) : Type 0 where
      pub set : view t ≡ record (view s) { word = put (view s).word (l * LOG_WORDS + at) w }
      pub made : makes s (Put l at w) Done t

    -- data word i behind one place was read, and written behind another
    pub record CopiesWord (from to : Place) (i : ℕ) (s t : S) : Type 0 where
      pub middle : S
      pub word : ℕ
      pub read : ReadsWord from.log (from.at + 1 + i) word s middle
      pub wrote : WritesWord to.log (to.at + 1 + i) word middle t

    -- n words of a log, from one on, were read so, and are those of a row
    abbrev pub ReadsRow : ℕ → ℕ → (ℕ → ℕ) → ℕ → ℕ → S → S → Type 0
    ReadsRow l at row = InTurn (λ i. ReadsWord l (at + i) (row i))

    -- n words of a log, from one on, were read so, and their bytes stand in front of a row
    abbrev pub HasRead : ℕ → ℕ → S → S → ℕ → List ℕ → Type 0
    HasRead l at s t n row = (word : ℕ → ℕ) × ReadsRow l at word 0 n s t × (take (8 * n) row ≡ bytes_of word (8 * n))

    -- n words of a log, from one on, were written so, and are those of a row
    abbrev pub WritesRow : ℕ → ℕ → (ℕ → ℕ) → ℕ → ℕ → S → S → Type 0
    WritesRow l at row = InTurn (λ i. WritesWord l (at + i) (row i))

    -- n data words were copied so
    abbrev pub CopiesRow : Place → Place → ℕ → ℕ → S → S → Type 0
    CopiesRow from to = InTurn (CopiesWord from to)
