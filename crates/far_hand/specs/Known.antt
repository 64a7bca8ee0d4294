-- Which words of the logs a hand knows. What it doesn't know stands in its view as a number that no word is.
use Rattle.std.specs.Prelude.{◌≡◌, ◌+◌, ◌-◌, ◌*◌, ◌^◌, ◌<◌, ◌≢◌, ℕ, true, false}
use Rattle.far_word.specs.Sizes.{words_for}
use Rattle.far_log.specs.Spans.{head_len}
use Rattle.far_word.specs.Pointer.{read_of}
use Rattle.far_word.specs.declared.pointer.Place.{Place}
use Rattle.far_events.specs.declared.naming.Naming.TheVariants.{Evicts}
use Rattle.far_events.specs.events.Naming.{IsNaming}
use Rattle.far_events.specs.declared.event.Event.TheVariants.{Name}
use Rattle.far_events.specs.events.Step.{after}
use Rattle.far_events.specs.state.Law.{IsStored, is_dirty}
use Rattle.far_events.specs.state.State.{State, addr}

-- what stands in a view at an address of which nothing is known: no word, and another number at each address, so that two
-- unknown words are never said to be equal
abbrev pub unknown : ℕ → ℕ
unknown a = a + 2 ^ 64

-- a word of a view that is known
abbrev pub IsKnown : ℕ → Type 0
IsKnown word = word < 2 ^ 64

-- from s to t some words may have been forgotten; no known word is another, and no header of a span was forgotten
pub record Forgets (s t : State) : Type 0 where
  pub known : (a : ℕ) → IsKnown (t.word a) → t.word a ≡ s.word a
  pub headers : (a : ℕ) → t.starts a ≡ true → t.word a ≡ s.word a

-- from s to t words were learned and forgotten, and no known word is another; the header of each span is known as it was
pub record KeepsKnown (s t : State) : Type 0 where
  pub known : (a : ℕ) → IsKnown (s.word a) → IsKnown (t.word a) → t.word a ≡ s.word a
  pub headers : (a : ℕ) → t.starts a ≡ true → t.word a ≡ s.word a

-- a word that was read at an address, if it is a data word of a span, has zeros after the object's last byte
abbrev pub IsPaddedAt : State → ℕ → ℕ → Type 0
IsPaddedAt s a word = (b i : ℕ) → s.starts b ≡ true → i < words_for (head_len (s.word b)) → a ≡ b + 1 + i →
    word < 2 ^ (8 * (head_len (s.word b) - 8 * i))

-- the data words of an object with DIRTY that a naming sends far are known; of one without none needs to be
abbrev pub KnowsLeaving : State → ℕ → ℕ → Type 0
KnowsLeaving s old new = (len : ℕ) (place : Place) → IsNaming (Evicts len place) (read_of old) (read_of new) → is_dirty (read_of old) ≡ true → (i : ℕ) → i < words_for len → IsKnown (s.word (addr place + 1 + i))

-- what is stored once a naming led from s to t: what its event stores, where it sends no object without DIRTY far. Of such a one it is words of its length, those
-- that were known among them; and where the far side is honest, what was stored of it before
pub record StoresLeaving (s t : State) (p old new : ℕ) : Type 0 where
  pub kept : ((len : ℕ) (place : Place) → IsNaming (Evicts len place) (read_of old) (read_of new) → is_dirty (read_of old) ≡ true) → t.stored ≡ (after s (Name p old new)).stored
  pub others : (q : ℕ) → q ≢ p → t.stored q ≡ s.stored q
  pub fits : (len : ℕ) (place : Place) → IsNaming (Evicts len place) (read_of old) (read_of new) → IsStored (t.stored p) len
  pub own : (len : ℕ) (place : Place) → IsNaming (Evicts len place) (read_of old) (read_of new) → (i : ℕ) → i < words_for len → IsKnown (s.word (addr place + 1 + i)) →
      t.stored p i ≡ s.word (addr place + 1 + i)
  pub same : s.honest ≡ true → (len : ℕ) (place : Place) → IsNaming (Evicts len place) (read_of old) (read_of new) → is_dirty (read_of old) ≡ false → (i : ℕ) → i < words_for len →
      t.stored p i ≡ s.stored p i
