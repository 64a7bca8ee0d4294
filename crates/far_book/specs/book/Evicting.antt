-- What an eviction asks and learns, and what it leaves.
use Rattle.std.specs.Prelude.{◌≡◌, ◌≢◌, ℕ, ◌+◌, ◌*◌, ◌<◌, ◌≤◌, true, false, Some}
use Rattle.far_word.specs.declared.mark.Marks.{Marks}
use Rattle.far_word.specs.declared.pointer.Place.{Place}
use Rattle.far_word.specs.declared.pointer.PtrWord.TheVariants.{Near, Far}
use Rattle.far_word.specs.declared.sizes.TheConstants.{LOG_WORDS, LONGEST}
use Rattle.far_word.specs.Pointer.{read_of}
use Rattle.far_word.specs.Sizes.{words_for}
use Rattle.far_events.specs.events.Naming.{is_dropped, no_marks}
use Rattle.far_events.specs.state.State.{State, addr}
use Rattle.far_hand.specs.Known.{IsKnown, IsPaddedAt, KeepsKnown}
use Rattle.far_hand.specs.Quiet.{IsQuietAt, is_quiet}
use Rattle.far_book.specs.book.Effects.{evicted}

-- p's object is near at this place, with this length and data structure, and quiet
pub record IsQuietIn (s : State) (p len ds : ℕ) (place : Place) : Type 0 where
  pub marks : Marks
  pub near : read_of (s.cell p) ≡ Some (Near len ds place marks)
  pub quiet : is_quiet s.round s.clear p place marks ≡ true

-- the words behind a place are the data words of a quiet object of this length
pub record IsQuietData (s : State) (len : ℕ) (place : Place) : Type 0 where
  pub most : len ≤ LONGEST
  pub log : place.log < s.logs
  pub inside : place.at + words_for len < LOG_WORDS
  pub quiet : (i : ℕ) → i < words_for len → IsQuietAt s (addr place + 1 + i)
  pub bare : (i : ℕ) → i < words_for len → s.starts (addr place + 1 + i) ≡ false

-- the first n words behind a place are known now; what was known of them stays, and every other word
pub record Learns (s : State) (word : ℕ → ℕ) (place : Place) (n : ℕ) : Type 0 where
  pub known : (i : ℕ) → i < n → IsKnown (word (addr place + 1 + i))
  pub same : (i : ℕ) → i < n → IsKnown (s.word (addr place + 1 + i)) → word (addr place + 1 + i) ≡ s.word (addr place + 1 + i)
  pub padded : (i : ℕ) → i < n → IsPaddedAt s (addr place + 1 + i) (word (addr place + 1 + i))
  pub others : (a : ℕ) → ((i : ℕ) → i < n → a ≢ addr place + 1 + i) → word a ≡ s.word a

-- from s to t p's object has gone far, in a state as far as it is known: what is stored are words that it had;
-- its owner hadn't asked for it to be dropped, and its cell says far, without marks
pub record GoesFar (s t : State) (p : ℕ) : Type 0 where
  pub alive : is_dropped (read_of (s.cell p)) ≡ false
  pub far : (len ds : ℕ) × (read_of (t.cell p) ≡ Some (Far len ds no_marks))
  pub leads : t ≡ record (evicted s p) { word = t.word; stored = t.stored }
  pub stored : (len ds : ℕ) (place : Place) (marks : Marks) → read_of (s.cell p) ≡ Some (Near len ds place marks) → (i : ℕ) → i < words_for len →
      IsKnown (t.stored p i) × (IsKnown (s.word (addr place + 1 + i)) → t.stored p i ≡ s.word (addr place + 1 + i))
  pub others : (q : ℕ) → q ≢ p → t.stored q ≡ s.stored q
  pub keeps : KeepsKnown s t
