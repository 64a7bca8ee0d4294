-- What a word of a log is read as, while owners store into their objects.
use Rattle.std.specs.Prelude.{◌≡◌, ℕ, true}
use Rattle.far_events.specs.state.State.{State}
use Rattle.far_hand.specs.Known.{IsKnown, IsPaddedAt}

-- the header of each span is known
abbrev pub HeadersKnown : State → Type 0
HeadersKnown s = (a : ℕ) → s.starts a ≡ true → IsKnown (s.word a)

-- a header is read as it stands, and a data word with the padding of its span
pub record IsReadAt (s : State) (a word : ℕ) : Type 0 where
  pub header : s.starts a ≡ true → word ≡ s.word a
  pub padding : IsPaddedAt s a word
