-- A span: the words of one object in its log, a header and the data words behind it; and lists of spans that follow each other.
use Rattle.std.specs.Prelude.{◌≡◌, ℕ, ◌+◌, ◌-◌, ◌*◌, ◌^◌, ◌<◌, ◌≤◌, Bool, cond, nat_lt, Option, Some, None, List, [], ◌∷◌, Contains, if◌then◌else◌, zero, suc}
use Rattle.far_word.specs.declared.header.HeadWord.{HeadWord}
use Rattle.far_word.specs.declared.version.Version.{Version}
use Rattle.far_word.specs.declared.version.Version.TheVariants.{Second}
use Rattle.far_word.specs.Bytes.{bytes_of, packed_word}
use Rattle.far_word.specs.Header.{IsHeadOf, head_of, header_in, word_by}
use Rattle.far_word.specs.Sizes.{size_of, words_for, bytes_taken}
use Rattle.far_log.specs.declared.span.Span.{Span}

-- the header that a span has
abbrev pub header_of : Span → HeadWord
header_of span = record { pointer = span.p; len = span.len; ds = span.ds }

-- the word at a span's place is its header's, and lies on the layout of a version
pub record HasHeader (v : Version) (word : ℕ → ℕ) (span : Span) : Type 0 where
  pub layout : IsHeadOf v span.p span.len span.ds
  pub header : word span.at ≡ word_by v span.p span.len span.ds

-- the data words of a span have zeros behind its last byte
abbrev pub IsPadded : (ℕ → ℕ) → Span → Type 0
IsPadded word span = (i : ℕ) → i < words_for span.len → word (span.at + 1 + i) < 2 ^ (8 * (span.len - 8 * i))

-- a span stands at its place in the words of an image of a version
pub record StandsBy (v : Version) (word : ℕ → ℕ) (span : Span) : Type 0 where
  pub header : HasHeader v word span
  pub padding : IsPadded word span

-- in the words of a log of this heap
abbrev pub Stands : (ℕ → ℕ) → Span → Type 0
Stands = StandsBy Second

-- the spans follow each other from at on and end at the tail
abbrev pub Tile : ℕ → List Span → ℕ → Type 0
Tile at [] tail = at ≡ tail
Tile at (span ∷ spans) tail = (span.at ≡ at) × Tile (at + size_of span.len) spans tail

-- word i of a log is a word of this span, its header or its data
abbrev pub IsWordOf : ℕ → Span → Type 0
IsWordOf i span = (span.at ≤ i) × (i < span.at + size_of span.len)

-- word i is a word of exactly one of the spans
abbrev pub HasOneSpan : List Span → ℕ → Type 0
HasOneSpan spans i = (span : Span) × Contains spans span × IsWordOf i span
    × ((other : Span) → Contains spans other → IsWordOf i other → other ≡ span)

-- word i is a word of none
abbrev pub HasNoSpan : List Span → ℕ → Type 0
HasNoSpan spans i = (span : Span) → Contains spans span → ¬ IsWordOf i span

-- the header of a span is read as it says, and its data words are those that its bytes pack into
abbrev pub HoldsBytes : Version → (ℕ → ℕ) → Span → Type 0
HoldsBytes v word span = (header_in v (word span.at) ≡ Some (header_of span))
    × ((i : ℕ) → i < words_for span.len → packed_word (bytes_of (λ k. word (span.at + 1 + k)) span.len) i ≡ word (span.at + 1 + i))

-- ---- the list that the headers spell

-- what a header word says, 0 where it is no header
abbrev pub pointer_in : Option HeadWord → ℕ
pointer_in None = 0
pointer_in (Some h) = h.pointer

abbrev pub len_in : Option HeadWord → ℕ
len_in None = 0
len_in (Some h) = h.len

abbrev pub ds_in : Option HeadWord → ℕ
ds_in None = 0
ds_in (Some h) = h.ds

-- the span whose header is the word at a place
abbrev pub span_by : Version → (ℕ → ℕ) → ℕ → Span
span_by v word at = record { at = at; p = pointer_in (header_in v (word at)); len = len_in (header_in v (word at)); ds = ds_in (header_in v (word at)) }

-- the spans from at on, up to the tail; each takes a word at least, so the fuel is what is left
abbrev pub spans_by : Version → (ℕ → ℕ) → ℕ → ℕ → ℕ → List Span
spans_by v word tail at zero = []
spans_by v word tail at (suc fuel) = if nat_lt at tail then span_by v word at ∷ spans_by v word tail (at + size_of (len_in (header_in v (word at)))) fuel else []

-- those of a log of this heap
abbrev pub head_len : ℕ → ℕ
head_len w = len_in (head_of w)

abbrev pub span_at : (ℕ → ℕ) → ℕ → Span
span_at = span_by Second

abbrev pub spans_from : (ℕ → ℕ) → ℕ → ℕ → ℕ → List Span
spans_from = spans_by Second

-- the spans of a log
unfoldable pub spans_in : (ℕ → ℕ) → ℕ → List Span
spans_in word tail = spans_from word tail 0 tail

-- what some spans take in bytes, counting those alone that pass a test
abbrev pub taken_by : (Span → Bool) → List Span → ℕ
taken_by test [] = 0
taken_by test (span ∷ spans) = cond (test span) (bytes_taken span.len) 0 + taken_by test spans
