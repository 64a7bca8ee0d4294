-- What holds of the words of any log: one list of spans or a first bad word, each word in one span, bytes that add up.
use Rattle.std.specs.Prelude.{◌≡◌, ℕ, ◌+◌, ◌-◌, ◌*◌, ◌/◌, ◌%◌, ◌^◌, ◌<◌, ◌≤◌, ◌↔◌, ◌⊎◌, Bool, not, Option, Some, None, List, Contains, map}
use Rattle.std.specs.List.{filter, sum_by}
use Rattle.far_word.specs.declared.header.HeadWord.{HeadWord}
use Rattle.far_word.specs.declared.version.Version.{Version}
use Rattle.far_word.specs.declared.version.Version.TheVariants.{First, Second}
use Rattle.far_word.specs.Header.{header_in, version_of}
use Rattle.far_word.specs.Mark.{field}
use Rattle.far_word.specs.Sizes.{bytes_taken, size_of}
use Rattle.far_log.specs.declared.span.Span.{Span}
use Rattle.far_log.specs.Convert.{IsConverted, renewed, renumbered}
use Rattle.far_log.specs.Spans.{StandsBy, HasOneSpan, HasNoSpan, HoldsBytes, taken_by}
use Rattle.far_log.specs.Walk.{IsImage, IsWalkBy, FirstBad, end_for, image_spans}

-- the words below a tail have at most one list of spans
abbrev pub WalksAreOne : Type 0
WalksAreOne = (word : ℕ → ℕ) (tail : ℕ) (spans others : List Span) → IsImage word tail spans → IsImage word tail others → spans ≡ others

-- words of 64 bits have a list of spans or a first bad word
abbrev pub WalksOrBad : Type 0
WalksOrBad = (word : ℕ → ℕ) (tail : ℕ) → ((i : ℕ) → word i < 2 ^ 64) →
    ((spans : List Span) × IsImage word tail spans) ⊎ ((at w : ℕ) × FirstBad word tail at w)

-- and never both
abbrev pub NeverBoth : Type 0
NeverBoth = (word : ℕ → ℕ) (tail at w : ℕ) (spans : List Span) → IsImage word tail spans → ¬ FirstBad word tail at w

-- the first bad word is one, and stands below the tail
abbrev pub FirstBadIsOne : Type 0
FirstBadIsOne = (word : ℕ → ℕ) (tail at w : ℕ) → FirstBad word tail at w →
    (at < tail) × (w ≡ word at) × ((a v : ℕ) → FirstBad word tail a v → (a ≡ at) × (v ≡ w))

-- the list of spans is the one that the headers spell
abbrev pub SpansAreListed : Type 0
SpansAreListed = (word : ℕ → ℕ) (tail : ℕ) (spans : List Span) → IsImage word tail spans → image_spans word tail ≡ spans

-- a list of spans in either version is one of the version that the first word says
abbrev pub SpansSayVersion : Type 0
SpansSayVersion = (v : Version) (word : ℕ → ℕ) (tail : ℕ) (spans : List Span) → IsWalkBy v word tail spans →
    IsImage word tail spans × (0 < tail → version_of (word 0) ≡ v)

-- a log has 512 words, and 128 where its first header has the top byte a1: no span goes past its end
abbrev pub ImagesAreShort : Type 0
ImagesAreShort = (word : ℕ → ℕ) (tail : ℕ) (spans : List Span) → IsImage word tail spans → (tail ≤ 512) × (field (word 0) 56 8 ≡ 0xa1 → tail ≤ 128)

-- words past the tail change no list of spans
abbrev pub TailEndsWalk : Type 0
TailEndsWalk = (word other : ℕ → ℕ) (tail : ℕ) (spans : List Span) → ((i : ℕ) → i < tail → other i ≡ word i) → IsImage word tail spans → IsImage other tail spans

-- words behind the first bad one don't mend it
abbrev pub BadEndsWalk : Type 0
BadEndsWalk = (word other : ℕ → ℕ) (tail at w : ℕ) → ((i : ℕ) → i ≤ at → other i ≡ word i) → FirstBad word tail at w → FirstBad other tail at w

-- ---- the first bad word again, by what words behind it could make of it

-- the words up to i, with others behind them, make a log whose spans go through word i and end at the tail or before it
pub record CanBegin (word : ℕ → ℕ) (tail i : ℕ) : Type 0 where
  pub other : ℕ → ℕ
  pub fits : (j : ℕ) → other j < 2 ^ 64
  pub same : (j : ℕ) → j ≤ i → other j ≡ word j
  pub end : ℕ
  pub through : i < end
  pub inside : end ≤ tail
  pub spans : List Span
  pub walk : IsImage other end spans

-- a word is the first bad one exactly where nothing behind it could mend it, while any earlier word could still be a log's
abbrev pub BadIsFirst : Type 0
BadIsFirst = (word : ℕ → ℕ) (tail at w : ℕ) → ((i : ℕ) → word i < 2 ^ 64) →
    FirstBad word tail at w ↔ ((at < tail) × (w ≡ word at) × (¬ CanBegin word tail at) × ((i : ℕ) → i < at → CanBegin word tail i))

-- what a word says as a header of the image's version
abbrev pub said_at : (ℕ → ℕ) → ℕ → Option HeadWord
said_at word at = header_in (version_of (word 0)) (word at)

-- where the image's spans end, at the latest
abbrev pub end_of : (ℕ → ℕ) → ℕ → ℕ
end_of word tail = end_for (version_of (word 0)) tail

-- no header is read where a span would begin: that word is bad
abbrev pub ReadsNone : (ℕ → ℕ) → ℕ → ℕ → Type 0
ReadsNone word begin at = (at ≡ begin) × (said_at word at ≡ None)

-- a header is read there, of more bytes than the words behind it hold up to the end: the header is bad
abbrev pub ReadsTooLong : (ℕ → ℕ) → ℕ → ℕ → ℕ → Type 0
ReadsTooLong word tail begin at = (at ≡ begin) × ((h : HeadWord) × (said_at word at ≡ Some h) × (8 * (end_of word tail - 1 - at) < h.len))

-- a header is read there whose bytes lie below the end, and the word with the last of them says something behind it: that word is bad
abbrev pub ReadsMore : (ℕ → ℕ) → ℕ → ℕ → ℕ → Type 0
ReadsMore word tail begin at = (h : HeadWord) × (said_at word begin ≡ Some h) × (at ≡ begin + 1 + (h.len - 1) / 8) × (at < end_of word tail)
    × (2 ^ (8 * ((h.len - 1) % 8 + 1)) ≤ word at)

-- the first bad word by what is read: the headers spell spans that end where another would begin, and one of three things is so there
abbrev pub BadIsRead : Type 0
BadIsRead = (word : ℕ → ℕ) (tail at w : ℕ) → ((i : ℕ) → word i < 2 ^ 64) →
    FirstBad word tail at w ↔ ((w ≡ word at) × ((begin : ℕ) × (begin < tail) × IsImage word begin (image_spans word begin)
    × (ReadsNone word begin at ⊎ (ReadsTooLong word tail begin at ⊎ ReadsMore word tail begin at))))

-- ---- converting
-- what is converted has the same spans, with their pointers renumbered
abbrev pub ConvertedWalks : Type 0
ConvertedWalks = (word new : ℕ → ℕ) (tail : ℕ) (spans : List Span) → IsConverted word new tail → IsImage word tail spans →
    IsImage new tail (map (renewed (version_of (word 0))) spans)

-- and below the tail no two different images are that
abbrev pub ConvertedIsOne : Type 0
ConvertedIsOne = (word new other : ℕ → ℕ) (tail : ℕ) → IsConverted word new tail → IsConverted word other tail → (i : ℕ) → i < tail → new i ≡ other i

-- a header of version 1 becomes the word of one that says the same, but for the pointer's number; each word behind a header stays, and so does all of an image of version 2
pub record ConvertedSays (word new : ℕ → ℕ) (tail : ℕ) (spans : List Span) : Type 0 where
  pub headers : field (word 0) 56 8 ≡ 0xa1 → (span : Span) → Contains spans span →
      new span.at ≡ span.len + span.ds * 2 ^ 24 + (span.p / 128 * 256 + span.p % 128) * 2 ^ 32 + 0xa2 * 2 ^ 56
  pub behind : (span : Span) → Contains spans span → (i : ℕ) → span.at < i → i < span.at + size_of span.len → new i ≡ word i
  pub copied : field (word 0) 56 8 ≡ 0xa2 → (i : ℕ) → i < tail → new i ≡ word i

abbrev pub ConvertedIsSaid : Type 0
ConvertedIsSaid = (word new : ℕ → ℕ) (tail : ℕ) (spans : List Span) → IsConverted word new tail → IsImage word tail spans → ConvertedSays word new tail spans

-- version 1 has 128 cells a mutator, this heap 256
pub record PointersAreRenumbered : Type 0 where
  pub first : (m k : ℕ) → k < 128 → renumbered First (128 * m + k) ≡ 256 * m + k
  pub second : (p : ℕ) → renumbered Second p ≡ p

-- ---- words and bytes
-- a word below the tail is header or data of exactly one span
abbrev pub WordsHaveOneSpan : Type 0
WordsHaveOneSpan = (word : ℕ → ℕ) (tail : ℕ) (spans : List Span) → IsImage word tail spans → (i : ℕ) → i < tail → HasOneSpan spans i

-- a word at or past the tail is a word of none
abbrev pub WordsPastHaveNone : Type 0
WordsPastHaveNone = (word : ℕ → ℕ) (tail : ℕ) (spans : List Span) → IsImage word tail spans → (i : ℕ) → tail ≤ i → HasNoSpan spans i

-- a span stands exactly where its header and its bytes are read so
abbrev pub SpansHoldBytes : Type 0
SpansHoldBytes = (v : Version) (word : ℕ → ℕ) (span : Span) → ((i : ℕ) → word i < 2 ^ 64) → StandsBy v word span ↔ HoldsBytes v word span

-- the spans that pass a test and those that don't take all bytes below the tail
abbrev pub SpansTakeAll : Type 0
SpansTakeAll = (word : ℕ → ℕ) (tail : ℕ) (spans : List Span) → IsImage word tail spans → (test : Span → Bool) →
    taken_by test spans + taken_by (λ span. not (test span)) spans ≡ 8 * tail

-- what the spans that pass a test take is a sum over them
abbrev pub TakenIsSum : Type 0
TakenIsSum = (test : Span → Bool) (spans : List Span) → taken_by test spans ≡ sum_by (λ (span : Span). bytes_taken span.len) (filter test spans)
