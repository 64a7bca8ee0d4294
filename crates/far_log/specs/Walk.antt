-- What a walk through the words of a log gives: the spans from word 0 to the tail, or the first word that is bad.
use Rattle.std.specs.Prelude.{◌≡◌, ℕ, ◌+◌, ◌-◌, ◌*◌, ◌^◌, ◌<◌, ◌≤◌, ◌⊎◌, min, List, All}
use Rattle.far_word.specs.Header.{log_words, version_of}
use Rattle.far_word.specs.Sizes.{size_of, words_for}
use Rattle.far_word.specs.declared.version.Version.{Version}
use Rattle.far_word.specs.declared.version.Version.TheVariants.{Second}
use Rattle.far_log.specs.declared.span.Span.{Span}
use Rattle.far_log.specs.declared.walking.WalkFault.{WalkFault}
use Rattle.far_log.specs.declared.walking.WalkFault.TheVariants.{Memory, Bad}
use Rattle.far_log.specs.Spans.{HasHeader, StandsBy, Tile, spans_by}

-- the spans of an image of a version: they follow each other from word 0 to the tail, each stands at its place, and none passes the end of a log
pub record IsWalkBy (v : Version) (word : ℕ → ℕ) (tail : ℕ) (spans : List Span) : Type 0 where
  pub tile : Tile 0 spans tail
  pub stand : All (StandsBy v word) spans
  pub inside : tail ≤ log_words v

-- those of a log of this heap
abbrev pub IsWalk : (ℕ → ℕ) → ℕ → List Span → Type 0
IsWalk = IsWalkBy Second

-- those of an image of the version that its first word says
abbrev pub IsImage : (ℕ → ℕ) → ℕ → List Span → Type 0
IsImage word tail spans = IsWalkBy (version_of (word 0)) word tail spans

-- the list that its headers spell
abbrev pub image_spans : (ℕ → ℕ) → ℕ → List Span
image_spans word tail = spans_by (version_of (word 0)) word tail 0 tail

-- no span goes past the tail, and none past the end of a log
abbrev pub end_for : Version → ℕ → ℕ
end_for v tail = min tail (log_words v)

-- no header is the word at from; that word is the bad one
pub record IsOffLayout (v : Version) (word : ℕ → ℕ) (from at : ℕ) : Type 0 where
  pub none : (span : Span) → span.at ≡ from → ¬ HasHeader v word span
  pub named : at ≡ from

-- the span whose header is the word at from passes the end; that header is the bad word
pub record PassesEnd (v : Version) (word : ℕ → ℕ) (end from at : ℕ) : Type 0 where
  pub span : Span
  pub place : span.at ≡ from
  pub header : HasHeader v word span
  pub past : end < from + size_of span.len
  pub named : at ≡ from  -- the header's place

-- the last data word of an object of so many bytes stays below this, where the bits behind the last byte are zero
abbrev pub last_limit : ℕ → ℕ
last_limit len = 2 ^ (8 * (len - 8 * (words_for len - 1)))

-- the span whose header is the word at from ends at the end or before it, and its last data word is the bad one
pub record IsIllPadded (v : Version) (word : ℕ → ℕ) (end from at : ℕ) : Type 0 where
  pub span : Span
  pub place : span.at ≡ from
  pub header : HasHeader v word span
  pub fits : from + size_of span.len ≤ end
  pub named : at ≡ from + words_for span.len
  pub padding : last_limit span.len ≤ word at

-- no span stands at from and ends at the end or before it: the word at `at` keeps it from that
abbrev pub IsBadSpan : Version → (ℕ → ℕ) → ℕ → ℕ → ℕ → Type 0
IsBadSpan v word end from at = IsOffLayout v word from at ⊎ (PassesEnd v word end from at ⊎ IsIllPadded v word end from at)

-- the first bad word of an image of a version: up to some place below the tail spans follow each other, and none stands there
pub record FirstBadBy (v : Version) (word : ℕ → ℕ) (tail at w : ℕ) : Type 0 where
  pub from : ℕ
  pub spans : List Span
  pub before : IsWalkBy v word from spans
  pub below : from < tail
  pub bad : IsBadSpan v word (end_for v tail) from at
  pub is : w ≡ word at

-- that of an image of the version that its first word says
abbrev pub FirstBad : (ℕ → ℕ) → ℕ → ℕ → ℕ → Type 0
FirstBad word tail at w = FirstBadBy (version_of (word 0)) word tail at w

-- what a fault says: nothing where a growth was refused, else the first bad word
abbrev pub IsFault : (ℕ → ℕ) → ℕ → WalkFault → Type 0
IsFault word tail Memory = Unit {0}
IsFault word tail (Bad bad) = FirstBad word tail bad.at bad.word
