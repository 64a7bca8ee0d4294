-- What it is to convert an image of a log: the image of version 2 with the same objects.
use Rattle.std.specs.Prelude.{◌≡◌, ℕ, ◌+◌, ◌*◌, ◌/◌, ◌%◌, ◌<◌, List, All, map}
use Rattle.far_word.specs.Header.{cells, head_word, version_of}
use Rattle.far_word.specs.Sizes.{words_for}
use Rattle.far_word.specs.declared.sizes.TheConstants.{CELLS}
use Rattle.far_word.specs.declared.version.Version.{Version}
use Rattle.far_word.specs.declared.version.Version.TheVariants.{Second}
use Rattle.far_log.specs.declared.span.Span.{Span}
use Rattle.far_log.specs.Walk.{IsImage, IsWalk}

-- the number here of a pointer of a version: the same cell of the same mutator
abbrev pub renumbered : Version → ℕ → ℕ
renumbered v p = p / cells v * CELLS + p % cells v

-- what becomes of a span: its place, its length and its data structure stay
abbrev pub renewed : Version → Span → Span
renewed v span = record { at = span.at; p = renumbered v span.p; len = span.len; ds = span.ds }

-- the data words of a span are the same
abbrev pub SameData : (ℕ → ℕ) → (ℕ → ℕ) → Span → Type 0
SameData word new span = (i : ℕ) → i < words_for span.len → new (span.at + 1 + i) ≡ word (span.at + 1 + i)

-- new words are the version 2 image of an image: the same spans, with their pointers renumbered, and the same data
pub record IsConverted (word new : ℕ → ℕ) (tail : ℕ) : Type 0 where
  pub spans : List Span
  pub old : IsImage word tail spans
  pub new_spans : IsWalk new tail (map (renewed (version_of (word 0))) spans)
  pub same_data : All (SameData word new) spans
  pub copied : version_of (word 0) ≡ Second → (i : ℕ) → i < tail → new i ≡ word i

-- a span's header is written anew, its data words are the same
pub record IsRenewed (v : Version) (word new : ℕ → ℕ) (span : Span) : Type 0 where
  pub header : new span.at ≡ head_word (renumbered v span.p) span.len span.ds
  pub same_data : SameData word new span
