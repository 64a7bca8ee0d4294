-- The header word of an object, in two versions: its layout, the one word of a header, and what a word says.
use Rattle.std.specs.Prelude.{ℕ, ◌+◌, ◌*◌, ◌^◌, ◌<◌, ◌≤◌, Bool, ◌&&◌, ◌==◌, nat_lt, nat_le, Option, Some, None, if◌then◌else◌}
use Rattle.far_word.specs.declared.header.HeadWord.{HeadWord}
use Rattle.far_word.specs.declared.header.HeadWordV1.{HeadWordV1}
use Rattle.far_word.specs.declared.version.Version.{Version}
use Rattle.far_word.specs.declared.version.Version.TheVariants.{First, Second}
use Rattle.far_word.specs.declared.sizes.TheConstants.{CELLS, LOG_WORDS, LONGEST, POINTERS}
use Rattle.far_word.specs.Mark.{field}

-- ---- what the versions differ in
-- the bits of the length, which is lowest; the 8 of the data structure stand behind it, and then the pointer's, up to bit 55
abbrev pub len_bits : Version → ℕ
len_bits First = 16
len_bits Second = 24

abbrev pub pointer_low : Version → ℕ
pointer_low First = 24
pointer_low Second = 32

abbrev pub pointer_bits : Version → ℕ
pointer_bits First = 32
pointer_bits Second = 24

-- the highest byte
abbrev pub top_byte : Version → ℕ
top_byte First = 0xa1
top_byte Second = 0xa2

abbrev pub longest : Version → ℕ
longest First = 1016
longest Second = LONGEST

abbrev pub pointers : Version → ℕ
pointers First = 1024
pointers Second = POINTERS

abbrev pub log_words : Version → ℕ
log_words First = 128
log_words Second = LOG_WORDS

abbrev pub cells : Version → ℕ
cells First = 128
cells Second = CELLS

-- ---- headers of a version
-- a header that lies on the layout
pub record IsHeadOf (v : Version) (pointer len ds : ℕ) : Type 0 where
  pub some : 0 < len
  pub most : len ≤ longest v
  pub structure : ds < 256
  pub cell : pointer < pointers v

-- the fields of a word
abbrev pub len_in : Version → ℕ → ℕ
len_in v w = field w 0 (len_bits v)

abbrev pub ds_in : Version → ℕ → ℕ
ds_in v w = field w (len_bits v) 8

abbrev pub pointer_in : Version → ℕ → ℕ
pointer_in v w = field w (pointer_low v) (pointer_bits v)

abbrev pub version_in : ℕ → ℕ
version_in w = field w 56 8

-- the one word of a header: length, data structure, pointer number, the version
abbrev pub word_by : Version → ℕ → ℕ → ℕ → ℕ
word_by v pointer len ds = len + ds * 2 ^ len_bits v + pointer * 2 ^ pointer_low v + top_byte v * 2 ^ 56

-- the test by which a word is read
abbrev pub fits_version : Version → ℕ → ℕ → ℕ → Bool
fits_version v w pointer len = (version_in w == top_byte v) && nat_lt 0 len && nat_le len (longest v) && nat_lt pointer (pointers v)

abbrev pub is_head : Version → ℕ → Bool
is_head v w = fits_version v w (pointer_in v w) (len_in v w)

-- the version that the first word of an image says
abbrev pub version_of : ℕ → Version
version_of w = if version_in w == top_byte First then First else Second

-- ---- the headers of this heap: version 2
abbrev pub IsHead : HeadWord → Type 0
IsHead h = IsHeadOf Second h.pointer h.len h.ds

abbrev pub head_word : ℕ → ℕ → ℕ → ℕ
head_word pointer len ds = word_by Second pointer len ds

-- what a word says; None off the layout
unfoldable pub head_of : ℕ → Option HeadWord
head_of w = if is_head Second w then Some record { pointer = pointer_in Second w; len = len_in Second w; ds = ds_in Second w } else None

-- ---- those of version 1
unfoldable pub head_of_v1 : ℕ → Option HeadWordV1
head_of_v1 w = if is_head First w then Some record { pointer = pointer_in First w; len = len_in First w; ds = ds_in First w } else None

-- the same pointer, length and data structure
abbrev pub as_said : Option HeadWordV1 → Option HeadWord
as_said None = None
as_said (Some h) = Some record { pointer = h.pointer; len = h.len; ds = h.ds }

-- what a word says as a header of a version
abbrev pub header_in : Version → ℕ → Option HeadWord
header_in First w = as_said (head_of_v1 w)
header_in Second w = head_of w
