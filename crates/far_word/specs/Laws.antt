-- What holds of every pointer, header, scope and job word, of marks, sizes, refusals, and of bytes in words.
use Rattle.std.specs.Prelude.{◌≡◌, ◌≢◌, ℕ, ◌+◌, ◌-◌, ◌*◌, ◌^◌, ◌<◌, ◌≤◌, Bool, true, false, Some, None, IfSome, bit_or, bit_and, List, [], ◌∷◌, map, length, slice_index}
use Rattle.std.specs.List.{range_with_len}
use Rattle.far_word.specs.Bytes.{bytes_of, words_of, packed_word, with_word}
use Rattle.far_word.specs.Header.{IsHead, IsHeadOf, header_in, head_word, head_of, version_of, word_by}
use Rattle.far_word.specs.Job.{IsJobWord, job_of, job_word}
use Rattle.far_word.specs.Mark.{position}
use Rattle.far_word.specs.Pointer.{IsPtr, word_of, read_of, takes_mark, with_mark, without_evac, without_owner_marks, view_place}
use Rattle.far_word.specs.Refused.{refusal_number}
use Rattle.far_word.specs.Scope.{IsScope, scope_word, scope_of}
use Rattle.far_word.specs.Sizes.{size_of, words_for, bytes_taken}
use Rattle.far_word.specs.declared.header.HeadWord.{HeadWord}
use Rattle.far_word.specs.declared.job.JobWord.{JobWord}
use Rattle.far_word.specs.declared.mark.Mark.{Mark}
use Rattle.far_word.specs.declared.mark.Mark.TheVariants.{Hot, Dirty}
use Rattle.far_word.specs.declared.pointer.Place.{Place}
use Rattle.far_word.specs.declared.mark.Marks.{Marks}
use Rattle.far_word.specs.declared.pointer.PtrWord.{PtrWord}
use Rattle.far_word.specs.declared.pointer.PtrWord.TheVariants.{Free, Near, Far}
use Rattle.far_word.specs.declared.refused.Refused.TheVariants.{Memory, NoRoom, NoPointer, Length, Closed, AlreadyOpen, NotHeld, Range, Held, Device, Damaged, Phase, EpochsSpent, Marked, Shape, Syntax, BadChoice, StillOpen}
use Rattle.far_word.specs.declared.scope.ScopeWord.{ScopeWord}
use Rattle.far_word.specs.declared.sizes.TheConstants.{LONGEST, LOG_WORDS}
use Rattle.far_word.specs.declared.version.Version.{Version}

-- ---- pointer words: a pointer's word is read as that pointer, and what is read of a word has that word
abbrev pub PointersReadBack : Type 0
PointersReadBack = (v : PtrWord) → IsPtr v → (read_of (word_of v) ≡ Some v) × (word_of v < 2 ^ 64)

abbrev pub PointersPackBack : Type 0
PointersPackBack = (w : ℕ) → w < 2 ^ 64 → IfSome (read_of w) (λ v. IsPtr v × (word_of v ≡ w))

-- ---- marks
-- a mark is set by or-ing its bit in
abbrev pub MarkIsSet : Type 0
MarkIsSet = (k : Mark) (v : PtrWord) → IsPtr v → takes_mark k v ≡ true → (bit_or (word_of v) (2 ^ position k) ≡ word_of (with_mark k v)) × IsPtr (with_mark k v)

-- the same, said of a word by what it reads as
abbrev pub MarkIsRead : Type 0
MarkIsRead = (k : Mark) (w : ℕ) (v : PtrWord) → w < 2 ^ 64 → read_of w ≡ Some v → takes_mark k v ≡ true →
    (read_of (bit_or w (2 ^ position k)) ≡ Some (with_mark k v)) × (bit_or w (2 ^ position k) < 2 ^ 64)

-- a mark that a pointer doesn't take would put its word off the layout
abbrev pub MarkIsRefused : Type 0
MarkIsRefused = (k : Mark) (v : PtrWord) → IsPtr v → takes_mark k v ≡ false → read_of (bit_or (word_of v) (2 ^ position k)) ≡ None

-- EVAC is cleared by and-ing its bit out
abbrev pub EvacIsCleared : Type 0
EvacIsCleared = (v : PtrWord) → IsPtr v → (bit_and (word_of v) (2 ^ 64 - 1 - 2 ^ 61) ≡ word_of (without_evac v)) × IsPtr (without_evac v)

-- DROP, MOVE and HOT are cleared by and-ing their bits out
abbrev pub OwnerMarksAreCleared : Type 0
OwnerMarksAreCleared = (v : PtrWord) → IsPtr v →
    (bit_and (word_of v) (2 ^ 64 - 1 - 2 ^ 59 - 2 ^ 60 - 2 ^ 62) ≡ word_of (without_owner_marks v)) × IsPtr (without_owner_marks v)

-- a new view may rest on a near object that has no mark but HOT and DIRTY, and nowhere else
pub record ViewsRest : Type 0 where
  pub near : (len ds : ℕ) (place : Place) (hot dirty : Bool) → view_place (Near len ds place record { hot = hot; evac = false; moved = false; dropped = false; dirty = dirty }) ≡ Some place
  pub marked : (k : Mark) (v : PtrWord) → k ≢ Hot → k ≢ Dirty → view_place (with_mark k v) ≡ None
  pub far : (len ds : ℕ) (marks : Marks) → view_place (Far len ds marks) ≡ None
  pub free : view_place Free ≡ None

-- ---- header words
abbrev pub HeadersReadBack : Type 0
HeadersReadBack = (h : HeadWord) → IsHead h → (head_of (head_word h.pointer h.len h.ds) ≡ Some h) × (head_word h.pointer h.len h.ds < 2 ^ 64)

abbrev pub HeadersPackBack : Type 0
HeadersPackBack = (w : ℕ) → w < 2 ^ 64 → IfSome (head_of w) (λ h. IsHead h × (head_word h.pointer h.len h.ds ≡ w))

-- the same of each version, whose word says it
abbrev pub VersionsReadBack : Type 0
VersionsReadBack = (v : Version) (h : HeadWord) → IsHeadOf v h.pointer h.len h.ds →
    (header_in v (word_by v h.pointer h.len h.ds) ≡ Some h) × (word_by v h.pointer h.len h.ds < 2 ^ 64) × (version_of (word_by v h.pointer h.len h.ds) ≡ v)

abbrev pub VersionsPackBack : Type 0
VersionsPackBack = (v : Version) (w : ℕ) → w < 2 ^ 64 → IfSome (header_in v w) (λ h. IsHeadOf v h.pointer h.len h.ds × (word_by v h.pointer h.len h.ds ≡ w))

-- ---- scope words
abbrev pub ScopesReadBack : Type 0
ScopesReadBack = (s : ScopeWord) → IsScope s → (scope_of (scope_word s) ≡ Some s) × (scope_word s < 2 ^ 63)

abbrev pub ScopesPackBack : Type 0
ScopesPackBack = (w : ℕ) → IfSome (scope_of w) (λ s. IsScope s × (scope_word s ≡ w))

-- ---- job words
abbrev pub JobsReadBack : Type 0
JobsReadBack = (v : JobWord) → IsJobWord v → (job_of (job_word v) ≡ Some v) × (job_word v < 2 ^ 64)

abbrev pub JobsPackBack : Type 0
JobsPackBack = (w : ℕ) → IfSome (job_of w) (λ v. IsJobWord v × (job_word v ≡ w))

-- ---- sizes
-- as few words as hold the bytes, eight to a word
abbrev pub WordsHoldBytes : Type 0
WordsHoldBytes = (n : ℕ) → (n ≤ 8 * words_for n) × (8 * words_for n < n + 8)

-- a header of eight bytes, the data, and less than a word of padding
abbrev pub HeaderIsAdded : Type 0
HeaderIsAdded = (len : ℕ) → (8 + len ≤ bytes_taken len) × (bytes_taken len < 8 + len + 8)

-- an object takes a header and at least one word more, and fits a log
abbrev pub ObjectsFit : Type 0
ObjectsFit = (len : ℕ) → 1 ≤ len → len ≤ LONGEST → (2 ≤ size_of len) × (size_of len ≤ LOG_WORDS)

-- ---- bytes
-- bytes that were packed are unpacked as they were
abbrev pub BytesUnpackBack : Type 0
BytesUnpackBack = (bytes : List ℕ) → ((k : ℕ) → slice_index bytes k < 256) → bytes_of (λ i. slice_index (words_of bytes) i) (length bytes) ≡ bytes

-- words whose padding is zero are packed again as they were
abbrev pub WordsPackBack : Type 0
WordsPackBack = (word : ℕ → ℕ) (n i : ℕ) → i < words_for n → word i < 2 ^ 64 → word i < 2 ^ (8 * (n - 8 * i)) →
    (slice_index (words_of (bytes_of word n)) i ≡ word i) × (packed_word (bytes_of word n) i ≡ word i)

-- bytes that were written over are read as they were written, and all others as they were; each is a byte still
abbrev pub WrittenIsRead : Type 0
WrittenIsRead = (bytes : List ℕ) (i w : ℕ) → ((k : ℕ) → slice_index bytes k < 256) → 8 * i < length bytes → w < 2 ^ 64 → w < 2 ^ (8 * (length bytes - 8 * i)) →
    (packed_word (with_word bytes i w) i ≡ w) × ((j : ℕ) → j ≢ i → packed_word (with_word bytes i w) j ≡ packed_word bytes j)
    × (length (with_word bytes i w) ≡ length bytes) × ((k : ℕ) → slice_index (with_word bytes i w) k < 256)

-- ---- refusals: in this order they are numbered from 1 on
abbrev pub RefusalsAreNumbered : Type 0
RefusalsAreNumbered = (word line log mutator epoch : ℕ) →
    map refusal_number
    (Memory ∷ NoRoom ∷ NoPointer ∷ Length ∷ Closed ∷ AlreadyOpen ∷ NotHeld ∷ Range ∷ Held ∷ Device ∷ Damaged ∷ Phase ∷ EpochsSpent ∷ Marked word ∷ Shape ∷ Syntax line
    ∷ BadChoice log ∷ StillOpen mutator epoch ∷ []) ≡ range_with_len 1 18
