-- Worked words of each layout, in hexadecimal: what each says, and which are refused.
use Rattle.std.specs.Prelude.{◌≡◌, ℕ, ◌-◌, ◌^◌, true, false, Some, None, List, [], ◌∷◌, slice_index}
use Rattle.far_word.specs.Bytes.{bytes_of, words_of}
use Rattle.far_word.specs.Header.{head_word, head_of, head_of_v1, version_of, word_by}
use Rattle.far_word.specs.Job.{job_of, job_word}
use Rattle.far_word.specs.Mark.{position}
use Rattle.far_word.specs.Pointer.{word_of, read_of}
use Rattle.far_word.specs.Scope.{scope_word, scope_of}
use Rattle.far_word.specs.declared.header.HeadWord.{HeadWord}
use Rattle.far_word.specs.declared.header.HeadWordV1.{HeadWordV1}
use Rattle.far_word.specs.declared.job.Job.{Job}
use Rattle.far_word.specs.declared.job.JobWord.{JobWord}
use Rattle.far_word.specs.declared.job.JobWord.TheVariants.{Empty, Offered, Taken, Finished}
use Rattle.far_word.specs.declared.mark.Mark.TheVariants.{Hot, Evac, Moved, Dropped, Dirty}
use Rattle.far_word.specs.declared.mark.Marks.{Marks}
use Rattle.far_word.specs.declared.pointer.PtrWord.{PtrWord}
use Rattle.far_word.specs.declared.pointer.PtrWord.TheVariants.{Free, Near, Far}
use Rattle.far_word.specs.declared.scope.ScopeWord.{ScopeWord}
use Rattle.far_word.specs.declared.scope.ScopeWord.TheVariants.{Closed, Open}
use Rattle.far_word.specs.declared.version.Version.TheVariants.{First, Second}

-- a word is packed from what it says, and is read as that
abbrev pub IsPointerWord : ℕ → PtrWord → Type 0
IsPointerWord w v = (word_of v ≡ w) × (read_of w ≡ Some v)

abbrev pub IsHeaderWord : ℕ → HeadWord → Type 0
IsHeaderWord w h = (head_word h.pointer h.len h.ds ≡ w) × (head_of w ≡ Some h)

abbrev pub IsHeaderWordV1 : ℕ → HeadWordV1 → Type 0
IsHeaderWordV1 w h = (word_by First h.pointer h.len h.ds ≡ w) × (head_of_v1 w ≡ Some h)

abbrev pub IsScopeWord : ℕ → ScopeWord → Type 0
IsScopeWord w s = (scope_word s ≡ w) × (scope_of w ≡ Some s)

-- ---- pointer words
abbrev pub no_marks : Marks
no_marks = record { hot = false; evac = false; moved = false; dropped = false; dirty = false }

-- a near object of 8 bytes and data structure 1, at word `at` of a log
abbrev pub near_eight : ℕ → ℕ → Marks → PtrWord
near_eight log at marks = Near 8 1 record { log = log; at = at } marks

-- each field by itself, and as small and as large as it may be
abbrev pub NearRowsHold : Type 0
NearRowsHold = IsPointerWord 0x8400_0000_0001_0008 (near_eight 0 0 no_marks)
    × IsPointerWord 0x8400_0000_0201_0008 (near_eight 0 2 no_marks)
    × IsPointerWord 0x8400_0000_7f01_0008 (near_eight 0 127 no_marks)
    × IsPointerWord 0x8400_0001_fe01_0008 (near_eight 0 510 no_marks)
    × IsPointerWord 0x8400_0004_0001_0008 (near_eight 1 0 no_marks)
    × IsPointerWord 0x8400_00fc_0001_0008 (near_eight 63 0 no_marks)
    × IsPointerWord 0x8400_0000_0000_0001 (Near 1 0 record { log = 0; at = 0 } no_marks)
    × IsPointerWord 0x8400_0000_0001_03f9 (Near 1017 1 record { log = 0; at = 0 } no_marks)
    × IsPointerWord 0x8400_0000_00ff_0ff8 (Near 4088 255 record { log = 0; at = 0 } no_marks)

abbrev pub MarkedRowsHold : Type 0
MarkedRowsHold = IsPointerWord 0xc400_0000_0001_0008 (near_eight 0 0 record { hot = true; evac = false; moved = false; dropped = false; dirty = false })
    × IsPointerWord 0xa400_0000_0001_0008 (near_eight 0 0 record { hot = false; evac = true; moved = false; dropped = false; dirty = false })
    × IsPointerWord 0x9400_0000_0001_0008 (near_eight 0 0 record { hot = false; evac = false; moved = true; dropped = false; dirty = false })
    × IsPointerWord 0x8c00_0000_0001_0008 (near_eight 0 0 record { hot = false; evac = false; moved = false; dropped = true; dirty = false })
    × IsPointerWord 0x8600_0000_0001_0008 (near_eight 0 0 record { hot = false; evac = false; moved = false; dropped = false; dirty = true })
    × IsPointerWord 0xe400_0000_0001_0008 (near_eight 0 0 record { hot = true; evac = true; moved = false; dropped = false; dirty = false })

abbrev pub FarRowsHold : Type 0
FarRowsHold = IsPointerWord 0x0400_0000_0001_0008 (Far 8 1 no_marks)
    × IsPointerWord 0x5c00_0000_00ff_0ff8 (Far 4088 255 record { hot = true; evac = false; moved = true; dropped = true; dirty = false })

abbrev pub FreeRowHolds : Type 0
FreeRowHolds = IsPointerWord 0 Free

-- no USED; lengths 0 and 4,089; a span past the log's end; far at an offset, in a log, with EVAC; log 64; the lowest and the highest of the bits that are zero
abbrev pub PointersAreRefused : Type 0
PointersAreRefused = (read_of 0x0000_0000_0001_0008 ≡ None)
    × (read_of 0x8400_0000_0001_0000 ≡ None)
    × (read_of 0x8400_0000_0001_0ff9 ≡ None)
    × (read_of 0x8400_0001_ff01_0008 ≡ None)
    × (read_of 0x0400_0000_0101_0008 ≡ None)
    × (read_of 0x0400_0004_0001_0008 ≡ None)
    × (read_of 0x2400_0000_0001_0008 ≡ None)
    × (read_of 0x8400_0100_0001_0008 ≡ None)
    × (read_of 0x8400_0400_0001_0008 ≡ None)
    × (read_of 0x0600_0000_0001_0008 ≡ None)
    × (read_of 0x8500_0000_0001_0008 ≡ None)

abbrev pub MarkBitsStand : Type 0
MarkBitsStand = (2 ^ position Hot ≡ 0x4000_0000_0000_0000)
    × (2 ^ position Evac ≡ 0x2000_0000_0000_0000)
    × (2 ^ position Moved ≡ 0x1000_0000_0000_0000)
    × (2 ^ position Dropped ≡ 0x0800_0000_0000_0000)
    × (2 ^ position Dirty ≡ 0x0200_0000_0000_0000)

-- ---- header words
abbrev pub HeaderRowsHold : Type 0
HeaderRowsHold = IsHeaderWord 0xa200_0000_0100_0008 record { pointer = 0; len = 8; ds = 1 }
    × IsHeaderWord 0xa200_0001_0100_0008 record { pointer = 1; len = 8; ds = 1 }
    × IsHeaderWord 0xa200_0100_0100_0008 record { pointer = 256; len = 8; ds = 1 }
    × IsHeaderWord 0xa200_07ff_ff00_0ff8 record { pointer = 2047; len = 4088; ds = 255 }

-- a pointer's word; other top bytes; lengths 0 and 4,089, and one past 16 bits; pointer 2,048
abbrev pub HeadersAreRefused : Type 0
HeadersAreRefused = (head_of 0x8400_0000_0001_0008 ≡ None)
    × (head_of 0xa100_0000_0001_0008 ≡ None)
    × (head_of 0xa300_0000_0100_0008 ≡ None)
    × (head_of 0xa200_0000_0100_0000 ≡ None)
    × (head_of 0xa200_0000_0100_0ff9 ≡ None)
    × (head_of 0xa200_0000_0101_0008 ≡ None)
    × (head_of 0xa200_0800_0100_0008 ≡ None)

-- those of version 1
abbrev pub HeaderRowsHoldV1 : Type 0
HeaderRowsHoldV1 = IsHeaderWordV1 0xa100_0000_0001_0008 record { pointer = 0; len = 8; ds = 1 }
    × IsHeaderWordV1 0xa100_0000_0101_0008 record { pointer = 1; len = 8; ds = 1 }
    × IsHeaderWordV1 0xa100_0000_8001_0008 record { pointer = 128; len = 8; ds = 1 }
    × IsHeaderWordV1 0xa100_0003_ffff_03f8 record { pointer = 1023; len = 1016; ds = 255 }

-- a pointer's word; other top bytes; lengths 0 and 1,017; pointer 1,024
abbrev pub HeadersAreRefusedV1 : Type 0
HeadersAreRefusedV1 = (head_of_v1 0x8400_0000_0001_0008 ≡ None)
    × (head_of_v1 0xa000_0000_0001_0008 ≡ None)
    × (head_of_v1 0xa200_0000_0100_0008 ≡ None)
    × (head_of_v1 0xa100_0000_0001_0000 ≡ None)
    × (head_of_v1 0xa100_0000_0001_03f9 ≡ None)
    × (head_of_v1 0xa100_0004_0001_0008 ≡ None)

-- the version by a first word: a header of each, and words that are none
abbrev pub VersionRowsHold : Type 0
VersionRowsHold = (version_of 0xa100_0000_0001_0008 ≡ First)
    × (version_of 0xa200_0000_0100_0008 ≡ Second)
    × (version_of 0xa100_0000_0000_0000 ≡ First)
    × (version_of 0 ≡ Second)

-- ---- scope words
abbrev pub ScopeRowsHold : Type 0
ScopeRowsHold = IsScopeWord 0 Closed
    × IsScopeWord 1 (Open 0)
    × IsScopeWord 0x7fff_ffff_ffff_ffff (Open (2 ^ 62 - 1))

-- an even word; an epoch of 2^62
abbrev pub ScopesAreRefused : Type 0
ScopesAreRefused = (scope_of 2 ≡ None) × (scope_of 0x8000_0000_0000_0001 ≡ None)

-- ---- job words: pointer 0 from log 0 to log 2, offered, taken by copier 3, finished by it; each field as large as it may be
abbrev pub IsJobOf : ℕ → JobWord → Type 0
IsJobOf w v = (job_word v ≡ w) × (job_of w ≡ Some v)

abbrev pub to_log_2 : Job
to_log_2 = record { pointer = 0; from = record { log = 0; at = 0 }; to = record { log = 2; at = 0 } }

abbrev pub largest_job : Job
largest_job = record { pointer = 2047; from = record { log = 63; at = 510 }; to = record { log = 63; at = 510 } }

abbrev pub JobRowsHold : Type 0
JobRowsHold = IsJobOf 0 Empty
    × IsJobOf 0x4000_2000_0000_0000 (Offered to_log_2)
    × IsJobOf 0x8c00_2000_0000_0000 (Taken to_log_2 3)
    × IsJobOf 0xcc00_2000_0000_0000 (Finished to_log_2 3)
    × IsJobOf 0xdc03_f7f8_fdfe_07ff (Finished largest_job 7)

-- no stage; a copier while offered; copier 8; pointer 2,048; offsets 511; log 64; the lowest and the highest of the bits that are zero
abbrev pub JobsAreRefused : Type 0
JobsAreRefused = (job_of 0x0000_2000_0000_0000 ≡ None)
    × (job_of 0x4c00_2000_0000_0000 ≡ None)
    × (job_of 0xa000_2000_0000_0000 ≡ None)
    × (job_of 0x4000_2000_0000_0800 ≡ None)
    × (job_of 0x4000_2000_01ff_0000 ≡ None)
    × (job_of 0x4000_27fc_0000_0000 ≡ None)
    × (job_of 0x4004_0000_0000_0000 ≡ None)
    × (job_of 0x4010_2000_0000_0000 ≡ None)
    × (job_of 0x4200_2000_0000_0000 ≡ None)

-- ---- bytes
abbrev pub one_to_nine : List ℕ
one_to_nine = 1 ∷ 2 ∷ 3 ∷ 4 ∷ 5 ∷ 6 ∷ 7 ∷ 8 ∷ 9 ∷ []

abbrev pub nine_packed : List ℕ
nine_packed = 0x0807_0605_0403_0201 ∷ 0x0000_0000_0000_0009 ∷ []

abbrev pub NineBytesPack : Type 0
NineBytesPack = (words_of one_to_nine ≡ nine_packed) × (bytes_of (λ i. slice_index nine_packed i) 9 ≡ one_to_nine)
