-- Why a run ended.
use Rattle.std.specs.Prelude.{◌≡◌, ◌⊎◌, ◌<◌, ◌≤◌, ⊤, ℕ, Bool, false, Option, Some, List, [], length, get_or}
use Rattle.std.specs.Io.KnownBytes.{Consumes}
use Rattle.far_word.specs.declared.refused.Refused.{Refused as Refusal}
use Rattle.far_word.specs.declared.refused.Refused.TheVariants.{Damaged, Length, Memory}
use Rattle.far_firsts.specs.Lines.{lines_of, ends_in}
use Rattle.far_firsts.specs.declared.end.Why.{Why}
use Rattle.far_firsts.specs.declared.end.Why.TheVariants.{Done, Refused, Input, Output, TooMany}

-- how a worker refuses to make or to reach an object; or that has other bytes than were put, which none has where the far side is honest
abbrev pub Refuses : (Refusal → Type 0) → (Bool → Refusal → Type 0) → Bool → Refusal → Type 0
Refuses unmade unreached honest why = unmade why ⊎ (unreached honest why ⊎ ((why ≡ Damaged) × (honest ≡ false)))

-- why a line with so many bytes isn't taken, where one may have `longest`, by how the worker refuses
abbrev pub IsWhyNot : ℕ → (Refusal → Type 0) → ℕ → Refusal → Type 0
IsWhyNot longest refuses len why = ((why ≡ Length) × (longest < len)) ⊎ refuses why

-- the same, or there was no memory
abbrev pub IsWhyLine : ℕ → (Refusal → Type 0) → ℕ → Refusal → Type 0
IsWhyLine longest refuses len why = (why ≡ Memory) ⊎ IsWhyNot longest refuses len why

-- why the line with so many bytes isn't taken that comes after so many others
abbrev pub IsWhyNext : ℕ → (Refusal → Type 0) → ℕ → ℕ → Why → Type 0
IsWhyNext longest refuses count len Done = ⊥
IsWhyNext longest refuses count len (Refused why) = IsWhyLine longest refuses len why
IsWhyNext longest refuses count len (Input e) = ⊥
IsWhyNext longest refuses count len (Output e) = ⊥
IsWhyNext longest refuses count len TooMany = 18446744073709551615 ≤ count

-- what is known of a text of which n lines were taken and `left` wasn't read.
-- Done: these are all its lines. Refused: line n is there, and isn't taken for that cause; or there was no memory.
-- Input: these are all lines that end in what was read. TooMany: so many bytes came
abbrev pub IsCause : ℕ → (Refusal → Type 0) → ℕ → ℕ → Why → List ℕ → Option (List ℕ) → Type 0
IsCause longest refuses end n Done text left = n ≡ length (lines_of end text)
IsCause longest refuses end n (Refused why) text left =
    (why ≡ Memory) ⊎ ((n < length (lines_of end text)) × IsWhyNot longest refuses (length (get_or (lines_of end text) n [])) why)
IsCause longest refuses end n (Input e) text left = (read : List ℕ) × Consumes (Some text) left read × (n ≡ ends_in end read)
IsCause longest refuses end n (Output e) text left = ⊤
IsCause longest refuses end n TooMany text left = 18446744073709551615 ≤ length text
