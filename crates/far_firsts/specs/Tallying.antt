-- What was counted of a text.
use Rattle.std.specs.Prelude.{◌≡◌, ℕ, ◌+◌, ◌<◌, ◌≤◌, ◌⊎◌, Bool, true, cond, ⊤, Option, Some, List, [], ◌∷◌, ◌++◌, length, map, take}
use Rattle.std.specs.Str.{bytes_eq}
use Rattle.std.specs.Io.KnownBytes.{Appends}
use Rattle.std.specs.FinSet as set
use Rattle.far_word.specs.declared.refused.Refused.{Refused as Refusal}
use Rattle.far_word.specs.declared.refused.Refused.TheVariants.{Memory}
use Rattle.far_seen.specs.Tallied.{Counts, Tallied, count_of, counted, line_of, often, times, total}
use Rattle.far_firsts.specs.Lines.{lines_of, text_of, key_of, stamp_by, ArePlain}
use Rattle.far_firsts.specs.Doing.{Known, State, last_of, state}
use Rattle.far_firsts.specs.Tallies.{Prints, counts_text, entry, how_often, stamped}
use Rattle.far_firsts.specs.Causes.{IsCause}
use Rattle.far_firsts.specs.declared.end.Why.{Why}
use Rattle.far_firsts.specs.declared.end.Why.TheVariants.{Done as WhyDone, Refused as WhyRefused, Input as WhyInput, Output as WhyOutput, TooMany as WhyTooMany}
use Rattle.far_firsts.specs.declared.ending.Ending.{Ending}
use Rattle.far_firsts.specs.declared.ending.Ending.TheVariants.{Done, Refused, Input, TooMany, Lost, Output}

-- counts, after what stands for lines came
abbrev pub count_all : ℕ → Counts → List (List ℕ) → Counts
count_all end counts [] = counts
count_all end counts (l ∷ ls) = count_all end (counted counts (key_of end l)) ls

-- nothing is said of a set: all lines have one stamp, and one came
abbrev pub no_set : Known
no_set = record { lines = set.empty; stamp = λ l. []; stamps = set.insert set.empty [] }

-- bytes of a line whose end hasn't come, and how many lines came
abbrev pub midst : List ℕ → ℕ → State
midst part count = state no_set part count

-- some lines came, and were counted: whatever the far side gives, as many of each stamp as there are
pub record Counted (honest : Bool) (end : ℕ) (old new : Tallied) (ended : List (List ℕ)) : Type 0 where
  pub total : total new.lines ≡ total old.lines + length ended
  pub seed : new.seed ≡ old.seed
  pub stamps : (q : List ℕ) → often q new.stamps ≡ often q old.stamps + how_often q (map (stamp_by old.seed end) ended)
  pub exact : honest ≡ true → new.lines ≡ count_all end old.lines ended

-- these bytes came: they ended some lines, which were counted
pub record Came (honest : Bool) (end : ℕ) (bytes part : List ℕ) (was : ℕ) (new : List ℕ) (n : ℕ) (before after : Tallied) : Type 0 where
  pub ended : List (List ℕ)
  pub plain : ArePlain end ended
  pub text : part ++ bytes ≡ text_of end ended ++ new
  pub count : n ≡ was + length ended
  pub counts : Counted honest end before after ended

-- so many bytes of a text are counted since the first read, in so many reads at most, and these are left
pub record Gone (honest : Bool) (end reads : ℕ) (text part : List ℕ) (count : ℕ) (first tally : Tallied) (left : Option (List ℕ)) : Type 0 where
  pub bytes : List ℕ
  pub rest : List ℕ
  pub all : text ≡ bytes ++ rest
  pub is_left : left ≡ Some rest
  pub long : reads ≤ length bytes
  pub came : Came honest end bytes [] 0 part count first tally

-- the line that the end of the text ends, if there is one
pub record Last (honest : Bool) (end : ℕ) (part : List ℕ) (was n : ℕ) (before after : Tallied) : Type 0 where
  pub count : n ≡ was + length (last_of part)
  pub counts : Counted honest end before after (last_of part)

-- all lines of a text were counted
pub record Whole (honest : Bool) (end n : ℕ) (text : List ℕ) (first tally : Tallied) : Type 0 where
  pub count : n ≡ length (lines_of end text)
  pub counts : Counted honest end first tally (lines_of end text)

-- why it ended early, after n lines
abbrev pub IsStop : ℕ → (Refusal → Type 0) → ℕ → ℕ → Why → List ℕ → Option (List ℕ) → Type 0
IsStop longest refuses end n WhyDone text left = ⊥
IsStop longest refuses end n (WhyRefused why) text left = IsCause longest refuses end n (WhyRefused why) text left
IsStop longest refuses end n (WhyInput e) text left = IsCause longest refuses end n (WhyInput e) text left
IsStop longest refuses end n (WhyOutput e) text left = ⊤
IsStop longest refuses end n WhyTooMany text left = IsCause longest refuses end n WhyTooMany text left

abbrev pub ending_of : Why → Ending
ending_of WhyDone = TooMany
ending_of (WhyRefused why) = Refused why
ending_of (WhyInput e) = Input e
ending_of (WhyOutput e) = Output e
ending_of WhyTooMany = TooMany

-- ---- what is printed of that
-- the line that a key stands for
abbrev pub line_for : ℕ → List ℕ → List ℕ
line_for end key = cond (bytes_eq key (end ∷ [])) [] key

abbrev pub lines_for : ℕ → Counts → Counts
lines_for end counts = map (λ p. (line_for end p.0, p.1)) counts

-- a line of a place stands at the end of what is to be written, and has the place's stamp
pub record Shown (honest : Bool) (end : ℕ) (tally : Tallied) (place : ℕ) (before after : List ℕ) : Type 0 where
  pub line : List ℕ
  pub out : after ≡ before ++ entry end (line, count_of tally.lines place)
  pub stamp : stamp_by tally.seed end line ≡ line_of tally.stamps place
  pub exact : honest ≡ true → line ≡ line_for end (line_of tally.lines place)

-- so many lines were shown, of which some are written
pub record Showed (honest : Bool) (end : ℕ) (tally : Tallied) (place : ℕ) (out : List ℕ) (before after : Option (List ℕ)) : Type 0 where
  pub done : Counts
  pub long : length done ≡ place
  pub stamps : stamped (stamp_by tally.seed end) done ≡ take place tally.stamps
  pub exact : honest ≡ true → done ≡ take place (lines_for end tally.lines)
  pub written : List ℕ
  pub text : written ++ out ≡ counts_text end done
  pub wrote : Appends before after written

abbrev pub IsShowing : (Refusal → Type 0) → ℕ → Ending → Type 0
IsShowing refuses n Done = ⊤
IsShowing refuses n (Refused why) = ⊥
IsShowing refuses n (Input e) = ⊥
IsShowing refuses n TooMany = ⊥
IsShowing refuses n (Lost k why) = (k < n) × ((why ≡ Memory) ⊎ refuses why)
IsShowing refuses n (Output e) = ⊤

-- all were shown, or the run ended there: whatever the rest would have been
pub record Shows (refuses : Refusal → Type 0) (honest : Bool) (end : ℕ) (tally : Tallied) (ending : Ending) (before after : Option (List ℕ)) : Type 0 where
  pub shown : Counts
  pub even : times tally.stamps ≡ times tally.lines
  pub stamps : stamped (stamp_by tally.seed end) shown ≡ take (length shown) tally.stamps
  pub exact : honest ≡ true → shown ≡ take (length shown) (lines_for end tally.lines)
  pub cause : IsShowing refuses (length tally.lines) ending
  pub prints : (rest : Counts) → length shown + length rest ≡ length tally.lines → Prints end ending (shown ++ rest) before after
