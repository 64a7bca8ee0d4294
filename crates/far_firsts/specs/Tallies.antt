-- How often each line comes, and how that is printed.
use Rattle.std.specs.Prelude.{◌≡◌, ℕ, ◌+◌, ◌-◌, ◌<◌, ◌≤◌, ◌⊎◌, ⊤, Bool, true, cond, Option, List, [], ◌∷◌, ◌++◌, length, map, take, replicate, decimal}
use Rattle.std.specs.Str.{bytes_eq}
use Rattle.std.specs.Io.KnownBytes.{Appends}
use Rattle.far_word.specs.declared.refused.Refused.{Refused as Refusal}
use Rattle.far_word.specs.declared.refused.Refused.TheVariants.{Memory}
use Rattle.far_seen.specs.Tallied.{Counts, often, total}
use Rattle.far_firsts.specs.Lines.{lines_of}
use Rattle.far_firsts.specs.Firsts.{firsts}
use Rattle.far_firsts.specs.Causes.{IsCause}
use Rattle.far_firsts.specs.declared.end.Why.TheVariants.{Refused as WhyRefused, Input as WhyInput, TooMany as WhyTooMany}
use Rattle.far_firsts.specs.declared.ending.Ending.{Ending}
use Rattle.far_firsts.specs.declared.ending.Ending.TheVariants.{Done, Refused, Input, TooMany, Lost, Output}

-- how often a line is among others
abbrev pub how_often : List ℕ → List (List ℕ) → ℕ
how_often line [] = 0
how_often line (l ∷ ls) = cond (bytes_eq line l) (how_often line ls + 1) (how_often line ls)

-- the first line of each kind, and how often it is there
abbrev pub tally : List (List ℕ) → Counts
tally lines = map (λ l. (l, how_often l lines)) (firsts lines)

-- the stamps of lines, with the counts
abbrev pub stamped : (List ℕ → List ℕ) → Counts → Counts
stamped stamp counts = map (λ p. (stamp p.0, p.1)) counts

-- as many lines of each stamp are counted as there are
abbrev pub AreCounted : (List ℕ → List ℕ) → List (List ℕ) → Counts → Type 0
AreCounted stamp lines counts = (q : List ℕ) → often q (stamped stamp counts) ≡ how_often q (map stamp lines)

-- a number in seven columns, or in as many as it needs
abbrev pub in_columns : ℕ → List ℕ
in_columns n = replicate (7 - length (decimal n)) 32 ++ decimal n

-- how often a line came, a space, the line and its end
abbrev pub entry : ℕ → List ℕ × ℕ → List ℕ
entry end p = in_columns p.1 ++ 32 ∷ (p.0 ++ end ∷ [])

abbrev pub counts_text : ℕ → Counts → List ℕ
counts_text end [] = []
counts_text end (p ∷ ps) = entry end p ++ counts_text end ps

-- why a run ended after n lines, of which `counts` is the tally. Lost: all came, and one of the counted isn't read back
abbrev pub IsEnding : ℕ → (Refusal → Type 0) → ℕ → ℕ → Ending → List ℕ → Option (List ℕ) → Counts → Type 0
IsEnding longest refuses end n Done text left counts = n ≡ length (lines_of end text)
IsEnding longest refuses end n (Refused why) text left counts = IsCause longest refuses end n (WhyRefused why) text left
IsEnding longest refuses end n (Input e) text left counts = IsCause longest refuses end n (WhyInput e) text left
IsEnding longest refuses end n TooMany text left counts = IsCause longest refuses end n WhyTooMany text left
IsEnding longest refuses end n (Lost k why) text left counts = (n ≡ length (lines_of end text)) × (k < length counts) × ((why ≡ Memory) ⊎ refuses why)
IsEnding longest refuses end n (Output e) text left counts = ⊤

-- what it leaves in the output: nothing, if the input wasn't read to its end
abbrev pub Prints : ℕ → Ending → Counts → Option (List ℕ) → Option (List ℕ) → Type 0
Prints end Done counts before after = Appends before after (counts_text end counts)
Prints end (Refused why) counts before after = Appends before after []
Prints end (Input e) counts before after = Appends before after []
Prints end TooMany counts before after = Appends before after []
Prints end (Lost k why) counts before after = Appends before after (counts_text end (take k counts))
Prints end (Output e) counts before after = (k : ℕ) × Appends before after (take k (counts_text end counts))

-- n lines of a text came, and they were counted: whatever the far side gives, as often as they came in all, and those of each stamp, by
-- hash and length, as often as such came; where it is honest, each as often as it came, in the order in which each came first. `left`
-- wasn't read
pub record TellsCounts (longest : ℕ) (refuses : Refusal → Type 0) (honest : Bool) (stamp : List ℕ → List ℕ) (end n : ℕ) (ending : Ending) (text : List ℕ) (left before after : Option (List ℕ)) : Type 0 where
  pub within : n ≤ length (lines_of end text)
  pub counts : Counts
  pub total : total counts ≡ n
  pub stamps : AreCounted stamp (take n (lines_of end text)) counts
  pub exact : honest ≡ true → counts ≡ tally (take n (lines_of end text))
  pub cause : IsEnding longest refuses end n ending text left counts
  pub prints : Prints end ending counts before after
