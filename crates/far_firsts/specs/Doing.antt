-- What was done of a text.
use Rattle.std.specs.Prelude.{◌≡◌, ℕ, ◌+◌, ◌<◌, ◌≤◌, ◌⊎◌, Bool, true, cond, ⊤, Option, Some, List, [], ◌∷◌, ◌++◌, length, take}
use Rattle.std.specs.FinSet as set
use Rattle.std.specs.Io.KnownBytes.{Appends}
use Rattle.far_word.specs.declared.refused.Refused.{Refused as Refusal}
use Rattle.far_word.specs.declared.refused.Refused.TheVariants.{Memory}
use Rattle.far_seen.specs.Lines.{LineSet, Lines}
use Rattle.far_firsts.specs.Lines.{text_of, key_of, stamp_by, IsPlain, ArePlain}
use Rattle.far_firsts.specs.Causes.{IsWhyNot}
use Rattle.far_firsts.specs.Firsts.{IsPartOf}
use Rattle.far_firsts.specs.declared.end.Why.{Why}
use Rattle.far_firsts.specs.declared.end.Why.TheVariants.{Done, Refused, Input, Output, TooMany}

-- a set, after the keys of lines were put
abbrev pub put_all : (List ℕ → List ℕ) → LineSet → List (List ℕ) → LineSet
put_all key keys [] = keys
put_all key keys (l ∷ ls) = put_all key (set.insert keys (key l)) ls

-- a line, unless its key is in the set
abbrev pub unless_in : (List ℕ → List ℕ) → LineSet → List ℕ → List (List ℕ)
unless_in key keys l = cond (set.contains keys (key l)) [] (l ∷ [])

-- lines without those whose key is in the set or came before
abbrev pub news : (List ℕ → List ℕ) → LineSet → List (List ℕ) → List (List ℕ)
news key keys [] = []
news key keys (l ∷ ls) = unless_in key keys l ++ news key (set.insert keys (key l)) ls

-- what a set has: its lines; and the stamps of all that were put, whatever is read
pub record Known : Type 0 where
  pub lines : LineSet
  pub stamp : List ℕ → List ℕ
  pub stamps : LineSet

abbrev pub known_of : ℕ → Lines → Known
known_of end s = record { lines = s.lines; stamp = stamp_by s.seed end; stamps = s.stamps }

-- the set; bytes of a line whose end hasn't come; how many lines came
pub record State : Type 0 where
  pub known : Known
  pub part : List ℕ
  pub count : ℕ

abbrev pub state : Known → List ℕ → ℕ → State
state known part count = record { known = known; part = part; count = count }

-- a line came, and stands at the end of what is to be written unless it is called known: only if one of its stamp was put; where the far
-- side is honest, exactly if it is in the set, and it is put
pub record Added (honest : Bool) (end : ℕ) (old new : Known) (line before after : List ℕ) : Type 0 where
  pub known : Bool
  pub out : after ≡ before ++ cond known [] (line ++ end ∷ [])
  pub stamped : known ≡ true → set.contains old.stamps (old.stamp line) ≡ true
  pub stamps : new.stamps ≡ set.insert old.stamps (old.stamp line)
  pub same : new.stamp ≡ old.stamp
  pub exact : honest ≡ true → (known ≡ set.contains old.lines (key_of end line)) × (new.lines ≡ set.insert old.lines (key_of end line))

-- these bytes came: they ended some lines, and the `kept` ones stand at the end of what is to be written, among them the first of each
-- stamp that was new; where the far side is honest, these are those that were new
pub record Did (honest : Bool) (end : ℕ) (bytes : List ℕ) (old new : State) (before after : List ℕ) : Type 0 where
  pub ended : List (List ℕ)
  pub kept : List (List ℕ)
  pub plain : ArePlain end ended
  pub text : old.part ++ bytes ≡ text_of end ended ++ new.part
  pub count : new.count ≡ old.count + length ended
  pub some : IsPartOf kept ended
  pub first : IsPartOf (news old.known.stamp old.known.stamps ended) kept
  pub stamps : new.known.stamps ≡ put_all old.known.stamp old.known.stamps ended
  pub same : new.known.stamp ≡ old.known.stamp
  pub exact : honest ≡ true → (kept ≡ news (key_of end) old.known.lines ended) × (new.known.lines ≡ put_all (key_of end) old.known.lines ended)
  pub out : after ≡ before ++ text_of end kept

-- the next line isn't taken, of which `begun` came; the output's own fault may come whatever was taken
abbrev pub IsWhyHalt : ℕ → (Refusal → Type 0) → ℕ → State → Why → Type 0
IsWhyHalt longest refuses end s Done = ⊥
IsWhyHalt longest refuses end s (Refused why) =
    (why ≡ Memory) ⊎ ((begun : List ℕ) × (more : List ℕ) × (s.part ≡ begun ++ more) × IsPlain end begun × (0 < length s.part) × IsWhyNot longest refuses (length begun) why)
IsWhyHalt longest refuses end s (Input e) = ⊥
IsWhyHalt longest refuses end s (Output e) = ⊤
IsWhyHalt longest refuses end s TooMany = 18446744073709551615 ≤ s.count

-- not more was done of these bytes than so many lines
pub record Stopped (longest : ℕ) (refuses : Refusal → Type 0) (honest : Bool) (end : ℕ) (bytes : List ℕ) (old : State) (count : ℕ) (why : Why) (before after : List ℕ) : Type 0 where
  pub now : State
  pub counted : now.count ≡ count
  pub did : Did honest end bytes old now before after
  pub cause : IsWhyHalt longest refuses end now why

-- the same, and what was to be written was
pub record Wrote (honest : Bool) (end : ℕ) (bytes : List ℕ) (old new : State) (before after : Option (List ℕ)) : Type 0 where
  pub printed : List ℕ
  pub did : Did honest end bytes old new [] printed
  pub written : Appends before after printed

-- what an end of a run leaves in the output: what was printed, or a part of it if it couldn't be written
abbrev pub Leaves : Why → List ℕ → Option (List ℕ) → Option (List ℕ) → Type 0
Leaves Done printed before after = Appends before after printed
Leaves (Refused why) printed before after = Appends before after printed
Leaves (Input e) printed before after = Appends before after printed
Leaves (Output e) printed before after = (k : ℕ) × Appends before after (take k printed)
Leaves TooMany printed before after = Appends before after printed

pub record Halted (longest : ℕ) (refuses : Refusal → Type 0) (honest : Bool) (end : ℕ) (bytes : List ℕ) (old : State) (count : ℕ) (why : Why) (before after : Option (List ℕ)) : Type 0 where
  pub printed : List ℕ
  pub stopped : Stopped longest refuses honest end bytes old count why [] printed
  pub leaves : Leaves why printed before after

-- so many bytes of a text are done, in so many reads at most, and these are left
pub record Went (honest : Bool) (end reads : ℕ) (text : List ℕ) (old new : State) (left : Option (List ℕ)) (before after : Option (List ℕ)) : Type 0 where
  pub bytes : List ℕ
  pub rest : List ℕ
  pub all : text ≡ bytes ++ rest
  pub is_left : left ≡ Some rest
  pub long : reads ≤ length bytes
  pub wrote : Wrote honest end bytes old new before after

-- the line that the end of the text ends, if it has bytes
abbrev pub last_of : List ℕ → List (List ℕ)
last_of [] = []
last_of (x ∷ xs) = (x ∷ xs) ∷ []

-- all was taken
abbrev pub IsOver : Why → Type 0
IsOver Done = ⊤
IsOver (Refused why) = ⊥
IsOver (Input e) = ⊥
IsOver (Output e) = ⊤
IsOver TooMany = ⊥

-- the text has ended: its last line was taken, or the run halted there
pub record Finished (longest : ℕ) (refuses : Refusal → Type 0) (honest : Bool) (end : ℕ) (old : State) (n : ℕ) (why : Why) (before after : Option (List ℕ)) : Type 0 where
  pub ended : List (List ℕ)
  pub kept : List (List ℕ)
  pub which : ((ended ≡ last_of old.part) × IsOver why) ⊎ ((ended ≡ []) × IsWhyHalt longest refuses end old why)
  pub count : n ≡ old.count + length ended
  pub some : IsPartOf kept ended
  pub first : IsPartOf (news old.known.stamp old.known.stamps ended) kept
  pub exact : honest ≡ true → kept ≡ news (key_of end) old.known.lines ended
  pub leaves : Leaves why (text_of end kept) before after
