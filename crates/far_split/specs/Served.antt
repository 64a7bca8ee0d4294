-- What a mutator may be refused beside others, and how many bytes it is given.
use Rattle.std.specs.Prelude.{◌≡◌, ℕ, true, false, List, ◌∷◌, ◌++◌, length}
use Rattle.far_word.specs.declared.refused.Refused.{Refused as Refusal}
use Rattle.far_word.specs.Refused.{refusal_number}
use Rattle.far_text.specs.Command.{Command, Mutator, On, Reads}
use Rattle.far_replay.specs.Alone.{Knows}
use Rattle.far_alone.specs.Own.{Own}
use Rattle.far_reply.specs.Reply.{Reply, Data, Refused}
use Rattle.far_split.specs.Here.{AloneHere, KnowsHere}

-- it is refused with this number
abbrev pub IsRefusedWith : ℕ → Reply → Type 0
IsRefusedWith number r = (why : Refusal) × (r ≡ Refused why) × (refusal_number why ≡ number)

-- over an honest far side no line is refused 11
abbrev pub NeverDamaged : Type 0
NeverDamaged = (m : ℕ) (o : Own) (cs : List Command) (front : List Reply) (r : Reply) (rest : List Reply) → AloneHere true m o cs (front ++ r ∷ rest) → ¬ IsRefusedWith 11 r

-- over a far side that may lie too a refusal is one of the plain program's, of what the mutator knows
abbrev pub RefusalsAreLawful : Type 0
RefusalsAreLawful = (m : ℕ) (o : Own) (c : Command) (why : Refusal) (q : Own) → KnowsHere false m o c (Refused why) q → (n : Own) × Knows m o c (Refused why) n

-- and a read gives as many bytes as it asks for
abbrev pub ReadsAreAsLong : Type 0
ReadsAreAsLong = (m : ℕ) (o : Own) (k p from len : ℕ) (bytes : List ℕ) (q : Own) → KnowsHere false m o (Mutator k (On p (Reads from len))) (Data bytes) q → length bytes ≡ len
