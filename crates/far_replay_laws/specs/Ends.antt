-- How a text ends, by what was written for it.
use Rattle.std.specs.Prelude.{◌≡◌, ◌⊎◌, ◌++◌, ℕ, ◌<◌, ◌≤◌, ◌^◌, Option, Some, None, Ok, Err, List, [], length, codes, decimal}
use Rattle.std.specs.List.{flat_map}
use Rattle.far_text.specs.Command.{Command, Device, Nothing, Heap}
use Rattle.far_text.specs.Grammar.{trace_of}
use Rattle.far_replay.specs.Answers.{Answers, end_of}
use Rattle.far_replay.specs.declared.running.End.TheVariants.{Ran, Refused}
use Rattle.far_reply.specs.Reply.{Reply, reply_text}

-- an output begins with this line, or part of one
abbrev pub BeginsWith : List ℕ → List ℕ → Type 0
BeginsWith front output = (rest : List ℕ) × (output ≡ front ++ rest)

-- a text that ends as refused has `refused` for its first word; one that ran has nothing, or `ok` for its first line
abbrev pub EndsAreTold : Type 0
EndsAreTold = (text output : List ℕ) → Answers text output →
    (end_of (trace_of text) ≡ Refused → BeginsWith (codes "refused ") output) × (end_of (trace_of text) ≡ Ran → (output ≡ []) ⊎ BeginsWith (codes "ok\n") output)

-- ---- and what it is
-- a heap may have so many logs and mutators, and begin at this epoch
abbrev pub IsInRange : ℕ → ℕ → ℕ → Type 0
IsInRange logs mutators epoch = (2 ≤ logs) × (logs ≤ 64) × (1 ≤ mutators) × (mutators ≤ 8) × (epoch < 2 ^ 62)

-- what is written before the replies of commands: a line for the heap, and another for its device if it is said
abbrev pub said : Option Device → List ℕ
said None = codes "ok\n"
said (Some device) = codes "ok\nok\n"

-- the output of a text off the grammar is `refused 16` with its line; of one that says nothing, nothing; of a heap out of range `refused 15`; of any other heap what is said of it and its device,
-- and then the text of one reply for each command
abbrev pub EndsAreSaid : Type 0
EndsAreSaid = (text output : List ℕ) → Answers text output →
    ((line : ℕ) → trace_of text ≡ Err line → output ≡ codes "refused 16 " ++ decimal line ++ codes "\n")
    × (trace_of text ≡ Ok Nothing → output ≡ [])
    × ((logs mutators epoch : ℕ) (device : Option Device) (cs : List Command) → trace_of text ≡ Ok (Heap logs mutators epoch device cs) →
    (¬ IsInRange logs mutators epoch → output ≡ codes "refused 15\n")
    × (IsInRange logs mutators epoch → (replies : List Reply) × (length replies ≡ length cs) × (output ≡ said device ++ flat_map reply_text replies)))
