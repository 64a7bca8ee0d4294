-- What a fault of a run leaves on its output.
use Rattle.std.specs.Prelude.{◌≡◌, ◌⊎◌, ◌↔◌, ◌++◌, ℕ, ◌<◌, Option, Some, Ok, List, length, codes}
use Rattle.far_text.specs.Command.{Command, Device, Heap}
use Rattle.far_text.specs.Grammar.{trace_of}
use Rattle.far_replay.specs.Answers.{Answers, Leaves}
use Rattle.far_replay.specs.declared.running.RunFault.{RunFault}
use Rattle.far_replay.specs.declared.running.RunFault.TheVariants as faults
use Rattle.far_replay_laws.specs.Ends.{IsInRange}

-- a text says a heap that can be made
abbrev pub SaysHeap : List ℕ → Type 0
SaysHeap text = (logs mutators epoch : ℕ) × (device : Option Device) × (cs : List Command) × (trace_of text ≡ Ok (Heap logs mutators epoch device cs)) × IsInRange logs mutators epoch

-- what stands on the output after a fault, by what stood there before: after a failed read nothing more; after a failed write a front of an output more, behind which something is missing;
-- where memory is refused nothing more, or, where the text says a heap that can be made, a front of the line that says so, or all of it
abbrev pub StandsAfter : RunFault → List ℕ → List ℕ → List ℕ → Type 0
StandsAfter faults.Read text before after = after ≡ before
StandsAfter faults.Write text before after = (front rest : List ℕ) × Answers text (front ++ rest) × (0 < length rest) × (after ≡ before ++ front)
StandsAfter faults.Memory text before after =
    (after ≡ before) ⊎ (SaysHeap text × ((front rest : List ℕ) × (front ++ rest ≡ codes "refused 1\n") × (after ≡ before ++ front)))

-- where it is known what stood there before, a fault leaves it known what stands there after, and may leave exactly this
abbrev pub FaultsLeave : Type 0
FaultsLeave = (fault : RunFault) (text before : List ℕ) (new : Option (List ℕ)) → Leaves fault (Some before) new text ↔ ((after : List ℕ) × (new ≡ Some after) × StandsAfter fault text before after)
