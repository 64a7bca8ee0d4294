-- Which fault is told of threads that ended so, in numerals.
use Rattle.std.specs.Prelude.{◌≡◌, Result, Ok, Err, List, [], ◌∷◌}
use Rattle.far_reply.specs.Reply.{Reply}
use Rattle.far_split.specs.Joined.{IsFaultAfter}
use Rattle.far_split.specs.declared.mutators.Stop.{Stop}
use Rattle.far_split.specs.declared.mutators.Stop.TheVariants as stops
use Rattle.far_split.specs.declared.run.SplitFault.{SplitFault}
use Rattle.far_split.specs.declared.run.SplitFault.TheVariants as faults

-- no other fault is told of them than this
abbrev pub TellsAlone : List (Result (List Reply) Stop) → SplitFault → Type 0
TellsAlone ends fault = (told : SplitFault) → IsFaultAfter ends told → told ≡ fault

-- two mutators and the book, or three and the book: a gate's no comes before memory, and of several the least mutator's; the book's is 255
pub record FaultsAreInOrder : Type 0 where
  pub least : TellsAlone (Err stops.Memory ∷ Err stops.Gate ∷ Err stops.Gate ∷ Err stops.Memory ∷ []) (faults.Gate 1)
  pub book : TellsAlone (Err stops.Memory ∷ Ok [] ∷ Err stops.Gate ∷ []) (faults.Gate 255)
  pub memory : TellsAlone (Ok [] ∷ Err stops.Memory ∷ Ok [] ∷ []) faults.Memory
