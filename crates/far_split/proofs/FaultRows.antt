-- A gate's no comes before memory, and the least mutator's first.
use Rattle.std.proofs.Common.{◌≡◌, zero, suc, inl, inr, Ok, Err, [], ◌∷◌, refl, ap, arith}
use Rattle.far_split.specs.FaultRows.{FaultsAreInOrder, TellsAlone}
use Rattle.far_split.specs.declared.mutators.Stop.TheVariants as stops
use Rattle.far_split.specs.declared.run.SplitFault.TheVariants as faults

least : TellsAlone (Err stops.Memory ∷ Err stops.Gate ∷ Err stops.Gate ∷ Err stops.Memory ∷ []) (faults.Gate 1)
least (faults.Gate who) (inl (zero, stopped, sooner, named)) = let odd : Err stops.Memory ≡ Err stops.Gate = stopped.1 (Ok []) in absurd cc
least (faults.Gate who) (inl (suc zero, stopped, sooner, named)) = ap faults.Gate named
least (faults.Gate who) (inl (suc (suc at), stopped, sooner, named)) = absurd (sooner 1 (omega arith) (omega arith, λ other. refl))
least (faults.Gate who) (inr (memory, none)) = absurd cc
least faults.Memory (inl (some, none)) = absurd (none 1 (omega arith, λ other. refl))
least faults.Memory (inr (memory, none)) = absurd (none 1 stops.Gate (omega arith, λ other. refl))

book : TellsAlone (Err stops.Memory ∷ Ok [] ∷ Err stops.Gate ∷ []) (faults.Gate 255)
book (faults.Gate who) (inl (zero, stopped, sooner, named)) = let odd : Err stops.Memory ≡ Err stops.Gate = stopped.1 (Ok []) in absurd cc
book (faults.Gate who) (inl (suc zero, stopped, sooner, named)) = let odd : Ok [] ≡ Err stops.Gate = stopped.1 (Ok []) in absurd cc
book (faults.Gate who) (inl (suc (suc zero), stopped, sooner, named)) = ap faults.Gate named
book (faults.Gate who) (inl (suc (suc (suc at)), stopped, sooner, named)) = absurd (omega (arith, stopped.0))
book (faults.Gate who) (inr (memory, none)) = absurd cc
book faults.Memory (inl (some, none)) = absurd (none 2 (omega arith, λ other. refl))
book faults.Memory (inr (memory, none)) = absurd (none 2 stops.Gate (omega arith, λ other. refl))

memory : TellsAlone (Ok [] ∷ Err stops.Memory ∷ Ok [] ∷ []) faults.Memory
memory (faults.Gate who) (inl (zero, stopped, sooner, named)) = let odd : Ok [] ≡ Err stops.Gate = stopped.1 (Ok []) in absurd cc
memory (faults.Gate who) (inl (suc zero, stopped, sooner, named)) = let odd : Err stops.Memory ≡ Err stops.Gate = stopped.1 (Ok []) in absurd cc
memory (faults.Gate who) (inl (suc (suc zero), stopped, sooner, named)) = let odd : Ok [] ≡ Err stops.Gate = stopped.1 (Ok []) in absurd cc
memory (faults.Gate who) (inl (suc (suc (suc at)), stopped, sooner, named)) = absurd (omega (arith, stopped.0))
memory (faults.Gate who) (inr (told, none)) = absurd cc
memory faults.Memory is = refl

pub in_order : FaultsAreInOrder
in_order = record { least = least; book = book; memory = memory }
