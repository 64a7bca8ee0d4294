use Rattle.std.proofs.Common.{◌≡◌, ◌++◌, map as each}
use Rattle.std.specs.FinMap as map
use Rattle.far_dict.specs.Names.{names_in}
use Rattle.far_dict.proofs.Walking.{heads}
use Rattle.far_dict.proofs.near.names_of.Given as goal

abbrev pub invariant-loop-key : goal.invariant-loop-key
invariant-loop-key l = record { copied : each (λ k. k.items) l.names.items ++ heads (λ k. k.items) l.key-iterator ≡ map.keys (names_in (λ k. k.items) l.table.entries) }
