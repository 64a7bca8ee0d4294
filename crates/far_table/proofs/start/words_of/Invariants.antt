use Rattle.std.proofs.Common.{◌≡◌, ◌≤◌, map, vec_len, vec_capacity}
use Rattle.std.specs.List.{range_with_len}
use Rattle.far_core.specs.state.CoreState.{core_state}
use Rattle.far_table.specs.Tabled.{table_word}
use Rattle.far_table.proofs.start.words_of.Given as goal

abbrev pub invariant-loop-i : goal.invariant-loop-i
invariant-loop-i l = (l.words.items ≡ map (table_word (core_state l.fn.core)) (range_with_len 0 l.i)) × (vec_len l.words ≡ l.i) × (l.count ≤ vec_capacity l.words)
