use Rattle.std.proofs.Common.{◌≡◌, ℕ, ◌<◌}
use Rattle.std.specs.Vec.{vec_len}
use Rattle.far_core.specs.state.CoreState.{core_state}
use Rattle.far_hand.specs.Masked.{word_at}
use Rattle.far_hand.proofs.beset.rows.cells_of.Given as goal

abbrev pub invariant-loop-pointer : goal.invariant-loop-pointer
invariant-loop-pointer l = record {
  len : vec_len l.cells ≡ l.pointer;
  words : (p : ℕ) → p < l.pointer → word_at l.cells.items p ≡ (core_state l.core).cell p;
}
