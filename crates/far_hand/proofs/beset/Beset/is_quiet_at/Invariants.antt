use Rattle.std.proofs.Common.{◌≡◌, ℕ, ◌<◌, false}
use Rattle.far_word.specs.Pointer.{read_of}
use Rattle.far_hand.specs.Masked.{word_at}
use Rattle.far_core.specs.state.CoreState.{core_state}
use Rattle.far_hand.specs.Quiet.{is_quiet_word}
use Rattle.far_hand.proofs.beset.Beset.is_quiet_at.Given as goal

abbrev pub invariant-loop-pointer : goal.invariant-loop-pointer
invariant-loop-pointer l = (p : ℕ) → p < l.pointer → is_quiet_word (core_state l.self.core).round (core_state l.self.core).clear p (read_of (word_at l.self.found.items p)) l.log l.at ≡ false
