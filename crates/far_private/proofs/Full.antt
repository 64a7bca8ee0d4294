-- Where there is no room.
use Rattle.std.proofs.Common.{◌≡◌, ℕ, ◌+◌, ◌<◌, ◌≤◌, nat_le, arith, refl, Bool, true, false, Some, None, List, [], ◌∷◌, length}
use Rattle.std.specs.Prelude.{if◌then◌else◌}
use Rattle.std.proofs.lemmas.Bool.Decides.{nat_tests}
use Rattle.far_word.specs.declared.sizes.TheConstants.{LOG_WORDS}
use Rattle.far_core.specs.state.Room.{free_logs, lowest}
use Rattle.far_private.specs.Causes.{IsFullFor, NoRoomIsFull}

none_lowest : (logs : List ℕ) → lowest true logs ≡ None → length logs ≤ 1
none_lowest [] e = omega arith
none_lowest (l ∷ []) e = omega arith
none_lowest (l ∷ k ∷ ls) e = absurd cc

past : (a b : ℕ) → nat_le a b ≡ false → b < a
past a b e = grind (arith, nat_tests)

pub no_room : NoRoomIsFull
no_room s size e = by (nat_le (s.tail s.current + size) LOG_WORDS) refl e where
  by : (b : Bool) → nat_le (s.tail s.current + size) LOG_WORDS ≡ b → (if b then Some record { log = s.current; at = s.tail s.current } else lowest true (free_logs s)) ≡ None → IsFullFor s size
  by true fits e = absurd cc
  by false fits e = record { open_log = past (s.tail s.current + size) LOG_WORDS fits; reserve = none_lowest (free_logs s) e }
