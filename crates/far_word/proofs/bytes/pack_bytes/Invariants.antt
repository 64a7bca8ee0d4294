-- Each word below the index is packed.
use Rattle.std.proofs.Common.{◌≡◌, ℕ, ◌<◌, get_or}
use Rattle.far_word.specs.Bytes.{packed_word}
use Rattle.far_word.proofs.bytes.pack_bytes.Given as goal

abbrev pub invariant-loop-i : goal.invariant-loop-i
invariant-loop-i l = (k : ℕ) → k < l.i → get_or l.words k 0 ≡ packed_word l.bytes k
