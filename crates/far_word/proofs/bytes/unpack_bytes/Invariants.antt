-- Each byte of the words below the index is unpacked.
use Rattle.std.proofs.Common.{◌≡◌, ℕ, ◌*◌, ◌<◌, get_or, length}
use Rattle.far_word.specs.Bytes.{byte_at}
use Rattle.far_word.proofs.bytes.unpack_bytes.Given as goal

abbrev pub invariant-loop-i : goal.invariant-loop-i
invariant-loop-i l = (k : ℕ) → k < 8 * l.i → k < length l.bytes → get_or l.bytes k 0 ≡ byte_at (λ q. get_or l.words q 0) k
