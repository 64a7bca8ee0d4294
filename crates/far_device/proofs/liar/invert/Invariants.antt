use Rattle.std.proofs.Common.{◌≡◌}
use Rattle.far_device.proofs.Inverting.{inverted_to}
use Rattle.far_device.proofs.liar.invert.Given as goal

abbrev pub invariant-loop-byte : goal.invariant-loop-byte
invariant-loop-byte l = l.bytes ≡ inverted_to l.byte-index l.fn.bytes
