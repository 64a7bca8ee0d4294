-- The class for so many bytes is one of them, and its slots have room for them.
use Rattle.std.proofs.Common.{◌*◌, ◌<◌, ◌≤◌, ℕ, arith}
use Rattle.far_file.specs.Where.{class_in, scale}
use Rattle.far_file.specs.declared.place.TheConstants.{CLASSES, SLOT}

pub chosen : (n : ℕ) → class_in n < CLASSES
chosen n = grind arith

pub has_room : (n : ℕ) → n ≤ SLOT → n ≤ 64 * scale (class_in n)
has_room n few = grind arith
