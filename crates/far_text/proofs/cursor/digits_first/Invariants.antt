use Rattle.std.proofs.Common.{◌≡◌, ℕ, ◌<◌, ◌≤◌, ◌^◌, ◌%◌, ◌-◌, get_or, take, length}
use Rattle.std.specs.Int.{IsInRange}
use Rattle.std.specs.Str.Parse.{digits_value}
use Rattle.far_text.proofs.cursor.digits_first.Given as goal

-- the bytes so far are digits, and n is their number, modulo 2^64
abbrev pub invariant-loop-len : goal.invariant-loop-len
invariant-loop-len l = record {
  fits : l.len ≤ length l.text;
  digits : (k : ℕ) → k < l.len → IsInRange 48 57 (get_or l.text k 0);
  value : l.n ≡ digits_value 10 (take l.len l.text) % 2 ^ 64;
}

abbrev pub decreases-loop-len : goal.decreases-loop-len
decreases-loop-len l = length l.text - l.len
