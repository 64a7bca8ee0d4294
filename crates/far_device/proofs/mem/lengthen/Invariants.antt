use Rattle.std.proofs.Common.{◌≡◌, ℕ}
use Rattle.std.specs.Vec.{vec_len}
use Rattle.far_device.specs.Row.{bytes_in}
use Rattle.far_device.proofs.mem.lengthen.Given as goal

abbrev pub invariant-loop : goal.invariant-loop
invariant-loop l = record {
  long : vec_len l.row ≡ l.counter;
  same : (k : ℕ) → bytes_in l.row k ≡ bytes_in l.fn.row k;
}
