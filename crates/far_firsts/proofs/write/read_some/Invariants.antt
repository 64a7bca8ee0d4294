use Rattle.std.proofs.Common.{◌≡◌, length}
use Rattle.std.specs.Io.KnownBytes.{Keeps}
use Rattle.far_firsts.proofs.write.read_some.Given as goal

abbrev pub invariant-tries : goal.invariant-tries
invariant-tries g l = record {
  keeps : Keeps (g.R.Read.remaining l.fn.input) (g.R.Read.remaining l.input);
  long : length l.out ≡ length l.fn.out;
}
