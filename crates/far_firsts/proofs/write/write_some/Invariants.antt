use Rattle.std.specs.Io.KnownBytes.{Keeps}
use Rattle.far_firsts.proofs.write.write_some.Given as goal

abbrev pub invariant-tries : goal.invariant-tries
invariant-tries g l = Keeps (g.W.Write.contents l.fn.output) (g.W.Write.contents l.output)
