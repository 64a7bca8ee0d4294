use Rattle.std.proofs.Common.{◌≡◌}
use Rattle.far_firsts.specs.Tallying.{Showed}
use Rattle.far_firsts.proofs.show.show_all.Given as goal

abbrev pub invariant-loop-place : goal.invariant-loop-place
invariant-loop-place g l = record {
  same : l.tally ≡ l.fn.tally;
  showed : Showed l.fn.tally.honest l.end l.fn.tally l.place l.midst.out.items (g.W.Write.contents l.fn.output) (g.W.Write.contents l.output);
}
