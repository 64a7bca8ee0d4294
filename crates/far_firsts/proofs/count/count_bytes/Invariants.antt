use Rattle.std.proofs.Common.{◌≡◌, length}
use Rattle.far_firsts.specs.Lines.{IsPlain}
use Rattle.far_firsts.proofs.Tallying.{Eaten}
use Rattle.far_firsts.proofs.count.count_bytes.Given as goal

abbrev pub invariant-loop-i : goal.invariant-loop-i
invariant-loop-i g l = record {
  honest : l.tally.honest ≡ l.fn.tally.honest;
  plain : IsPlain l.end l.midst.part.items;
  out : l.midst.out ≡ l.fn.midst.out;
  so : Eaten l.fn.tally.honest l.end l.bytes l.fn.midst.part.items l.fn.midst.count l.midst.part.items l.midst.count l.fn.tally l.tally l.rest;
}

abbrev pub decreases-loop-i : goal.decreases-loop-i
decreases-loop-i g l = length l.rest
