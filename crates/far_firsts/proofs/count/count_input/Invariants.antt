use Rattle.std.proofs.Common.{◌≡◌, ◌<◌, IfSome, length}
use Rattle.far_firsts.specs.Lines.{IsPlain}
use Rattle.far_firsts.specs.Tallying.{Gone}
use Rattle.far_firsts.proofs.count.count_input.Given as goal

abbrev pub invariant-reads : goal.invariant-reads
invariant-reads g l = record {
  honest : l.tally.honest ≡ l.fn.tally.honest;
  plain : IsPlain l.end l.midst.part.items;
  out : l.midst.out ≡ l.fn.midst.out;
  room : 0 < length l.room;
  gone : IfSome (g.R.Read.remaining l.fn.input) (λ text. Gone l.fn.tally.honest l.end l.turn text l.midst.part.items l.midst.count l.fn.tally l.tally (g.R.Read.remaining l.input));
}
