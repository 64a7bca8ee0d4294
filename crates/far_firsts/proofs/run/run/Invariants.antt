use Rattle.std.proofs.Common.{◌≡◌, ◌<◌, [], IfSome, length}
use Rattle.far_firsts.specs.Lines.{IsPlain}
use Rattle.far_firsts.specs.Doing.{Went, known_of, state}
use Rattle.far_firsts.proofs.run.run.Given as goal

abbrev pub invariant-reads : goal.invariant-reads
invariant-reads g l = record {
  honest : l.seen.honest ≡ l.fn.seen.honest;
  plain : IsPlain l.end l.midst.part.items;
  empty : l.midst.out.items ≡ [];
  room : 0 < length l.room;
  went : IfSome (g.R.Read.remaining l.fn.input) (λ text.
      Went l.fn.seen.honest l.end l.turn text (state (known_of l.end l.fn.seen) l.fn.midst.part.items l.fn.midst.count) (state (known_of l.end l.seen) l.midst.part.items l.midst.count)
      (g.R.Read.remaining l.input) (g.W.Write.contents l.fn.output) (g.W.Write.contents l.output));
}
