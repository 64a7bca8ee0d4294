use Rattle.std.proofs.Common.{◌≡◌, ℕ, List, ◌++◌, length}
use Rattle.far_firsts.specs.Lines.{IsPlain}
use Rattle.far_firsts.specs.Doing.{Did, known_of, state}
use Rattle.far_firsts.proofs.bytes.take_bytes.Given as goal

abbrev pub invariant-loop-i : goal.invariant-loop-i
invariant-loop-i g l = record {
  honest : l.seen.honest ≡ l.fn.seen.honest;
  plain : IsPlain l.end l.midst.part.items;
  so : (eaten : List ℕ) × (l.bytes ≡ eaten ++ l.rest)
      × Did l.fn.seen.honest l.end eaten (state (known_of l.end l.fn.seen) l.fn.midst.part.items l.fn.midst.count) (state (known_of l.end l.seen) l.midst.part.items l.midst.count) l.fn.midst.out.items l.midst.out.items;
}

abbrev pub decreases-loop-i : goal.decreases-loop-i
decreases-loop-i g l = length l.rest
