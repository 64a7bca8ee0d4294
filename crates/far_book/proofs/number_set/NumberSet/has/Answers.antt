use Rattle.far_book.proofs.number_set.NumberSet.has.Goals as goal
use Rattle.std.proofs.Common.{◌∙◌, arith, sym}
use Rattle.std.proofs.lemmas.Bool.{le-ltb}
use Rattle.far_book.proofs.region.NumberSets.{has_beyond, has_word}

pub returns-then-k-lt64 : goal.returns-then-k-lt64
returns-then-k-lt64 c = has_word c.args.self.word c.args.k

pub returns-else-k-lt64 : goal.returns-else-k-lt64
returns-else-k-lt64 c = let over = c.if-k-lt64.false in
    le-ltb c.args.k 64 (omega (arith, over)) ∙ sym (has_beyond c.args.self.word c.args.k (omega arith) (omega (arith, over)))
