use Rattle.far_book.proofs.ledger.Ledger.is_vacant.Goals as goal
use Rattle.std.proofs.Common.{ap, ◌∙◌}
use Rattle.std.specs.Prelude.{◌==◌}
use Rattle.far_book.specs.declared.ledger.Filled.{Filled}

pub returns : goal.returns
returns c s h = ap (λ (f : Filled). f.live == 0) c.filled_of.ensures ∙ ap (λ n. n == 0) (h.0.lives c.args.log h.1)
