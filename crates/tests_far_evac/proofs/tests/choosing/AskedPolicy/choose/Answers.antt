use Rattle.std.proofs.Common.{ℕ, false, true, [], eqb, List, sym, subst, arith}
use Rattle.std.proofs.lemmas.Bool.{false≢true}
use Rattle.std.proofs.lemmas.Map.Keys.{IsDistinct-from_apart}
use Rattle.far_policy.specs.Choice.{IsChoice}
use Rattle.tests_far_evac.proofs.tests.choosing.AskedPolicy.choose.Goals as goal

pub returns-clause-chosen : goal.returns-clause-chosen
returns-clause-chosen c =
    subst (λ (logs : List ℕ). IsChoice c.args.rows.now c.args._most logs) (sym c.requires.empty)
    record { once = IsDistinct-from_apart eqb [] (λ i j d lt le. absurd (omega arith)); of_rows = λ l h. absurd (false≢true h); few = omega arith }
