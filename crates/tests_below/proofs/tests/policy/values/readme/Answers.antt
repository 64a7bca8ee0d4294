use Rattle.std.proofs.Common.{refl, arith, [], ◌∷◌}
use Rattle.std.specs.List.{IsDistinct}
use Rattle.std.proofs.lemmas.Bool.Decides.{nat_tests}
use Rattle.far_policy.specs.Logs.{AreRows}
use Rattle.tests_below.proofs.tests.policy.values.readme.Goals as goal

-- the rows of the test
two_rows : AreRows (record { log = 3; live = 40; dead = 0; unused = 4056 } ∷ record { log = 1; live = 16; dead = 4072; unused = 8 } ∷ [])
unfolding IsDistinct
two_rows = record { once = ((refl, tt), (tt, tt)); range = λ l h. grind (arith, nat_tests) }

pub choose-requires-clause-rows : goal.choose-requires-clause-rows
choose-requires-clause-rows c = λ given. two_rows

pub choose-answer-requires-clause-rows : goal.choose-answer-requires-clause-rows
choose-answer-requires-clause-rows c = λ given. two_rows
