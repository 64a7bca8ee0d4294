use Rattle.std.proofs.Common.{eqb, refl, rules, List}
use Rattle.std.proofs.lemmas.List.Recursion.{or_is}
use Rattle.far_log.specs.declared.row.LogRow.{LogRow}
use Rattle.far_policy.specs.Logs.{is_among, logs_of}
use Rattle.far_policy.proofs.scripted.has_row.Goals as goal

pub returns : goal.returns
returns c = or_is (λ (xs : List LogRow). is_among (logs_of xs) c.args.log) (λ (row : LogRow). eqb c.args.log row.log) refl (λ _ _. refl) c.args.rows.now record { log = 0; live = 0; dead = 0; unused = 0 } _ (search rules) (search rules)
