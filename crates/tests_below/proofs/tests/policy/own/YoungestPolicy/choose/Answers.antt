use Rattle.std.proofs.Common.{◌-◌, length, arith}
use Rattle.far_policy.proofs.Choices.{none_chosen, one_chosen}
use Rattle.tests_below.proofs.tests.policy.own.YoungestPolicy.choose.Goals as goal

pub returns-then-self-eq0-clause-chosen : goal.returns-then-self-eq0-clause-chosen
returns-then-self-eq0-clause-chosen c = rw c.requires.empty (none_chosen c.args.rows.now c.args.most)

pub returns-then-not-is_empty-clause-chosen : goal.returns-then-not-is_empty-clause-chosen
returns-then-not-is_empty-clause-chosen c =
    one_chosen c.args.rows.now c.args.most (length c.args.rows.now - 1) _ c.args.out.now c.push.new.self c.requires.empty c.push.ensures (grind arith) (omega arith)

pub returns-else-most-gt0-clause-chosen : goal.returns-else-most-gt0-clause-chosen
returns-else-most-gt0-clause-chosen c = rw c.requires.empty (none_chosen c.args.rows.now c.args.most)
