use Rattle.std.proofs.Common.{◌≡◌, take}
use Rattle.far_policy.specs.Logs.{AreRows, logs_of}
use Rattle.tests_below.proofs.tests.policy.own.are_rows.Given as goal

abbrev pub invariant-loop-row : goal.invariant-loop-row
invariant-loop-row l = AreRows (take l.row-index l.rows) × (l.seen ≡ logs_of (take l.row-index l.rows))
