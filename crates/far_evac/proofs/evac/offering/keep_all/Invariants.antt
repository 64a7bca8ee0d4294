use Rattle.std.proofs.Common.{◌≡◌, ◌++◌, take}
use Rattle.far_evac.proofs.evac.offering.keep_all.Given as goal

abbrev pub invariant-loop-log : goal.invariant-loop-log
invariant-loop-log l = l.kept ≡ l.fn.kept ++ take l.log-index l.logs
