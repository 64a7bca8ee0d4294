use Rattle.std.proofs.Common.{◌≡◌, ◌<◌, ℕ, false, take}
use Rattle.far_policy.specs.Choice.{IsChoice}
use Rattle.far_policy.specs.Scripted.{is_bad}
use Rattle.far_policy.proofs.scripted.ScriptedPolicy.choose.Given as goal

abbrev pub invariant-loop-log : goal.invariant-loop-log
invariant-loop-log l = IsChoice l.rows l.most l.out × (l.out ≡ take l.log-index l.named) × ((k : ℕ) → k < l.log-index → is_bad l.rows l.most l.named k ≡ false)
