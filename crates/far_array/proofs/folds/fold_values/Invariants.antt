use Rattle.std.proofs.Common.{◌≡◌, ◌≤◌, ◌-◌, true, take, map}
use Rattle.std.specs.List.{FoldsTo}
use Rattle.far_array.proofs.folds.fold_values.Given as goal

abbrev pub invariant-loop-i : goal.invariant-loop-i
invariant-loop-i g l = record {
  low : l.i ≤ l.len;
  same : l.rows ≡ l.fn.rows;
  folded : l.fn.rows.honest ≡ true → FoldsTo (λ a x b. goal.F-post g l.f a x b) l.fn.first (take l.i (map g.T.Record.decoded l.fn.rows.items)) l.folded;
}

abbrev pub decreases-loop-i : goal.decreases-loop-i
decreases-loop-i g l = l.len - l.i
