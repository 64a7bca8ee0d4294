use Rattle.std.specs.List.{FoldsTo}
use Rattle.far_array.specs.Listed.{values_in}
use Rattle.far_array.proofs.folds.fold_bytes.Given as goal

abbrev pub invariant-loop-k : goal.invariant-loop-k
invariant-loop-k g l = FoldsTo (λ a x b. goal.F-post g l.f a x b) l.fn.first (values_in g.T.Record.decoded g.T.Record.SIZE l.k l.bytes) l.folded
