use Rattle.std.proofs.Common.{◌≡◌, Result, true}
use Rattle.std.specs.FinMap as map
use Rattle.far_map.specs.Listed.{FoldsUntil, GivesAt}
use Rattle.far_dict.specs.Longs.{AreWhole, valued}
use Rattle.far_dict.specs.Names.{names_in, rows}
use Rattle.far_dict.proofs.reading.fold_rows.Given as goal

abbrev pub invariant-loop-key : goal.invariant-loop-key
invariant-loop-key g l = record {
  far : g.O.Objects.far l.worker ≡ g.O.Objects.far l.fn.worker;
  whole : AreWhole (g.O.Objects.far l.fn.worker) l.key-iterator;
  folded : (g.O.Objects.far l.fn.worker).honest ≡ true → (r : Result g.row.A.Denot g.row.E.Denot) →
      FoldsUntil (GivesAt (goal.F-post g l.f)) l.folded (valued (g.O.Objects.far l.fn.worker) (rows (λ k. k.items) l.key-iterator)) r →
      FoldsUntil (GivesAt (goal.F-post g l.f)) l.fn.first (valued (g.O.Objects.far l.fn.worker) (map.entries (names_in (λ k. k.items) l.table.entries))) r;
}
