use Rattle.std.proofs.Common.{◌≡◌, Result, true, drop}
use Rattle.far_map.specs.Listed.{FoldsUntil, GivesAt}
use Rattle.far_map.specs.Slots.{entries_in}
use Rattle.far_map.proofs.fold.fold_slots.Given as goal

abbrev pub invariant-loop-place : goal.invariant-loop-place
invariant-loop-place g l = record {
  far : g.O.Objects.far l.parts.worker ≡ g.O.Objects.far l.fn.parts.worker;
  near : l.parts.near ≡ l.fn.parts.near;
  folded : (g.O.Objects.far l.fn.parts.worker).honest ≡ true → (r : Result g.row.A.Denot g.row.E.Denot) →
      FoldsUntil (GivesAt (goal.F-post g l.f)) l.folded (entries_in (g.O.Objects.far l.fn.parts.worker).bytes (drop l.place l.fn.parts.near.slots)) r →
      FoldsUntil (GivesAt (goal.F-post g l.f)) l.fn.first (entries_in (g.O.Objects.far l.fn.parts.worker).bytes l.fn.parts.near.slots) r;
}
