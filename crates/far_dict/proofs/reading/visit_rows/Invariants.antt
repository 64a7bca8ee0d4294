use Rattle.std.proofs.Common.{◌≡◌, true}
use Rattle.std.specs.FinMap as map
use Rattle.std.specs.Fn.{CalledAtTwo}
use Rattle.far_map.specs.Listed.{StepsAtEach}
use Rattle.far_dict.specs.Longs.{AreWhole, valued}
use Rattle.far_dict.specs.Names.{names_in, rows}
use Rattle.far_dict.proofs.reading.visit_rows.Given as goal

abbrev pub invariant-loop-key : goal.invariant-loop-key
invariant-loop-key g l = record {
  callable : goal.F-IsAlwaysCallable g l.visit;
  far : g.O.Objects.far l.worker ≡ g.O.Objects.far l.fn.worker;
  whole : AreWhole (g.O.Objects.far l.fn.worker) l.key-iterator;
  called : (g.O.Objects.far l.fn.worker).honest ≡ true → (last : _) →
      StepsAtEach (λ p k v q. CalledAtTwo g.F.FnMut p k v tt q) l.visit (valued (g.O.Objects.far l.fn.worker) (rows (λ k. k.items) l.key-iterator)) last →
      StepsAtEach (λ p k v q. CalledAtTwo g.F.FnMut p k v tt q) l.fn.visit (valued (g.O.Objects.far l.fn.worker) (map.entries (names_in (λ k. k.items) l.table.entries))) last;
}
