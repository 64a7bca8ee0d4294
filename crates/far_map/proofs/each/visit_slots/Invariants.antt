use Rattle.std.proofs.Common.{◌≡◌, true, take}
use Rattle.std.specs.Fn.{CalledAtTwo}
use Rattle.far_map.specs.Listed.{StepsAtEach}
use Rattle.far_map.specs.Slots.{entries_in}
use Rattle.far_map.proofs.each.visit_slots.Given as goal

abbrev pub invariant-loop-place : goal.invariant-loop-place
invariant-loop-place g l = record {
  callable : goal.F-IsAlwaysCallable g l.visit;
  far : g.O.Objects.far l.parts.worker ≡ g.O.Objects.far l.fn.parts.worker;
  near : l.parts.near ≡ l.fn.parts.near;
  called : (g.O.Objects.far l.fn.parts.worker).honest ≡ true → StepsAtEach (λ p k v q. CalledAtTwo g.F.FnMut p k v tt q) l.fn.visit (entries_in (g.O.Objects.far l.fn.parts.worker).bytes (take l.place l.fn.parts.near.slots)) l.visit;
}
