use Rattle.std.proofs.Common.{◌≡◌, true, drop}
use Rattle.far_map.specs.Slots.{entries_in}
use Rattle.far_map.proofs.walk.next_entry.Given as goal

abbrev pub invariant-loop-place : goal.invariant-loop-place
invariant-loop-place g l = record {
  far : g.O.Objects.far l.parts.worker ≡ g.O.Objects.far l.fn.parts.worker;
  near : l.parts.near ≡ l.fn.parts.near;
  rest : (g.O.Objects.far l.fn.parts.worker).honest ≡ true → entries_in (g.O.Objects.far l.fn.parts.worker).bytes (drop l.fn.from l.fn.parts.near.slots) ≡ entries_in (g.O.Objects.far l.fn.parts.worker).bytes (drop l.place l.fn.parts.near.slots);
}
