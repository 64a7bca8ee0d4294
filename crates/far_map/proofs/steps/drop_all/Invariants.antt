use Rattle.std.proofs.Common.{◌≡◌, length}
use Rattle.far_map.specs.Slots.{Left}
use Rattle.far_map.proofs.steps.drop_all.Given as goal

abbrev pub invariant-loop-place : goal.invariant-loop-place
invariant-loop-place g l = record {
  left : Left l.place (g.O.Objects.far l.parts.worker) l.parts.near.slots;
  honest : (g.O.Objects.far l.parts.worker).honest ≡ (g.O.Objects.far l.fn.parts.worker).honest;
  long : length l.parts.near.slots ≡ length l.fn.parts.near.slots;
  buckets : l.parts.near.buckets ≡ l.fn.parts.near.buckets;
}
