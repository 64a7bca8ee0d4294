use Rattle.std.proofs.Common.{◌≡◌}
use Rattle.std.specs.FinMap as map
use Rattle.far_dict.specs.Longs.{Sound}
use Rattle.far_dict.proofs.steps.drop_all.Given as goal

abbrev pub invariant-loop : goal.invariant-loop
invariant-loop g l = record {
  sound : Sound (g.O.Objects.far l.parts.worker) l.parts.near;
  honest : (g.O.Objects.far l.parts.worker).honest ≡ (g.O.Objects.far l.fn.parts.worker).honest;
}

abbrev pub decreases-loop : goal.decreases-loop
decreases-loop g l = map.len l.parts.near
