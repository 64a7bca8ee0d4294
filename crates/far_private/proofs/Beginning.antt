-- A heap at its start.
use Rattle.std.proofs.Common.{◌≡◌, ℕ, Bool, ap, ◌∙◌, None}
use Rattle.far_events.specs.declared.shape.Shape.{Shape}
use Rattle.far_events.specs.state.Opening.{opening, without_copiers}
use Rattle.far_events.specs.state.State.{State}
use Rattle.far_core.specs.world.World.{World, start}
use Rattle.far_core.specs.world.WorldOf.{world_of}
use Rattle.far_private.specs.Objects.{Settled, objects_of, seen}

pub begins_none : (s : State) (honest : Bool) → world_of s ≡ start honest → (p : ℕ) → (objects_of s).object p ≡ None
begins_none s honest e p = ap (λ (w : World). seen s.honest (w.object p)) e

pub begins_settled : (s : State) (shape : Shape) (honest : Bool) → s ≡ without_copiers (opening shape honest) → shape.mutators ≡ 8 → Settled s
begins_settled s shape honest e eight = record {
  mutators = ap (λ (x : State). x.mutators) e ∙ eight;
  named = λ p busy. absurd (busy (ap (λ (x : State). x.cell p) e));
  closed = λ m. ap (λ (x : State). x.scope m) e;
  fresh = λ m. ap (λ (x : State). x.remembered m) e;
}
