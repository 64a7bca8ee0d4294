use Rattle.std.proofs.Common.{subst}
use Rattle.std.specs.Prelude.{IfOk, ◌≡◌}
use Rattle.far_private.specs.Objects.{Objects, objects_of, state_in}
use Rattle.far_private.proofs.NewBytes.{filled_none}
use Rattle.far_private.proofs.places.place_new.Goals as goal

pub returns-clause-made : goal.returns-clause-made
returns-clause-made g c = subst (λ (o : Objects). IfOk c.place_filled.result (λ _. objects_of (state_in c.place_filled.new.evac) ≡ o)) (filled_none (objects_of (state_in c.args.evac.now)) c.args.pointer c.args.len c.args.structure) c.place_filled.ensures.made
