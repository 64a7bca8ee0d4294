-- The steps of the world as data, and what each is: a relation of Steps.antt, by the same name.
use Rattle.std.specs.Prelude.{◌≡◌, Option, Some, None}
use Rattle.far_core.specs.world.World.{World}
use Rattle.far_core.specs.world.Steps as world
use Rattle.far_events.specs.events.Changes.{Change, Stays, Opens, Closes, Views, Reads, Writes, Makes, Marks, Unmarks, Moves, GoesFar, ComesNear, Drops, Releases, Holds}

abbrev pub Step : Change → World → World → Type 0
Step Stays w v = v ≡ w
Step (Opens m) w v = world.Opens w m v
Step (Closes m) w v = world.Closes w m v
Step (Views m p) w v = world.Views w m p v
Step (Reads m p i x) w v = world.Reads w m p i x v
Step (Writes m p i x) w v = world.Writes w m p i x v
Step (Makes p len ds g) w v = world.Makes w p len ds g v
Step (Marks p) w v = world.Marks w p v
Step (Unmarks p) w v = world.Unmarks w p v
Step (Moves p g) w v = world.Moves w p g v
Step (GoesFar p) w v = world.GoesFar w p v
Step (ComesNear p g) w v = world.ComesNear w p g v
Step (Drops m p) w v = world.Drops w m p v
Step (Releases g) w v = world.Releases w g v
Step (Holds g) w v = world.Holds w g v

-- none is what nothing does: an event and a reply that don't go together
abbrev pub StepOf : Option Change → World → World → Type 0
StepOf None w v = ⊥
StepOf (Some c) w v = Step c w v
