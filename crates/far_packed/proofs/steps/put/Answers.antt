use Rattle.far_packed.proofs.steps.put.Goals as goal

pub returns-in-Ok-append-clause-sound : goal.returns-in-Ok-append-clause-sound
returns-in-Ok-append-clause-sound g c =
    let far = g.O.Objects.far c.make_room.new.parts.worker in
    let a = c.in-Ok-append.ensures.made in
    record { shaped = a.shaped far c.make_room.ensures.sound.held; held = a.held far c.make_room.ensures.sound.held }
