use Rattle.far_packed.specs.Blocks.{table}
use Rattle.far_packed.proofs.Reached.{fresh_of}
use Rattle.far_packed.proofs.steps.turn.Goals as goal

pub begin-requires-clause-fresh : goal.begin-requires-clause-fresh
begin-requires-clause-fresh g c =
    let far = g.O.Objects.far c.args.parts.now.worker in
    fresh_of far (g.O.Objects.far c.alloc.new.self) (table c.free_block.new.near) c.in-Ok-alloc.number c.as_slice.result.now
    (c.in-Ok.ensures.stays.held far c.requires.sound.held) c.in-Ok-alloc.ensures.made
