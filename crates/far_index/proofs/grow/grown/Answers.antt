use Rattle.std.proofs.Common.{sym, ◌∙◌}
use Rattle.far_index.proofs.Growth.{grown_skip, grown_more}
use Rattle.far_index.proofs.grow.grown.Goals as goal
use Rattle.far_index.proofs.grow.grown.Goals.{in-Full+in-Ok-move_in, in_default}

pub move_in-requires-clause-tag : goal.move_in-requires-clause-tag
move_in-requires-clause-tag c = c.at.ensures.fits c.in-Full.tag c.in-Full.number c.in-Full.is

pub loop-i-preserved : goal.loop-i-preserved
loop-i-preserved c =
    let ss = c.args.old.now in
    let grown = c.loop-i.invariant in
    elim c.match-at.branch [
      | in-Full+in-Ok-move_in w ↦
          rw w.slots-is (grown_more c.args.buckets c.loop-i.i ss c.loop-i.slots w.move_in.new.slots grown w.in-Full.tag w.in-Full.number (sym c.at.ensures.is ∙ w.in-Full.is) w.in-Ok-move_in.ensures)
      | in_default w ↦ rw w.slots-is (grown_skip c.args.buckets c.loop-i.i ss c.loop-i.slots grown (λ t h e. w.in_default.not-Full t h (c.at.ensures.is ∙ e)))
    ]
