use Rattle.std.proofs.Common.{◌*◌, length, sym, subst}
use Rattle.far_array.specs.Places.{Kept, Wrote}
use Rattle.far_array.proofs.Growing.{kept, not_there, then_others, wrote_block}
use Rattle.far_array.proofs.blocks.push_block.Goals as goal

pub returns-clause-wrote : goal.returns-clause-wrote
returns-clause-wrote g c =
    let p = c.args.parts.now in
    let f = g.O.Objects.far p.worker in
    let h = g.O.Objects.far c.make_block.new.worker in
    subst (λ xs. Wrote (p.per * length p.blocks.items) c.args.bytes.now f h p.blocks.items xs p.per p.size) (sym c.in-Ok-push.ensures.items)
    (wrote_block f h p.blocks.items p.per p.size c.in-Ok.number c.args.bytes.now c.requires.placed c.requires.long c.in-Ok.ensures.made)

pub returns-in_default-clause-same : goal.returns-in_default-clause-same
returns-in_default-clause-same g c = c.in_default.ensures.items

pub returns-in_default-clause-kept : goal.returns-in_default-clause-kept
returns-in_default-clause-kept g c =
    let p = c.args.parts.now in
    let f = g.O.Objects.far p.worker in
    let m = g.O.Objects.far c.make_block.new.worker in
    let h = g.O.Objects.far c.let_go.new.worker in
    let made = c.in-Ok.ensures.made in
    subst (λ xs. Kept f h p.blocks.items xs p.per p.size) (sym c.in_default.ensures.items)
    (kept f h p.blocks.items p.per p.size c.in-Ok.number c.requires.placed (not_there f p.blocks.items p.per p.size c.in-Ok.number c.requires.placed made.makes.fresh) (then_others c.in-Ok.number f m h made.makes.others c.let_go.ensures.others))
