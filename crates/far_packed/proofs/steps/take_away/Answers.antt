use Rattle.std.proofs.Common.{length, ap, sym, subst, ◌∙◌, ◌/◌, ◌<◌}
use Rattle.far_objects.specs.Far.{Drops}
use Rattle.far_packed.specs.Blocks.{far_of, place_at, table}
use Rattle.far_packed.specs.Law.{len_is}
use Rattle.far_packed.proofs.steps.take_away.Goals as goal

pub is_empty-requires-clause-within : goal.is_empty-requires-clause-within
is_empty-requires-clause-within g c =
    let t = table c.args.parts.now.near in
    let some = (len_is _ c.in-Some._len (sym c.in-Some.ensures)).0 in
    subst (λ ps. c.args.number / 8 < length ps) (sym c.clear.ensures.places) (c.requires.sound.shaped.live c.args.number some)

pub let_go-requires-clause-within : goal.let_go-requires-clause-within
let_go-requires-clause-within g c =
    let some = (len_is _ c.in-Some._len (sym c.in-Some.ensures)).0 in
    subst (λ ps. c.args.number / 8 < length ps) (sym c.clear.ensures.places) (c.requires.sound.shaped.live c.args.number some)

pub let_go-requires-clause-sound : goal.let_go-requires-clause-sound
let_go-requires-clause-sound g c = record { shaped = c.clear.ensures.shaped; held = c.clear.ensures.held (g.O.Objects.far c.args.parts.now.worker) c.requires.sound.held }

pub returns-then-is_empty-clause-dropped : goal.returns-then-is_empty-clause-dropped
returns-then-is_empty-clause-dropped g c =
    let p = c.args.parts.now in
    let far = g.O.Objects.far p.worker in
    subst (λ f. Drops c.args.number (far_of far (table p.near)) f) (sym c.let_go.ensures.same) (c.clear.ensures.drops far)

pub returns-else-is_empty-clause-sound : goal.returns-else-is_empty-clause-sound
returns-else-is_empty-clause-sound g c = record { shaped = c.clear.ensures.shaped; held = c.clear.ensures.held (g.O.Objects.far c.args.parts.now.worker) c.requires.sound.held }

pub returns-else-is_empty-clause-dropped : goal.returns-else-is_empty-clause-dropped
returns-else-is_empty-clause-dropped g c = c.clear.ensures.drops (g.O.Objects.far c.args.parts.now.worker)

pub returns-then-is_empty-clause-gone : goal.returns-then-is_empty-clause-gone
returns-then-is_empty-clause-gone g c =
    λ n e none. c.let_go.ensures.gone n (ap (λ ps. place_at ps (c.args.number / 8)) c.clear.ensures.places ∙ e)

pub returns-else-is_empty-clause-gone : goal.returns-else-is_empty-clause-gone
returns-else-is_empty-clause-gone g c = λ n e none. absurd (c.is_empty.ensures.taken c.if-is_empty.false none)
