use Rattle.std.proofs.Common.{◌<◌, None, sym, subst}
use Rattle.std.specs.FinMap as map
use Rattle.far_dict.specs.Names.{Names}
use Rattle.far_dict.proofs.Moves.{taken_out, taken_stands}
use Rattle.far_dict.proofs.Rows.{fewer}
use Rattle.far_dict.proofs.Tables.{entries_none, moved_sound}
use Rattle.far_dict.proofs.steps.take_first.Goals as goal

pub let_go-requires : goal.let_go-requires
let_go-requires g c =
    let some = c.in-Some.ensures.some in
    taken_stands (g.O.Objects.far c.args.parts.now.worker) c.args.parts.now.near c.requires.sound some.0 c.in-Some.large some.1

pub returns-in-Some-clause-sound : goal.returns-in-Some-clause-sound
returns-in-Some-clause-sound g c =
    let far = g.O.Objects.far c.args.parts.now.worker in
    let new = g.O.Objects.far c.let_go.new.worker in
    let names = c.args.parts.now.near in
    let some = c.in-Some.ensures.some in
    moved_sound far new names c.take_first.new.self some.0 None c.requires.sound (taken_out far names c.requires.sound new c.take_first.new.self some.0 c.in-Some.large some.1 some.2 c.let_go.ensures)

pub returns-in-Some-clause-fewer : goal.returns-in-Some-clause-fewer
returns-in-Some-clause-fewer g c = λ _.
    let names : Names = c.args.parts.now.near in
    let some = c.in-Some.ensures.some in
    subst (λ (m : Names). map.len m < map.len names) (sym some.2) (fewer names some.0 c.in-Some.large some.1)

pub returns-in-None-clause-none : goal.returns-in-None-clause-none
returns-in-None-clause-none g c = λ _. entries_none (g.O.Objects.far c.args.parts.now.worker) c.take_first.new.self c.in-None.ensures.none
