use Rattle.std.proofs.Common.{None, refl, sym, ◌∙◌}
use Rattle.far_dict.proofs.Moves.{none_out, taken_out, taken_stands}
use Rattle.far_dict.proofs.Tables.{moved_removed, moved_sound}
use Rattle.far_dict.proofs.steps.take_out.Goals as goal

pub let_go-requires : goal.let_go-requires
let_go-requires g c = taken_stands (g.O.Objects.far c.args.parts.now.worker) c.args.parts.now.near c.requires.sound c.args.key.now c.in-Some.large (sym c.remove.ensures.was ∙ c.in-Some.is)

pub returns-in-Some-clause-sound : goal.returns-in-Some-clause-sound
returns-in-Some-clause-sound g c =
    moved_sound (g.O.Objects.far c.args.parts.now.worker) (g.O.Objects.far c.let_go.new.worker) c.args.parts.now.near c.remove.new.self c.args.key.now None c.requires.sound
    (taken_out (g.O.Objects.far c.args.parts.now.worker) c.args.parts.now.near c.requires.sound (g.O.Objects.far c.let_go.new.worker) c.remove.new.self c.args.key.now c.in-Some.large
    (sym c.remove.ensures.was ∙ c.in-Some.is) c.remove.ensures.made c.let_go.ensures)

pub returns-in-Some-clause-made : goal.returns-in-Some-clause-made
returns-in-Some-clause-made g c =
    moved_removed (g.O.Objects.far c.args.parts.now.worker) (g.O.Objects.far c.let_go.new.worker) c.args.parts.now.near c.remove.new.self c.args.key.now None c.requires.sound
    (taken_out (g.O.Objects.far c.args.parts.now.worker) c.args.parts.now.near c.requires.sound (g.O.Objects.far c.let_go.new.worker) c.remove.new.self c.args.key.now c.in-Some.large
    (sym c.remove.ensures.was ∙ c.in-Some.is) c.remove.ensures.made c.let_go.ensures) refl

pub returns-in-None-clause-sound : goal.returns-in-None-clause-sound
returns-in-None-clause-sound g c =
    moved_sound (g.O.Objects.far c.args.parts.now.worker) (g.O.Objects.far c.args.parts.now.worker) c.args.parts.now.near c.remove.new.self c.args.key.now None c.requires.sound
    (none_out (g.O.Objects.far c.args.parts.now.worker) c.args.parts.now.near c.requires.sound c.remove.new.self c.args.key.now (sym c.remove.ensures.was ∙ c.in-None.is) c.remove.ensures.made)

pub returns-in-None-clause-made : goal.returns-in-None-clause-made
returns-in-None-clause-made g c =
    moved_removed (g.O.Objects.far c.args.parts.now.worker) (g.O.Objects.far c.args.parts.now.worker) c.args.parts.now.near c.remove.new.self c.args.key.now None c.requires.sound
    (none_out (g.O.Objects.far c.args.parts.now.worker) c.args.parts.now.near c.requires.sound c.remove.new.self c.args.key.now (sym c.remove.ensures.was ∙ c.in-None.is) c.remove.ensures.made) refl
