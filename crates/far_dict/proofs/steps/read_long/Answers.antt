use Rattle.std.proofs.Common.{sym, ◌∙◌, ap, option_copied}
use Rattle.std.specs.FinMap as map
use Rattle.far_dict.specs.Longs.{entries_of, value_of}
use Rattle.far_dict.specs.Names.{Names}
use Rattle.far_dict.proofs.Moves.{has_value, no_value}
use Rattle.far_dict.proofs.Tables.{entries_get}
use Rattle.far_dict.proofs.steps.read_long.Goals as goal

pub returns-in_default-clause-got : goal.returns-in_default-clause-got
returns-in_default-clause-got g c = λ o.
    let far = g.O.Objects.far c.args.parts.now.worker in
    let names : Names = c.args.parts.now.near in
    no_value (map.get names c.args.key.now) (value_of far) (map.get (entries_of far names) c.args.key.now) _ (sym c.get.ensures ∙ ap option_copied c.in_default.is) (entries_get far names c.args.key.now)

pub returns-in-Ok-clause-got : goal.returns-in-Ok-clause-got
returns-in-Ok-clause-got g c = λ o.
    let far = g.O.Objects.far c.args.parts.now.worker in
    let names : Names = c.args.parts.now.near in
    has_value (map.get names c.args.key.now) (value_of far) (map.get (entries_of far names) c.args.key.now) c.in-Some.large.now _ (sym c.get.ensures ∙ ap option_copied c.in-Some.is)
    (entries_get far names c.args.key.now) (c.in-Ok.ensures.read o)
