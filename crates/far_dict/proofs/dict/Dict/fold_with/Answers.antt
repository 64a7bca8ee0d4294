use Rattle.far_map.specs.Listed.{GivesAt}
use Rattle.far_dict.proofs.Changes.{long_honest, short_honest}
use Rattle.far_dict.proofs.Told.{both_folded, short_stopped}
use Rattle.far_dict.proofs.dict.Dict.fold_with.Given as given
use Rattle.far_dict.proofs.dict.Dict.fold_with.Goals as goal

pub returns-in-Ok-Ok-clause-folded : goal.returns-in-Ok-Ok-clause-folded
returns-in-Ok-Ok-clause-folded g c = λ h.
    let a = c.self.inside.short in
    let b = c.self.inside.long in
    let d = c.args.self.now in
    both_folded (GivesAt (given.F-post g c.args.f.now)) a b d c.self.view_is c.self.invariant h c.fold.result c.in-Ok-Ok.field-0 c.args.first c.in-Ok-Ok.folded c.in-Ok-Ok.field-0-is
    (c.in-Ok-Ok.ensures.folded (short_honest a b d c.self.view_is h)) (c.fold.ensures.folded (long_honest a b d c.self.view_is h))

pub returns-in-Ok-Err-clause-folded : goal.returns-in-Ok-Err-clause-folded
returns-in-Ok-Err-clause-folded g c = λ h.
    let a = c.self.inside.short in
    let b = c.self.inside.long in
    let d = c.args.self.now in
    short_stopped (GivesAt (given.F-post g c.args.f.now)) a b d c.self.view_is c.self.invariant h c.in-Ok-Err.field-0 c.args.first c.in-Ok-Err.stop c.in-Ok-Err.field-0-is
    (c.in-Ok-Err.ensures.folded (short_honest a b d c.self.view_is h))
