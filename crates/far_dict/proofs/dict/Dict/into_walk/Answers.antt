use Rattle.std.specs.FinMap as map
use Rattle.far_dict.proofs.Changes.{short_honest}
use Rattle.far_dict.proofs.Told.{all_of_dict, listed_all}
use Rattle.far_dict.proofs.dict.Dict.into_walk.Goals as goal

pub returns-clause-all : goal.returns-clause-all
returns-clause-all g c = λ h.
    let a = c.self.inside.short in
    let b = c.self.inside.long in
    all_of_dict a b c.args.self c.self.view_is c.self.invariant h c.into_walk.result.rest (map.entries b.entries) (c.into_walk.ensures.all (short_honest a b c.args.self c.self.view_is h)) (listed_all b.entries)
