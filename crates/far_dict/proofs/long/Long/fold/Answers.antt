use Rattle.far_map.specs.Listed.{GivesAt}
use Rattle.far_dict.proofs.Told.{long_folded}
use Rattle.far_dict.proofs.long.Long.fold.Given as given
use Rattle.far_dict.proofs.long.Long.fold.Goals as goal

pub returns-clause-folded : goal.returns-clause-folded
returns-clause-folded g c = λ h.
    long_folded (GivesAt (given.F-post g c.args.f.now)) c.fold_long.result (g.O.Objects.far c.self.inside.parts.worker) c.self.inside.parts.near c.args.self.now c.args.first c.self.view_is h c.fold_long.ensures.folded
