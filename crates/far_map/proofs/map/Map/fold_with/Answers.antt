use Rattle.far_map.specs.Listed.{GivesAt}
use Rattle.far_map.specs.Plain.{plain}
use Rattle.far_map.proofs.Folding.{all_folded}
use Rattle.far_map.proofs.map.Map.fold_with.Given as given
use Rattle.far_map.proofs.map.Map.fold_with.Goals as goal

pub returns-clause-folded : goal.returns-clause-folded
returns-clause-folded g c = λ h.
    all_folded (GivesAt (given.F-post g c.args.f.now)) c.fold_slots.result (plain (g.O.Objects.far c.self.inside.parts.worker) c.self.inside.parts.near) c.args.self.now c.args.first c.self.view_is c.self.invariant h
    c.fold_slots.ensures.folded
