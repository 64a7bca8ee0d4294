use Rattle.std.proofs.Common.{◌≡◌, true, subst}
use Rattle.far_map.specs.Finding.{AreEntries}
use Rattle.far_map.specs.Plain.{plain}
use Rattle.far_map.specs.Table.{Table}
use Rattle.far_map.proofs.Outcomes.{are_entries}
use Rattle.far_map.proofs.map.Map.worker.Goals as goal

pub returns-clause-entries : goal.returns-clause-entries
returns-clause-entries g c =
    let far = g.O.Objects.far c.self.inside.parts.worker in
    subst (λ (t : Table). t.honest ≡ true → AreEntries far t.entries) c.self.view_is (are_entries (plain far c.self.inside.parts.near) c.self.invariant)
