use Rattle.std.proofs.Common.{◌≡◌, false, not, IfOk, subst, sym, ap}
use Rattle.std.specs.Prelude.{is_some}
use Rattle.std.specs.FinMap as map
use Rattle.far_map.specs.Plain.{plain}
use Rattle.far_map.proofs.Told.{isnt_there, is_found}
use Rattle.far_map.proofs.map.Map.insert.Goals.{in-Ok-put_again, in-Err-put_again}
use Rattle.far_map.proofs.map.Map.insert.Goals as goal

pub returns-in-Ok-put_new-clause-new : goal.returns-in-Ok-put_new-clause-new
returns-in-Ok-put_new-clause-new g c = λ h.
    sym (ap (λ v. not (is_some v)) (isnt_there (plain (g.O.Objects.far c.self.inside.parts.worker) c.self.inside.parts.near) c.args.self.now c.args.key.now c.in-Ok.found c.self.view_is c.in-None.is c.in-Ok.ensures.none h))

pub returns-after-put_again-clause-new : goal.returns-after-put_again-clause-new
returns-after-put_again-clause-new g c = λ h.
    let there = (is_found (plain (g.O.Objects.far c.self.inside.parts.worker) c.self.inside.parts.near) c.args.self.now c.args.key.now c.in-Ok.found c.in-Some.at c.tag_of_key-tag.result
    c.self.view_is c.self.invariant c.in-Some.is c.in-Ok.ensures.stands c.in-Ok.ensures.is h).1 in
    let old : false ≡ not (map.contains_key c.args.self.now.entries c.args.key.now) = sym (ap (λ v. not (is_some v)) there) in
    elim c.match-put_again.branch [
      | in-Ok-put_again w ↦ subst (λ r. IfOk r (λ new. new ≡ not (map.contains_key c.args.self.now.entries c.args.key.now))) (sym w.result-is) old
      | in-Err-put_again w ↦ subst (λ r. IfOk r (λ new. new ≡ not (map.contains_key c.args.self.now.entries c.args.key.now))) (sym w.result-is) tt
    ]
