use Rattle.std.proofs.Common.{◌≡◌, subst, sym, true, ◌∙◌, arith}
use Rattle.far_heap.specs.Mine.{Mine, ds_in, uses}
use Rattle.far_heap.proofs.OwnSteps.{structure_is, used_below}
use Rattle.far_heap.proofs.own.Own.used_structure.Goals as goal

pub structure_at-requires : goal.structure_at-requires
structure_at-requires g c =
    let s = c.self.inside in
    let used = subst (λ (m : Mine). uses m c.args.p ≡ true) (sym c.self.view_is) (sym c.has.ensures ∙ c.if-has.true) in
    omega (arith, used_below s.seat _ s.number s.rows c.self.invariant.0 c.args.p used, c.self.invariant.0.rows_ok.many)

pub returns-then-has-clause-used : goal.returns-then-has-clause-used
returns-then-has-clause-used g c =
    let s = c.self.inside in
    let used = sym c.has.ensures ∙ c.if-has.true in (
      used,
      subst (λ (m : Mine). c.structure_at.result ≡ ds_in m c.args.p) c.self.view_is
          (structure_is s.number s.rows s.seat c.args.p c.structure_at.result c.self.invariant.1 c.self.invariant.0.number_is (subst (λ (m : Mine). uses m c.args.p ≡ true) (sym c.self.view_is) used) c.structure_at.ensures),
    )
