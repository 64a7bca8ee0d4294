use Rattle.std.proofs.Common.{◌≡◌, ℕ, true, ap, subst, sym, ◌∙◌, arith}
use Rattle.far_heap.specs.declared.view.View.{View}
use Rattle.far_heap.specs.Mine.{Mine, len_in, uses}
use Rattle.far_heap.proofs.OwnSteps.{len_is, used_below}
use Rattle.far_heap.proofs.own.Own.view_of.Goals as goal

pub len_at-requires : goal.len_at-requires
len_at-requires g c =
    let s = c.self.inside in
    let used = subst (λ (m : Mine). uses m c.args.p ≡ true) (sym c.self.view_is) c.requires in
    omega (arith, used_below s.seat _ s.number s.rows c.self.invariant.0 c.args.p used, c.self.invariant.0.rows_ok.many)

pub returns : goal.returns
returns g c =
    let s = c.self.inside in
    let p : ℕ = c.args.p in
    let used = subst (λ (m : Mine). uses m p ≡ true) (sym c.self.view_is) c.requires in
    let of : ℕ → View = λ n. record { pointer = p; len = n } in
    ap of (len_is s.seat _ s.number s.rows c.self.invariant.0 p c.len_at.result used c.len_at.ensures ∙ ap (λ (m : Mine). len_in m p) c.self.view_is)
