use Rattle.std.proofs.Common.{◌≡◌, ℕ, List, None, length, sym, ◌∙◌, ap, subst, arith, IfErr}
use Rattle.far_large.specs.Parts.{IsWhyNotRead, Parts}
use Rattle.far_large.proofs.Reading.{is_open}
use Rattle.far_large.proofs.large.Large.read.Goals as goal

pub returns-clause-why : goal.returns-clause-why
returns-clause-why g c =
    let to_parts : List ℕ → Parts = λ l. record { len = c.self.inside.len; numbers = l } in
    let same : to_parts c.as_slice.result.now ≡ c.args.self.now = ap to_parts c.as_slice.ensures.value ∙ c.self.view_is in
    let len : c.self.inside.len ≡ c.args.self.now.len = ap (λ p. p.len) same in
    subst (λ o. IfErr c.read_parts.result (λ why. IsWhyNotRead g.O.Objects.unreached (g.O.Objects.far c.args.worker.now) c.args.self.now o why))
    (sym (is_open c.args.self.now.len c.args.from (length c.args.out.now) (omega arith) (omega arith)))
    (subst (λ p. IfErr c.read_parts.result (λ why. IsWhyNotRead g.O.Objects.unreached (g.O.Objects.far c.args.worker.now) p None why)) same c.read_parts.ensures.why)
