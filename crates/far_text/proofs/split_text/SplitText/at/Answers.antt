use Rattle.std.proofs.Common.{◌≡◌, ◌<◌, ◌+◌, ◌∷◌, ◌∙◌, length, drop, get_or, ap, sym, subst, arith}
use Rattle.far_text.specs.Command.{as_command}
use Rattle.far_text.proofs.PlaceLemmas.{length_beside, beside_here}
use Rattle.far_text.proofs.split_text.SplitText.at.Goals as goal

pub index-requires : goal.index-requires
index-requires c =
    let t = c.self.inside in
    omega (arith, ap length c.self.view_is, length_beside t.numbers.items t.commands c.self.invariant.0, c.self.invariant.0)

pub at-requires : goal.at-requires
at-requires c =
    let t = c.self.inside in
    omega (arith, ap length c.self.view_is, length_beside t.numbers.items t.commands c.self.invariant.0)

pub returns-clause-value : goal.returns-clause-value
returns-clause-value c =
    let t = c.self.inside in
    let inside : c.args.at < length t.numbers.items = omega (arith, ap length c.self.view_is, length_beside t.numbers.items t.commands c.self.invariant.0, c.self.invariant.0) in
    let number = subst (λ n. n ≡ get_or t.numbers.items c.args.at n) (sym c.from.ensures) c.index.ensures in
    ap (drop c.args.at) (sym c.self.view_is)
    ∙ beside_here t.numbers.items t.commands c.args.at c.from.result (as_command c.at.result) c.self.invariant.0 inside number c.at.ensures.value
    ∙ ap (λ l. (c.from.result, as_command c.at.result) ∷ drop (c.args.at + 1) l) c.self.view_is
