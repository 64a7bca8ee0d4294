use Rattle.std.proofs.Common.{◌≡◌, true, false, None, MatchOption, IfOk, sym, ◌∙◌, ap, subst}
use Rattle.std.specs.FinMap as map
use Rattle.far_dict.specs.Walks.{Walked}
use Rattle.far_dict.proofs.Union.{both_get, got_none, got_short, or_else}
use Rattle.far_dict.proofs.walk.Walk.get.Goals as goal

pub returns-in-Ok-true-clause-got : goal.returns-in-Ok-true-clause-got
returns-in-Ok-true-clause-got g c = λ h.
    let a = c.self.inside.short in
    let b = c.self.inside.long in
    let key = c.args.key.now in
    let out = c.get.new.out.items in
    subst (λ o. MatchOption o (true ≡ false) (λ value. (true ≡ true) × (out ≡ value))) (sym (both_get a.entries b.entries key) ∙ ap (λ (w : Walked). map.get w.entries key) c.self.view_is)
    (got_short (map.get a.entries key) (map.get b.entries key) c.in-Ok-true.field-0 out c.in-Ok-true.field-0-test (c.in-Ok-true.ensures.got (ap (λ (w : Walked). w.honest) c.self.view_is ∙ h.short)))

pub returns-in-Ok-false-clause-got : goal.returns-in-Ok-false-clause-got
returns-in-Ok-false-clause-got g c = λ h.
    let a = c.self.inside.short in
    let b = c.self.inside.long in
    let key = c.args.key.now in
    let none : map.get a.entries key ≡ None =
    got_none (map.get a.entries key) c.in-Ok-false.field-0 c.get.new.out.items c.in-Ok-false.field-0-test (c.in-Ok-false.ensures.got (ap (λ (w : Walked). w.honest) c.self.view_is ∙ h.short)) in
    let same : map.get b.entries key ≡ map.get c.args.self.now.entries key =
    sym (both_get a.entries b.entries key ∙ ap (λ o. or_else o (map.get b.entries key)) none) ∙ ap (λ (w : Walked). map.get w.entries key) c.self.view_is in
    subst (λ o. IfOk c.read.result (λ there. MatchOption o (there ≡ false) (λ value. (there ≡ true) × (c.read.new.out.items ≡ value)))) same (c.read.ensures.got (ap (λ (w : Walked). w.honest_long) c.self.view_is ∙ h.long))
