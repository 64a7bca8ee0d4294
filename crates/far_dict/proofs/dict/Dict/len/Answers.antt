use Rattle.std.proofs.Common.{◌≡◌, ◌+◌, min, true, sym, ◌∙◌, ap}
use Rattle.std.specs.FinMap as map
use Rattle.far_dict.specs.Dictionaries.{Dictionary}
use Rattle.far_dict.proofs.Union.{both_count}
use Rattle.far_dict.proofs.dict.Dict.len.Goals as goal

pub returns : goal.returns
returns g c = λ h.
    let a = c.self.inside.short in
    let b = c.self.inside.long in
    let honest : a.honest ≡ true = ap (λ (d : Dictionary). d.honest) c.self.view_is ∙ h in
    c.saturating_add.ensures
    ∙ ap (λ n. min n 18446744073709551615) ((λ i. c.len.ensures honest i + c.len-2.ensures i) ∙ sym (both_count a b c.self.invariant honest) ∙ ap (λ (d : Dictionary). map.len d.entries) c.self.view_is)
