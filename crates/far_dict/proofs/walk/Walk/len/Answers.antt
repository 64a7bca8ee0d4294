use Rattle.std.proofs.Common.{◌≡◌, ◌+◌, min, true, sym, ◌∙◌, ap}
use Rattle.std.specs.FinMap as map
use Rattle.far_dict.specs.Walks.{Walked, short_table}
use Rattle.far_dict.proofs.Union.{both_count}
use Rattle.far_dict.proofs.walk.Walk.len.Goals as goal

pub returns : goal.returns
returns g c = λ h.
    let a = c.self.inside.short in
    let b = c.self.inside.long in
    let honest : a.honest ≡ true = ap (λ (w : Walked). w.honest) c.self.view_is ∙ h in
    c.saturating_add.ensures
    ∙ ap (λ n. min n 18446744073709551615) ((λ i. c.len.ensures honest i + c.len-2.ensures i) ∙ sym (both_count (short_table a) b c.self.invariant.0 honest) ∙ ap (λ (w : Walked). map.len w.entries) c.self.view_is)
