use Rattle.std.proofs.Common.{◌≡◌, ◌++◌, true, ap, ◌∙◌, subst}
use Rattle.std.specs.FinMap as map
use Rattle.far_map.specs.Listed.{AreAllOf}
use Rattle.far_dict.specs.Walks.{Walked, short_table}
use Rattle.far_dict.proofs.Told.{all_of_both, listed_all}
use Rattle.far_dict.proofs.walk.Walk.begin.Goals as goal

pub returns-clause-all : goal.returns-clause-all
returns-clause-all g c = λ h.
    let a = c.self.inside.short in
    let b = c.self.inside.long in
    let honest : a.honest ≡ true = ap (λ (w : Walked). w.honest) c.self.view_is ∙ h.short in
    subst (λ m. AreAllOf (c.begin.new.self.rest ++ map.entries b.entries) m) (ap (λ (w : Walked). w.entries) c.self.view_is)
    (all_of_both (short_table a) b c.begin.new.self.rest (map.entries b.entries) c.self.invariant.0 honest (c.begin.ensures.all honest) (listed_all b.entries))
