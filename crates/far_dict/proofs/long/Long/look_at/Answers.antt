use Rattle.std.proofs.Common.{◌≡◌, Some, None, MatchOption, IfOk, ap, ◌∙◌, subst}
use Rattle.std.specs.FinMap as map
use Rattle.std.specs.Fn.{FnOnceReturnsAt}
use Rattle.far_map.specs.Table.{Table}
use Rattle.far_dict.proofs.long.Long.look_at.Goals as goal

pub returns-clause-got : goal.returns-clause-got
returns-clause-got g c = λ h.
    subst (λ (t : Table). IfOk c.look_at.result (λ r. MatchOption (map.get t.entries c.args.key.now) (r ≡ None) (λ value. (x : _) × (r ≡ Some x) × FnOnceReturnsAt g.F.FnOnce c.args.look value x)))
    c.self.view_is (c.look_at.ensures.got (ap (λ (t : Table). t.honest) c.self.view_is ∙ h))
