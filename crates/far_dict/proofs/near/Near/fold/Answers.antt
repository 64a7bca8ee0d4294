use Rattle.std.proofs.Common.{IfOk, sym, ◌∙◌, ap, subst}
use Rattle.std.specs.FinMap as map
use Rattle.far_map.specs.Listed.{FoldsUntil, GivesAt}
use Rattle.far_dict.specs.Longs.{valued}
use Rattle.far_dict.specs.Names.{Names}
use Rattle.far_dict.proofs.near.Near.fold.Given as given
use Rattle.far_dict.proofs.near.Near.fold.Goals as goal

pub fold_rows-requires-clause-whole : goal.fold_rows-requires-clause-whole
fold_rows-requires-clause-whole g c = λ k l e. c.requires.whole k l (sym (ap (λ (n : Names). map.get n k) c.self.view_is) ∙ e)

pub returns-clause-folded : goal.returns-clause-folded
returns-clause-folded g c = λ o.
    subst (λ (n : Names). IfOk c.fold_rows.result (FoldsUntil (GivesAt (given.F-post g c.args.f.now)) c.args.first (valued (g.O.Objects.far c.args.worker.now) (map.entries n)))) c.self.view_is
    (c.fold_rows.ensures.folded o)
