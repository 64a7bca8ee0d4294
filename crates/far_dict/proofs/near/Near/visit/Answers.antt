use Rattle.std.proofs.Common.{OnOk, sym, ◌∙◌, ap, subst}
use Rattle.std.specs.FinMap as map
use Rattle.std.specs.Fn.{CalledAtTwo}
use Rattle.far_map.specs.Listed.{StepsAtEach}
use Rattle.far_dict.specs.Longs.{valued}
use Rattle.far_dict.specs.Names.{Names}
use Rattle.far_dict.proofs.near.Near.visit.Goals as goal

pub visit_rows-requires-clause-whole : goal.visit_rows-requires-clause-whole
visit_rows-requires-clause-whole g c = λ k l e. c.requires.whole k l (sym (ap (λ (n : Names). map.get n k) c.self.view_is) ∙ e)

pub returns-clause-called : goal.returns-clause-called
returns-clause-called g c = λ o.
    subst (λ (n : Names). OnOk c.visit_rows.result (StepsAtEach (λ p k v q. CalledAtTwo g.F.FnMut p k v tt q) c.args.visit.now (valued (g.O.Objects.far c.args.worker.now) (map.entries n)) c.visit_rows.new.visit))
    c.self.view_is (c.visit_rows.ensures.called o)
