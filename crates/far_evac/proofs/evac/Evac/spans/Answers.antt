use Rattle.std.proofs.Common.{subst}
use Rattle.far_book.specs.book.Calls.{ListsSpans}
use Rattle.far_evac.specs.EvacOf.{EvacOf}
use Rattle.far_evac.proofs.Handing.{spans_read}
use Rattle.far_evac.proofs.evac.Evac.spans.Goals as goal

pub invariant_of-self : goal.invariant_of-self
invariant_of-self g c =
    spans_read (g.N.Near.view c.self.inside.book.near) (g.N.Near.view c.spans-answer.new.self.near) c.self.inside.round c.self.invariant c.keeps_law.ensures.law c.spans-answer.ensures.kept c.spans-answer.ensures.headers

pub returns-clause-listed : goal.returns-clause-listed
returns-clause-listed g c =
    subst (λ (e : EvacOf g.row.N.Denot g.row.D.Denot). ListsSpans g.N.Near.still g.N.Near.view g.N.Near.makes e.book c.spans-answer.new.self c.args.log c.spans-answer.result) c.self.view_is c.spans-answer.ensures
