use Rattle.std.proofs.Common.{◌∙◌, ap, refl, not, sym}
use Rattle.far_evac.specs.Cursor.{standing_at}
use Rattle.far_evac.specs.EvacOf.{EvacOf, moment}
use Rattle.far_evac.specs.Live.{is_empty, lacking}
use Rattle.far_evac.specs.Standing.{collection_in}
use Rattle.far_evac.proofs.HandKept.{since_evac}
use Rattle.far_evac.proofs.HeldJobs.{jobs_left, knows_jobs}
use Rattle.far_evac.proofs.Onward.{not_leaving}
use Rattle.far_evac.proofs.MarkRuns.{left_shown}
use Rattle.far_evac.proofs.MarkSteps.{Sought, knows_so, moment_so, next_held, next_phase}
use Rattle.far_evac.proofs.evac.Evac.lacks_some.Given.{Over}
use Rattle.far_evac.proofs.evac.Evac.lacks_some.Goals.{After-seek-next}
use Rattle.far_evac.proofs.evac.Evac.lacks_some.Goals as goal

pub returns-clause-found : goal.returns-clause-found
returns-clause-found g c =
    let marks = ap (λ (e : EvacOf g.row.N.Denot g.row.D.Denot). e.phase) c.self.view_is ∙ c.requires.marking in
    let e = c.seek-next.ensures in
    c.is_some.ensures ∙ left_shown {r = c.self.inside.round} (record { in_round = e.stands; marks = marks; round = refl; known = e.known }) c.keeps_law-2.ensures.law c.seek-next.result.1 e.next e.none
    ∙ ap (λ (e : EvacOf g.row.N.Denot g.row.D.Denot). not (is_empty (lacking (g.N.Near.view e.book.near) e.collection))) c.self.view_is

sought : (g : Over) (c : After-seek-next g) → Sought (g.N.Near.view c.self.inside.book.near) (g.N.Near.view c.seek-next.new.book.near) c.self.inside.round (standing_at c.self.inside.round c.seek-next.result.0)
sought g c = record { in_round = c.seek-next.ensures.stands; marks = ap (λ (e : EvacOf g.row.N.Denot g.row.D.Denot). e.phase) c.self.view_is ∙ c.requires.marking; round = refl; known = c.seek-next.ensures.known }

pub returns-clause-came : goal.returns-clause-came
returns-clause-came g c = since_evac c.self.view_is c.seek-next.ensures.came

pub returns-clause-known : goal.returns-clause-known
returns-clause-known g c =
    let h = sought g (goal.at.returns-clause-known g c).After-seek-next in
    knows_so c.seek-next.ensures.order (next_phase h) (next_held h) (ap (moment g.N.Near.view) c.self.view_is) c.seek-next.ensures.known

pub returns-clause-exact : goal.returns-clause-exact
returns-clause-exact g c still =
    let h = sought g (goal.at.returns-clause-exact g c).After-seek-next in
    moment_so c.seek-next.ensures.order (next_phase h) (next_held h) (c.seek-next.ensures.exact still) ∙ ap (moment g.N.Near.view) c.self.view_is

pub returns-clause-device : goal.returns-clause-device
returns-clause-device g c = c.seek-next.ensures.device ∙ ap (λ (e : EvacOf g.row.N.Denot g.row.D.Denot). e.book.device) c.self.view_is

pub seek-next-requires-clause-stands : goal.seek-next-requires-clause-stands
seek-next-requires-clause-stands g c = c.self.invariant.round

pub seek-next-requires-clause-marking : goal.seek-next-requires-clause-marking
seek-next-requires-clause-marking g c = ap (λ (e : EvacOf g.row.N.Denot g.row.D.Denot). e.phase) c.self.view_is ∙ c.requires.marking

pub invariant_of-self : goal.invariant_of-self
invariant_of-self g c =
    let h = sought g (goal.at.invariant_of-self g c).After-seek-next in
    let s = g.N.Near.view c.self.inside.book.near in
    let t = g.N.Near.view c.seek-next.new.book.near in
    let r = c.self.inside.round in
    record {
      round = c.seek-next.ensures.stands;
      jobs = jobs_left s t c.self.inside.copying (knows_jobs s t c.seek-next.ensures.known) r.phase r.phase (collection_in r) _ (λ e. not_leaving (sym h.marks ∙ e)) c.self.invariant.jobs;
      exact = c.self.invariant.exact;
    }
