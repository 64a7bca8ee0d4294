use Rattle.std.proofs.Common.{◌≡◌, ◌∙◌, ◌+◌, ap, sym, subst, refl, []}
use Rattle.far_evac.specs.EvacOf.{EvacOf, moment}
use Rattle.far_evac.specs.Live.{lacking}
use Rattle.far_evac.specs.Moment.{Moment}
use Rattle.far_evac.specs.RoundSteps.{advanced}
use Rattle.far_evac.specs.declared.phase.Phase.TheVariants.{Marking, Waiting}
use Rattle.far_evac.proofs.HandKept.{since_evac}
use Rattle.far_evac.proofs.MarkRuns.{jobs_wait, may_choose, rises_exactly, rises_known, waiting_held, waits_so}
use Rattle.far_evac.proofs.MarkSteps.{knows_so, moment_so}
use Rattle.far_evac.proofs.evac.Evac.wait.Given.{Over}
use Rattle.far_evac.proofs.evac.Evac.wait.Goals as goal

abbrev risen : (g : Over) → EvacOf g.row.N.Denot g.row.D.Denot → Moment
risen g e = record (moment g.N.Near.view e) { core = advanced (g.N.Near.view e.book.near) e.collection; phase = Waiting }

pub advance-requires : goal.advance-requires
advance-requires g c =
    let marks = subst (λ (e : EvacOf g.row.N.Denot g.row.D.Denot). e.phase ≡ Marking) (sym c.self.view_is) c.requires.marking in
    let none = subst (λ (e : EvacOf g.row.N.Denot g.row.D.Denot). lacking (g.N.Near.view e.book.near) e.collection ≡ []) (sym c.self.view_is) c.requires.none in
    record {
      chosen = may_choose (g.N.Near.view c.self.inside.book.near) c.self.inside.round c.self.invariant.round marks c.set_of.result c.set_of.ensures c.keeps_law.ensures.law none;
    }

pub returns-clause-known : goal.returns-clause-known
returns-clause-known g c =
    let marks = subst (λ (e : EvacOf g.row.N.Denot g.row.D.Denot). e.phase ≡ Marking) (sym c.self.view_is) c.requires.marking in
    let s = g.N.Near.view c.self.inside.book.near in
    let r = c.self.inside.round in
    knows_so c.in-Ok.ensures.order refl (waiting_held s r c.self.invariant.round marks c.set_of.result c.set_of.ensures) (ap (risen g) c.self.view_is)
    (rises_known s r c.self.invariant.round marks c.set_of.result c.set_of.ensures (g.N.Near.view c.advance.new.self.near) c.keeps_law-2.ensures.law c.in-Ok.ensures.kept c.in-Ok.ensures.forgot)

pub returns-clause-exact : goal.returns-clause-exact
returns-clause-exact g c still =
    let marks = subst (λ (e : EvacOf g.row.N.Denot g.row.D.Denot). e.phase ≡ Marking) (sym c.self.view_is) c.requires.marking in
    let s = g.N.Near.view c.self.inside.book.near in
    let r = c.self.inside.round in
    moment_so c.in-Ok.ensures.order refl (waiting_held s r c.self.invariant.round marks c.set_of.result c.set_of.ensures)
    (rises_exactly s r c.self.invariant.round marks c.set_of.result c.set_of.ensures (g.N.Near.view c.advance.new.self.near) (c.in-Ok.ensures.set still)) ∙ ap (risen g) c.self.view_is

pub invariant_of-self : goal.invariant_of-self
invariant_of-self g c =
    let marks = subst (λ (e : EvacOf g.row.N.Denot g.row.D.Denot). e.phase ≡ Marking) (sym c.self.view_is) c.requires.marking in
    let s = g.N.Near.view c.self.inside.book.near in
    let t = g.N.Near.view c.advance.new.self.near in
    let r = c.self.inside.round in
    record {
      round = waits_so s r c.self.invariant.round marks c.set_of.result c.set_of.ensures t c.keeps_law-2.ensures.law c.in-Ok.ensures.kept;
      jobs = jobs_wait s r c.self.invariant.round marks c.set_of.result c.set_of.ensures t c.keeps_law-2.ensures.law c.in-Ok.ensures.kept c.keeps_law.ensures.law c.self.invariant.jobs;
      exact = c.self.invariant.exact;
    }

pub returns-clause-came : goal.returns-clause-came
returns-clause-came g c = since_evac c.self.view_is c.advance.ensures.came

pub returns-clause-device : goal.returns-clause-device
returns-clause-device g c = c.advance.ensures.device ∙ ap (λ (e : EvacOf g.row.N.Denot g.row.D.Denot). e.book.device) c.self.view_is

pub returns-clause-epoch : goal.returns-clause-epoch
returns-clause-epoch g c = c.in-Ok.ensures.epoch.0 ∙ ap (λ (e : EvacOf g.row.N.Denot g.row.D.Denot). (g.N.Near.view e.book.near).epoch + 1) c.self.view_is
