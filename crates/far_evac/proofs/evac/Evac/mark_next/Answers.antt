use Rattle.std.proofs.Common.{◌≡◌, ◌∙◌, ap, refl, sym, subst, not, length, IfSome, IfNone}
use Rattle.far_log.specs.declared.span.Span.{Span}
use Rattle.far_evac.proofs.HandKept.{since_evac}
use Rattle.far_hand.proofs.Closure.{then_came}
use Rattle.far_evac.specs.Cursor.{StandsAt, first_marked, standing_at}
use Rattle.far_evac.specs.EvacOf.{EvacOf, moment}
use Rattle.far_evac.specs.Live.{is_empty, lacking}
use Rattle.far_evac.specs.Moment.{Moment}
use Rattle.far_evac.specs.Standing.{collection_in}
use Rattle.far_evac.proofs.HeldJobs.{jobs_left, jobs_more, knows_jobs}
use Rattle.far_evac.proofs.Onward.{not_leaving}
use Rattle.far_evac.proofs.MarkSteps.{Sought, goes_on, jobs_on, knows_so, marks_exactly, marks_known, may_mark, moment_so, next_held, next_phase, none_known, none_same, none_shown, some_shown}
use Rattle.far_evac.proofs.evac.Evac.mark_next.Given.{Over}
use Rattle.far_evac.proofs.evac.Evac.mark_next.Goals.{After-seek-next}
use Rattle.far_evac.proofs.evac.Evac.mark_next.Goals as goal

sought : (g : Over) (c : After-seek-next g) → Sought (g.N.Near.view c.self.inside.book.near) (g.N.Near.view c.seek-next.new.book.near) c.self.inside.round (standing_at c.self.inside.round c.seek-next.result.0)
sought g c = record {
  in_round = c.seek-next.ensures.stands;
  marks = ap (λ (e : EvacOf g.row.N.Denot g.row.D.Denot). e.phase) c.self.view_is ∙ c.requires.marking;
  round = refl;
  known = c.seek-next.ensures.known;
}

abbrev made : (g : Over) → EvacOf g.row.N.Denot g.row.D.Denot → Moment
made g e = record (moment g.N.Near.view e) { core = first_marked (g.N.Near.view e.book.near) (lacking (g.N.Near.view e.book.near) e.collection) }

pub mark-requires : goal.mark-requires
mark-requires g c =
    let h = sought g (goal.at.mark-requires g c).After-seek-next in
    let stands = subst (λ o. IfSome o (λ (span : Span). StandsAt (g.N.Near.view c.seek-next.new.book.near) (standing_at c.self.inside.round c.seek-next.result.0) span)) c.in-Some.is c.seek-next.ensures.next in
    record { legal = may_mark h c.keeps_law-2.ensures.law c.in-Some.span stands }

pub returns-in_default : goal.returns-in_default
returns-in_default g c =
    let h = sought g (goal.at.returns-in_default g c).After-seek-next in
    let end = subst (λ o. IfNone o (c.seek-next.result.0.index ≡ length c.self.inside.round.chosen)) c.in_default.is c.seek-next.ensures.none in
    record {
      came = since_evac c.self.view_is c.seek-next.ensures.came;
      known = knows_so c.seek-next.ensures.order (next_phase h) (next_held h) (ap (made g) c.self.view_is) (none_known h end);
      exact = λ still. moment_so c.seek-next.ensures.order (next_phase h) (next_held h) (none_same h end (c.seek-next.ensures.exact still)) ∙ ap (made g) c.self.view_is;
      device = c.seek-next.ensures.device ∙ ap (λ (e : EvacOf g.row.N.Denot g.row.D.Denot). e.book.device) c.self.view_is;
      found = none_shown h end ∙ ap (λ (e : EvacOf g.row.N.Denot g.row.D.Denot). not (is_empty (lacking (g.N.Near.view e.book.near) e.collection))) c.self.view_is;
    }

pub invariant_of-self-2 : goal.invariant_of-self-2
invariant_of-self-2 g c =
    let h = sought g (goal.at.invariant_of-self-2 g c).After-seek-next in
    let stands = subst (λ o. IfSome o (λ (span : Span). StandsAt (g.N.Near.view c.seek-next.new.book.near) (standing_at c.self.inside.round c.seek-next.result.0) span)) c.in-Some.is c.seek-next.ensures.next in
    let m = c.mark.ensures in
    let s = g.N.Near.view c.self.inside.book.near in
    let t = g.N.Near.view c.seek-next.new.book.near in
    let u = g.N.Near.view c.mark.new.self.near in
    let law = c.keeps_law.ensures.law in
    let then = c.keeps_law-2.ensures.law in
    let keeps = jobs_more s t u (knows_jobs s t c.seek-next.ensures.known) (jobs_on h law then c.in-Some.span stands u c.mark.result m.found c.mark.type_inv m.kept) in
    record {
      round = goes_on h law then c.in-Some.span stands u c.mark.result m.found c.mark.type_inv m.kept c.size_of.result c.size_of.ensures;
      jobs = jobs_left s u c.self.inside.copying keeps c.self.inside.round.phase c.self.inside.round.phase (collection_in c.self.inside.round) _ (λ e. not_leaving (sym h.marks ∙ e)) c.self.invariant.jobs;
      exact = c.self.invariant.exact;
    }

pub returns : goal.returns
returns g c =
    let h = sought g (goal.at.returns g c).After-seek-next in
    let stands = subst (λ o. IfSome o (λ (span : Span). StandsAt (g.N.Near.view c.seek-next.new.book.near) (standing_at c.self.inside.round c.seek-next.result.0) span)) c.in-Some.is c.seek-next.ensures.next in
    let law = c.keeps_law.ensures.law in
    let then = c.keeps_law-2.ensures.law in
    let m = c.mark.ensures in
    let u = g.N.Near.view c.mark.new.self.near in
    let order = m.order ∙ c.seek-next.ensures.order in
    record {
      came = since_evac c.self.view_is (then_came c.seek-next.ensures.came m.came);
      known = knows_so order (next_phase h) (next_held h) (ap (made g) c.self.view_is) (marks_known h law then c.in-Some.span stands u c.mark.result m.found c.mark.type_inv m.kept);
      exact = λ still.
          moment_so order (next_phase h) (next_held h) (marks_exactly h law then c.in-Some.span stands u c.mark.result m.found c.mark.type_inv m.kept (c.seek-next.ensures.exact still) (m.set still))
          ∙ ap (made g) c.self.view_is;
      device = m.device ∙ c.seek-next.ensures.device ∙ ap (λ (e : EvacOf g.row.N.Denot g.row.D.Denot). e.book.device) c.self.view_is;
      found = some_shown h then c.in-Some.span stands ∙ ap (λ (e : EvacOf g.row.N.Denot g.row.D.Denot). not (is_empty (lacking (g.N.Near.view e.book.near) e.collection))) c.self.view_is;
    }

pub seek-next-requires-clause-stands : goal.seek-next-requires-clause-stands
seek-next-requires-clause-stands g c = c.self.invariant.round

pub seek-next-requires-clause-marking : goal.seek-next-requires-clause-marking
seek-next-requires-clause-marking g c = ap (λ (e : EvacOf g.row.N.Denot g.row.D.Denot). e.phase) c.self.view_is ∙ c.requires.marking

pub invariant_of-self : goal.invariant_of-self
invariant_of-self g c =
    let h = sought g (goal.at.invariant_of-self g c).After-seek-next in
    let s = g.N.Near.view c.self.inside.book.near in
    let t = g.N.Near.view c.seek-next.new.book.near in
    let r = c.self.inside.round in
    record {
      round = c.seek-next.ensures.stands;
      jobs = jobs_left s t c.self.inside.copying (knows_jobs s t c.seek-next.ensures.known) r.phase r.phase (collection_in r) _ (λ e. not_leaving (sym h.marks ∙ e)) c.self.invariant.jobs;
      exact = c.self.invariant.exact;
    }
