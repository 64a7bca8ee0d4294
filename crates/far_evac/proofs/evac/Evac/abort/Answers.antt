use Rattle.std.proofs.Common.{[], ◌∙◌, ap, arith, refl, rules, subst, sym}
use Rattle.far_hand.specs.Came.{Came}
use Rattle.far_hand.proofs.Closure.{then_came}
use Rattle.far_evac.specs.EvacOf.{EvacOf}
use Rattle.far_evac.specs.declared.phase.Phase.TheVariants.{Idle}
use Rattle.far_evac.proofs.GivenUpJobs.{sound_given_up}
use Rattle.far_evac.proofs.GivingUp.{gives_by, gives_exactly}
use Rattle.far_evac.proofs.evac.Evac.abort.Given.{Over}
use Rattle.far_evac.proofs.evac.Evac.abort.Goals as goal

pub invariant_of-self : goal.invariant_of-self
invariant_of-self g c =
    sound_given_up (g.N.Near.view c.self-2.inside.book.near) (g.N.Near.view c.unmark_logs.new.book.near) c.self-2.inside.round c.self-2.invariant c.keeps_law.ensures.law
    _ c.first_of_collection-first.ensures.collection c.unmark_logs.ensures.known _ refl (omega arith)

-- the evacuator then
abbrev left : (g : Over) (c : goal.After-self-1 g) → EvacOf g.row.N.Denot g.row.D.Denot
left g c = record { book = c.unmark_logs.new.book; phase = Idle; collection = []; copying = c.self-2.inside.copying }

pub returns : goal.returns
returns g c = record {
  came = then_came c.recall.ensures.came
      (subst (λ (e : EvacOf g.row.N.Denot g.row.D.Denot). Came g.N.Near.makes e.book.near c.unmark_logs.new.book.near) c.self-2.view_is c.unmark_logs.ensures.came);
  copying = ap (λ (e : EvacOf g.row.N.Denot g.row.D.Denot). e.copying) c.self-2.view_is ∙ c.recall.ensures.round.2;
  gives_up = gives_by g.N.Near.view c.args.self.now c.recall.new.self _ (left g c) c.self-2.view_is _ c.first_of_collection-first.ensures.collection c.unmark_logs.ensures.order refl refl refl
      c.unmark_logs.ensures.known c.recall.ensures.round c.recall.ensures.order c.recall.ensures.alone c.recall.ensures.beside;
  exact = λ still. gives_exactly g.N.Near.view c.args.self.now c.recall.new.self _ (left g c) c.self-2.view_is _ c.first_of_collection-first.ensures.collection c.unmark_logs.ensures.order refl refl refl
      (c.unmark_logs.ensures.exact still) (c.recall.ensures.alone (sym c.recall.ensures.round.2 ∙ sym (ap (λ (e : EvacOf g.row.N.Denot g.row.D.Denot). e.copying) c.self-2.view_is) ∙ c.self-2.invariant.exact still));
  device = c.unmark_logs.ensures.device ∙ ap (λ (e : EvacOf g.row.N.Denot g.row.D.Denot). e.book.device) c.self-2.view_is ∙ c.recall.ensures.device;
  running = search rules;
  refused = tt;
  unchanged = tt;
}
