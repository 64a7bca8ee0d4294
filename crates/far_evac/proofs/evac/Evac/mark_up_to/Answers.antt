use Rattle.std.proofs.Common.{◌≡◌, ℕ, ◌∙◌, ap, arith, length-take-le, refl, sym, subst}
use Rattle.far_hand.proofs.Closure.{no_call, then_came}
use Rattle.far_evac.specs.AnyHand.{KnowsMoment}
use Rattle.far_evac.specs.EvacOf.{moment}
use Rattle.far_evac.specs.Live.{lacking}
use Rattle.far_evac.specs.Marking.{marked_core}
use Rattle.far_evac.specs.Moment.{Moment}
use Rattle.far_evac.proofs.MarkRuns.{more_here, over_core, over_count, over_here, run_exact, run_known}
use Rattle.far_evac.proofs.Walks.{knows_same}
use Rattle.far_evac.proofs.evac.Evac.mark_up_to.Goals as goal

pub returns-then-not-mark_next : goal.returns-then-not-mark_next
returns-then-not-mark_next g c =
    let m = moment g.N.Near.view c.args.self.now in
    let a = moment g.N.Near.view c.loop-i.self in
    let b = moment g.N.Near.view c.mark_next.new.self in
    let once = c.keeps_law.ensures.moment.collection_once in
    let fits = λ (q : ℕ). (c.keeps_law.ensures.law.cells.cell_read q).0 in
    let h = c.loop-i.invariant in
    let none = over_here m once fits c.loop-i.i a h.known (sym c.if-not-mark_next.true ∙ c.mark_next.ensures.found) in
    let over = over_core m once fits c.loop-i.i c.args.n none c.loop-i-test.true in
    record {
      came = then_came h.came c.mark_next.ensures.came;
      known = subst (λ (x : Moment). KnowsMoment x b) over (run_known m once fits c.loop-i.i a h.known (λ (q : ℕ). (c.keeps_law-in-loop-i.ensures.law.cells.cell_read q).0) b c.mark_next.ensures.known);
      exact = λ still. run_exact m once fits c.loop-i.i a h.known b (h.exact still) (c.mark_next.ensures.exact still) ∙ over;
      device = c.mark_next.ensures.device ∙ h.device;
      count = over_count m once fits c.loop-i.i c.args.n none c.loop-i-test.true h.enough;
    }

pub loop-i-preserved : goal.loop-i-preserved
loop-i-preserved g c =
    let m = moment g.N.Near.view c.args.self.now in
    let a = moment g.N.Near.view c.loop-i.self in
    let b = moment g.N.Near.view c.mark_next.new.self in
    let once = c.keeps_law.ensures.moment.collection_once in
    let fits = λ (q : ℕ). (c.keeps_law.ensures.law.cells.cell_read q).0 in
    let h = c.loop-i.invariant in
    record {
      known = run_known m once fits c.loop-i.i a h.known (λ (q : ℕ). (c.keeps_law-in-loop-i.ensures.law.cells.cell_read q).0) b c.mark_next.ensures.known;
      exact = λ still. run_exact m once fits c.loop-i.i a h.known b (h.exact still) (c.mark_next.ensures.exact still);
      device = c.mark_next.ensures.device ∙ h.device;
      came = then_came h.came c.mark_next.ensures.came;
      enough = more_here m once fits c.loop-i.i a h.known (sym c.if-not-mark_next.false ∙ c.mark_next.ensures.found);
    }

pub loop-i-init : goal.loop-i-init
loop-i-init g c = record {
  known = record { core = knows_same (g.N.Near.view c.args.self.now.book.near); rest = refl };
  exact = λ still. refl;
  device = refl;
  enough = omega arith;
  came = no_call refl;
}

pub returns : goal.returns
returns g c =
    let m = moment g.N.Near.view c.args.self.now in
    let b = moment g.N.Near.view c.loop-i.self in
    let h = c.loop-i.invariant in
    let all : c.loop-i.i ≡ c.args.n = omega (arith, c.loop-i.auto.i-end, c.loop-i-test.false) in
    record {
      came = h.came;
      known = subst (λ (k : ℕ). KnowsMoment (record m { core = marked_core m k }) b) all h.known;
      exact = λ still. h.exact still ∙ ap (λ (k : ℕ). record m { core = marked_core m k }) all;
      device = h.device;
      count = sym (length-take-le c.args.n (lacking m.core m.collection) (omega (arith, h.enough, c.loop-i-test.false)));
    }
