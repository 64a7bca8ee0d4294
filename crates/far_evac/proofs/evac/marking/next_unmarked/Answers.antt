use Rattle.std.proofs.Common.{◌+◌, ◌∙◌, sym, subst, refl, arith}
use Rattle.far_book.specs.book.NextLive.{IsBoundary}
use Rattle.far_hand.proofs.Closure.{no_call, then_came}
use Rattle.far_evac.specs.Standing.{MarkedBefore}
use Rattle.far_evac.proofs.Fronts.{knows_cells}
use Rattle.far_evac.proofs.Hands.{knows_more}
use Rattle.far_evac.proofs.Passing.{IsStep, before_known, from_known, none_there, reads_there, step_known, step_lacks, step_next, step_on, step_passes}
use Rattle.far_evac.proofs.Walks.{knows_same}
use Rattle.far_evac.proofs.evac.marking.next_unmarked.Given.{Over}
use Rattle.far_evac.proofs.evac.marking.next_unmarked.Goals.{After-keeps_law}
use Rattle.far_evac.proofs.evac.marking.next_unmarked.Goals as goal

step : (g : Over) (c : After-keeps_law g) →
    IsStep (g.N.Near.view c.loop-found.book.near) (g.N.Near.view c.next_found.new.self.near) c.args.log c.loop-found.from c.in-Some.found.cell c.in-Some.found.span
step g c = let e = c.in-Some.ensures in record {
  cells = e.found;
  kept = e.kept;
  lies = e.lies;
  is = e.cell;
  law = c.keeps_law.ensures.law;
  first = e.first;
  next = e.next;
}

pub has_evac-requires : goal.has_evac-requires
has_evac-requires g c = reads_there (step g (goal.at.has_evac-requires g c).After-keeps_law)

pub returns-then-not-has_evac : goal.returns-then-not-has_evac
returns-then-not-has_evac g c =
    let x = step g (goal.at.returns-then-not-has_evac g c).After-keeps_law in
    let h = c.loop-found.invariant in
    let e = c.in-Some.ensures in
    record {
      came = then_came h.came c.next_found.ensures.came;
      next = step_lacks x h.before (sym c.has_evac.ensures ∙ c.if-not-has_evac.true);
      none = tt;
      known = knows_more (g.N.Near.view c.args.book.now.near) (g.N.Near.view c.loop-found.book.near) (g.N.Near.view c.next_found.new.self.near) h.known (step_known x);
      exact = λ still. e.exact still ∙ h.exact still;
      order = e.order ∙ h.order;
      device = e.device ∙ h.device;
    }

pub loop-found-smaller : goal.loop-found-smaller
loop-found-smaller g c = let on = step_on (step g (goal.at.loop-found-smaller g c).After-keeps_law) in omega (arith, on, c.size_of.ensures)

pub loop-found-preserved : goal.loop-found-preserved
loop-found-preserved g c =
    let x = step g (goal.at.loop-found-preserved g c).After-keeps_law in
    let t = g.N.Near.view c.next_found.new.self.near in
    let h = c.loop-found.invariant in
    let e = c.in-Some.ensures in
    record {
      known = knows_more (g.N.Near.view c.args.book.now.near) (g.N.Near.view c.loop-found.book.near) t h.known (step_known x);
      exact = λ still. e.exact still ∙ h.exact still;
      begins = subst (λ size. IsBoundary t c.args.log (c.in-Some.found.span.at + size)) (sym c.size_of.ensures) (step_next x);
      before = subst (λ size. MarkedBefore t c.args.log (c.in-Some.found.span.at + size)) (sym c.size_of.ensures) (step_passes x h.before (sym c.has_evac.ensures ∙ c.if-not-has_evac.false));
      order = e.order ∙ h.order;
      device = e.device ∙ h.device;
      came = then_came h.came c.next_found.ensures.came;
    }

pub returns : goal.returns
returns g c =
    let s = g.N.Near.view c.loop-found.book.near in
    let t = g.N.Near.view c.next_found.new.self.near in
    let h = c.loop-found.invariant in
    let e = c.in_default.ensures in
    let known = knows_cells s t e.found e.kept in
    record {
      came = then_came h.came c.next_found.ensures.came;
      next = tt;
      none = none_there t c.keeps_law-2.ensures.law c.args.log c.loop-found.from (from_known s t known c.args.log c.loop-found.from ∙ e.none)
          (before_known s t known c.args.log c.loop-found.from h.before);
      known = knows_more (g.N.Near.view c.args.book.now.near) s t h.known known;
      exact = λ still. e.exact still ∙ h.exact still;
      order = e.order ∙ h.order;
      device = e.device ∙ h.device;
    }

pub loop-found-init : goal.loop-found-init
loop-found-init g c = record {
  known = knows_same (g.N.Near.view c.args.book.now.near);
  exact = λ still. refl;
  begins = c.requires.begins;
  before = c.requires.before;
  order = refl;
  device = refl;
  came = no_call refl;
}
