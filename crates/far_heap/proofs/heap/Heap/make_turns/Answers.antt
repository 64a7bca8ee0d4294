use Rattle.std.proofs.Common.{◌≡◌, ◌∙◌, true, false, [], ◌∷◌, refl, ap, subst, arith}
use Rattle.far_evac.specs.declared.phase.Phase.{Phase}
use Rattle.far_evac.specs.Moment.{plus, progress_of, tally_of}
use Rattle.far_heap.specs.Rounds.{TurnMade, told_of}
use Rattle.far_heap.proofs.RoundTurns.{idle_is, not_idle, sum_more, turns_run}
use Rattle.far_heap.proofs.heap.Heap.make_turns.Goals as goal

pub loop-init : goal.loop-init
loop-init g c = ([], refl, (refl, refl), c.nothing-total.ensures)

pub loop-preserved : goal.loop-preserved
loop-preserved g c =
    let i = c.loop.invariant in
    let made = c.in-Ok.ensures.made in
    let turn = subst (λ over. TurnMade g.D.Device.writes g.D.Device.lets_go g.D.Device.contents g.K.HeapName.heap c.args.chosen.now made.0 over c.in-Ok.after) c.if-total.false made.1 in
    let is : c.in-Ok.sum ≡ progress_of (told_of (plus (tally_of c.loop.total) made.0)) false = made.2 ∙ ap (progress_of (told_of (plus (tally_of c.loop.total) made.0))) c.if-total.false in
    (made.0 ∷ i.0, omega (arith, i.1), ((c.loop.phase, i.2), turn), sum_more c.loop.total c.in-Ok.sum i.0 made.0 false i.3 is)

pub returns-then-total-clause-ended : goal.returns-then-total-clause-ended
returns-then-total-clause-ended g c =
    let i = c.loop.invariant in
    let made = c.in-Ok.ensures.made in
    let name = g.K.HeapName.heap in
    let turn = subst (λ over. TurnMade g.D.Device.writes g.D.Device.lets_go g.D.Device.contents name c.args.chosen.now made.0 over c.in-Ok.after) c.if-total.true made.1 in
    let last = subst (λ (phase : Phase). TurnMade g.D.Device.writes g.D.Device.lets_go g.D.Device.contents name c.args.chosen.now made.0 true phase) (idle_is c.in-Ok.after turn.turns.ends) turn in
    let is : c.in-Ok.sum ≡ progress_of (told_of (plus (tally_of c.loop.total) made.0)) true = made.2 ∙ ap (progress_of (told_of (plus (tally_of c.loop.total) made.0))) c.if-total.true in
    (made.0 ∷ i.0, omega (arith, i.1, c.loop-test.true), ((c.loop.phase, i.2), last), sum_more c.loop.total c.in-Ok.sum i.0 made.0 true i.3 is)

pub returns-clause-ended : goal.returns-clause-ended
returns-clause-ended g c =
    let i = c.loop.invariant in
    (i.0, omega (arith, i.1, c.loop.auto.counter-end, c.loop-test.false), i.2, not_idle c.loop.phase (turns_run g.D.Device.writes g.D.Device.lets_go g.D.Device.contents g.K.HeapName.heap c.args.chosen.now i.0 c.loop.phase i.2))

pub returns-in-Err-clause-refused : goal.returns-in-Err-clause-refused
returns-in-Err-clause-refused g c =
    let i = c.loop.invariant in
    let stopped = c.in-Err.ensures.refused in record {
      tallies = i.0;
      phase = c.loop.phase;
      last = stopped.0;
      few = omega (arith, i.1, c.loop-test.true);
      made = i.2;
      refused = stopped.1;
      sum = sum_more c.loop.total c.in-Err.fault.so_far i.0 stopped.0 false i.3 stopped.2;
    }
