use Rattle.std.proofs.Common.{◌≡◌, ◌∙◌, refl, sym, ap, subst, arith}
use Rattle.far_word.specs.declared.sizes.TheConstants.{JOBS}
use Rattle.far_events.specs.declared.event.Task.{Task}
use Rattle.far_table.specs.CopySeats.{Took}
use Rattle.far_table.proofs.CopySeatLemmas.{missed_as, missed_more, missed_only, still_free}
use Rattle.far_table.proofs.copy_seat.CopySeat.claim.Goals as goal

pub loop-number-init : goal.loop-number-init
loop-number-init g c = (refl, omega arith, refl)

pub take-requires-clause-free : goal.take-requires-clause-free
take-requires-clause-free g c = still_free _ _ _ c.loop-number.invariant.2 c.requires.free

pub returns-in-Some-clause-table : goal.returns-in-Some-clause-table
returns-in-Some-clause-table g c = c.begin.ensures.table ∙ c.take.ensures.table ∙ c.loop-number.invariant.0

pub returns-in-Some-clause-claimed : goal.returns-in-Some-clause-claimed
returns-in-Some-clause-claimed g c = (
  c.loop-number.self.view,
  c.take.new.self.view,
  missed_as c.loop-number.number c.begin.result.task.number _ _ (sym (ap (λ (t : Task). t.number) c.begin.ensures.task)) c.loop-number.invariant.2,
  subst (λ (t : Task). Took t c.loop-number.self.view c.take.new.self.view) (sym c.begin.ensures.task) c.in-Some.ensures.took,
  c.begin.ensures.measured,
)

pub loop-number-preserved : goal.loop-number-preserved
loop-number-preserved g c =
    let i = c.loop-number.invariant in
    (c.take.ensures.table ∙ i.0, omega (arith, c.loop-number-test.true), missed_more _ _ _ _ i.2 (c.take.ensures.missed c.in_default.is))

pub returns-clause-none : goal.returns-clause-none
returns-clause-none g c = λ _.
    let all : c.loop-number.number ≡ JOBS = omega (arith, c.loop-number-test.false, c.loop-number.invariant.1) in
    missed_as c.loop-number.number JOBS _ _ all c.loop-number.invariant.2

pub returns-clause-left : goal.returns-clause-left
returns-clause-left g c = λ _. missed_only _ _ _ c.loop-number.invariant.2

pub returns-clause-free : goal.returns-clause-free
returns-clause-free g c = λ _. still_free _ _ _ c.loop-number.invariant.2 c.requires.free
