use Rattle.std.proofs.Common.{◌≡◌, ◌*◌, arith}
use Rattle.far_word.specs.declared.sizes.TheConstants.{CELLS}
use Rattle.far_events.specs.state.State.{State}
use Rattle.tests_seats.proofs.Uses.{marked_all}
use Rattle.tests_seats.proofs.tests.pairs.are_marked.Goals as goal

pub returns-clause-marked : goal.returns-clause-marked
returns-clause-marked g c = λ _.
    let s : State = g.N.Near.view c.loop-pointer.book.near in
    let end = c.loop-pointer.invariant.end in
    let last = c.loop-pointer-test.false in
    let within = c.loop-pointer.auto.pointer-end in
    let all : c.loop-pointer.pointer ≡ CELLS * s.mutators = omega arith in
    marked_all s c.keeps_law-2.ensures.law c.loop-pointer.pointer all c.loop-pointer.invariant.marked
