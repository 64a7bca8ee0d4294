use Rattle.std.proofs.Common.{◌∙◌, arith}
use Rattle.far_core.specs.state.CoreState.{core_state}
use Rattle.tests_far_table.proofs.Fitting.{known_more}
use Rattle.tests_far_table.proofs.tests.all_known.Goals as goal

pub loop-number-preserved : goal.loop-number-preserved
loop-number-preserved c =
    let i = c.loop-number.invariant in
    let p = c.push_reserved.ensures in
    let len = p.len in
    let room = p.capacity in
    let before = i.1 in
    let enough = i.2 in
    (p.items ∙ known_more (core_state c.args.core.now) c.loop-number.number _ _ i.0 c.known_of.ensures, omega arith, omega arith, i.3)
