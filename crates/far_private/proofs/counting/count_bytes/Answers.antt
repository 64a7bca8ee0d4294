use Rattle.std.proofs.Common.{◌≡◌, ◌∙◌, ap, arith, subst}
use Rattle.std.specs.Prelude.{map, sum}
use Rattle.std.specs.List.{range_with_len}
use Rattle.far_core.specs.declared.machine.Core.{Core}
use Rattle.far_core.specs.laws.Observed.{live_bytes}
use Rattle.far_core.specs.state.CoreState.{core_state}
use Rattle.far_events.specs.state.State.{State}
use Rattle.far_alone.proofs.Counted.{summed_more}
use Rattle.far_private.specs.Objects.{state_in}
use Rattle.far_private.proofs.counting.count_bytes.Goals as goal

pub loop-log-preserved : goal.loop-log-preserved
loop-log-preserved g c =
    let s : State = state_in c.args.evac.now in
    record {
      live = omega (arith, c.loop-log.invariant.live, c.bytes_of_log-more_live.ensures.live, summed_more (live_bytes s) c.loop-log.log);
      whole = omega (arith, c.loop-log.invariant.whole, c.bytes_of_log-more_live.ensures.whole);
    }

pub returns-clause-live : goal.returns-clause-live
returns-clause-live g c =
    let s : State = state_in c.args.evac.now in
    let many : c.loop-log.log ≡ s.logs = (let end = c.logs-log-end.ensures ∙ ap (λ (x : Core). (core_state x).logs) c.core_of.ensures in omega (arith, end, c.loop-log-test.false)) in
    subst (λ n. c.loop-log.live ≡ sum (map (live_bytes s) (range_with_len 0 n))) many c.loop-log.invariant.live
