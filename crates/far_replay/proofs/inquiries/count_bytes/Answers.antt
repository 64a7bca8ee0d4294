use Rattle.std.proofs.Common.{◌+◌, sym, ap, ◌∙◌, arith}
use Rattle.far_log.specs.declared.row.LogRow.{LogRow}
use Rattle.far_core.specs.laws.Observed.{live_bytes}
use Rattle.far_replay.specs.Moment.{state_in}
use Rattle.far_alone.proofs.Counted.{summed_more}
use Rattle.far_replay.proofs.inquiries.count_bytes.Goals as goal

pub overflow_add-live : goal.overflow_add-live
overflow_add-live c = omega (arith, c.loop-log.invariant.most, c.from-live.ensures, c.loop-log-test.true, c.logs-log-end.type_inv)

pub loop-log-preserved : goal.loop-log-preserved
loop-log-preserved c = record {
  live =
      (λ i. c.loop-log.invariant.live i + (c.from-live.ensures ∙ ap (λ (row : LogRow). row.live) c.log.ensures.row) i)
      ∙ sym (summed_more (live_bytes (state_in c.args.evac.now)) c.loop-log.log);
  most = omega (arith, c.loop-log.invariant.most, c.from-live.ensures);
}
