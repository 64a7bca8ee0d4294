use Rattle.std.proofs.Common.{◌+◌, drop, slice_index_or, length, ap}
use Rattle.far_evac.proofs.Keeping.{dropped_among}
use Rattle.far_evac.proofs.LogBits.{one_log_more}
use Rattle.far_evac.proofs.Onward.{front_is}
use Rattle.far_evac.proofs.Unmarking.{taken_next}
use Rattle.far_evac.proofs.evac.marking.set_of.Goals as goal

pub overflow_shl-logs : goal.overflow_shl-logs
overflow_shl-logs c =
    let ys = c.as_slice-log-items.result.now in
    let i = c.loop-log.log-index in
    let front = front_is c.args.chosen.now ys i _ c.as_slice-log-items.ensures (ap length c.as_slice-log-items.ensures) c.loop-log-test.true in
    c.requires.range (slice_index_or ys i 0) (dropped_among c.args.chosen.now i (slice_index_or ys i 0) (drop (i + 1) c.args.chosen.now) front)

pub loop-log-preserved : goal.loop-log-preserved
loop-log-preserved c =
    let ys = c.as_slice-log-items.result.now in
    let i = c.loop-log.log-index in
    let front = front_is c.args.chosen.now ys i _ c.as_slice-log-items.ensures (ap length c.as_slice-log-items.ensures) c.loop-log-test.true in
    let below = c.requires.range (slice_index_or ys i 0) (dropped_among c.args.chosen.now i (slice_index_or ys i 0) (drop (i + 1) c.args.chosen.now) front) in
    one_log_more c.loop-log.logs (slice_index_or ys i 0) i c.args.chosen.now below (taken_next c.args.chosen.now ys i c.as_slice-log-items.ensures c.loop-log-test.true) c.loop-log.invariant
