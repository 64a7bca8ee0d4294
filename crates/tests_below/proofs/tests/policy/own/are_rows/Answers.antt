use Rattle.std.proofs.Common.{sym, arith}
use Rattle.far_policy.proofs.Choices.{no_rows, seen_more, room_behind, seen_logs}
use Rattle.tests_below.proofs.tests.policy.own.are_rows.Goals as goal

pub loop-row-init : goal.loop-row-init
loop-row-init c = (no_rows, c.new-seen.ensures)

pub push-requires : goal.push-requires
push-requires c = record { room = room_behind c.args.rows.now c.loop-row.row-index _ c.loop-row.seen (omega arith) c.loop-row.invariant c.if-row-ge-MOST_LOGS.false (sym c.if-contains.ensures) }

pub loop-row-preserved : goal.loop-row-preserved
loop-row-preserved c = (
  seen_more c.args.rows.now c.loop-row.row-index _ c.loop-row.seen (omega arith) c.loop-row.invariant c.if-row-ge-MOST_LOGS.false (sym c.if-contains.ensures),
  seen_logs c.args.rows.now c.loop-row.row-index _ c.loop-row.seen c.push.new.self c.push.ensures c.loop-row.invariant.1 (omega arith),
)
