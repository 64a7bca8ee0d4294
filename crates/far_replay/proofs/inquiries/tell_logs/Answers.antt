use Rattle.std.proofs.Common.{◌++◌, ◌∷◌, [], sym, ◌∙◌, arith}
use Rattle.std.proofs.lemmas.List.FromFn.{map-range_with_len_more}
use Rattle.far_replay.specs.Moment.{moment_in}
use Rattle.far_replay.specs.Turn.{log_line}
use Rattle.std.proofs.lemmas.List.{take_more_set}
use Rattle.far_replay.proofs.inquiries.tell_logs.Goals as goal

pub loop-log-preserved : goal.loop-log-preserved
loop-log-preserved c =
    take_more_set c.loop-log.lines c.loop-log.log c.log_told.result (omega arith)
    ∙ (λ i. c.loop-log.invariant i ++ c.log_told.ensures i ∷ [])
    ∙ sym (map-range_with_len_more (log_line (moment_in c.args.evac.now)) 0 c.loop-log.log c.loop-log.log (omega arith))
