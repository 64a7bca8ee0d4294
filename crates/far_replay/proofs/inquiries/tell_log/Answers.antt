use Rattle.std.proofs.Common.{◌≡◌, ◌<◌, ◌∷◌, [], true, nat_lt, ap, ◌∙◌, arith}
use Rattle.std.proofs.lemmas.Bool.{lt-ltb}
use Rattle.std.proofs.lemmas.List.{take_more_set}
use Rattle.far_core.specs.declared.machine.Core.{Core}
use Rattle.far_core.specs.state.CoreState.{core_state}
use Rattle.far_events.specs.state.State.{State}
use Rattle.far_replay.specs.Moment.{state_in}
use Rattle.far_reply.specs.Reply.{Logs}
use Rattle.far_reply.specs.declared.reply.LogLine.{LogLine}
use Rattle.far_replay.proofs.inquiries.tell_log.Goals as goal

pub returns-clause-reply : goal.returns-clause-reply
returns-clause-reply c =
    let s : State = state_in c.args.evac.now in
    let inside : c.args.log < s.logs = omega (arith, c.if-log-from.false, c.from.ensures, c.logs.ensures, ap (λ (x : Core). (core_state x).logs) c.core_of.ensures) in
    let is : nat_lt c.args.log s.logs ≡ true = lt-ltb c.args.log s.logs inside in
    rw is (ap Logs (take_more_set c.args.scratch.now.lines 0 c.log_told.result (omega arith) ∙ ap (λ (line : LogLine). line ∷ []) c.log_told.ensures))
