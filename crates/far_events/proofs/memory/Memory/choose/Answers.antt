use Rattle.std.proofs.Common.{◌≡◌, ◌∙◌, ap, arith, cond, nat_lt, sym}
use Rattle.far_events.specs.events.Advance.{is_among}
use Rattle.far_events.specs.state.Memory.{state_of}
use Rattle.far_events.specs.state.State.{State, put}
use Rattle.far_events.proofs.events.Advance.{chosen_is}
use Rattle.far_events.proofs.Put.{first_more, first_none}
use Rattle.far_events.proofs.memory.Memory.choose.Goals as goal

pub loop-log-init : goal.loop-log-init
loop-log-init c = λ i. record (state_of c.args.self.now) { round = sym (first_none (is_among c.args.logs) (state_of c.args.self.now).round) i }

pub loop-log-preserved : goal.loop-log-preserved
loop-log-preserved c =
    let s : State = state_of c.args.self.now in
    c.set_in_round.ensures
    ∙ ap (λ (t : State). record t { round = put t.round c.loop-log.log c.is_among.result }) c.loop-log.invariant
    ∙ (λ i. record s { round = put (λ k. cond (nat_lt k c.loop-log.log) (is_among c.args.logs k) (s.round k)) c.loop-log.log (c.is_among.ensures i) })
    ∙ (λ i. record s { round = first_more (is_among c.args.logs) s.round c.loop-log.log i })

pub returns : goal.returns
returns c =
    let s : State = state_of c.args.self.now in
    let all : c.loop-log.log ≡ s.logs = omega (arith, c.loop-log.auto.log-end, c.loop-log-test.false, c.logs-log-end.ensures) in
    c.loop-log.invariant
    ∙ ap (λ n. record s { round = λ k. cond (nat_lt k n) (is_among c.args.logs k) (s.round k) }) all
    ∙ (λ i. record s { round = chosen_is s c.requires.law c.args.logs c.requires.shut i })
