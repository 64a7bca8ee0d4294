use Rattle.std.proofs.Common.{subst, sym}
use Rattle.std.specs.Prelude.{IfErr, IfOk}
use Rattle.far_text.specs.Command.{LeastLive, Oldest, as_policy}
use Rattle.far_split.specs.BookTold.{EndsRound, StopsRound}
use Rattle.far_split.proofs.RoundsBy.{all_ended_by, all_stopped_by}
use Rattle.far_split.proofs.rounds.run_by.Goals as goal

pub returns-in-Oldest-clause-refused : goal.returns-in-Oldest-clause-refused
returns-in-Oldest-clause-refused g c =
    let heap = g.K.HeapName.heap in
    subst (λ policy. IfErr c.run_round.result (λ fault. StopsRound heap (as_policy policy) c.args.most c.args.turns fault.why fault.so_far)) (sym c.in-Oldest.is)
    (all_stopped_by _ Oldest (λ before after rows most outcome given. given) heap _ _ c.from-most.result c.args.most c.args.turns c.run_round.result c.from-most.ensures c.run_round.ensures.refused)

pub returns-in-LeastLive-clause-refused : goal.returns-in-LeastLive-clause-refused
returns-in-LeastLive-clause-refused g c =
    let heap = g.K.HeapName.heap in
    subst (λ policy. IfErr c.run_round-in-LeastLive.result (λ fault. StopsRound heap (as_policy policy) c.args.most c.args.turns fault.why fault.so_far)) (sym c.in-LeastLive.is)
    (all_stopped_by _ LeastLive (λ before after rows most outcome given. given) heap _ _ c.from-most.result c.args.most c.args.turns c.run_round-in-LeastLive.result c.from-most.ensures c.run_round-in-LeastLive.ensures.refused)

pub returns-in-Oldest-clause-ended : goal.returns-in-Oldest-clause-ended
returns-in-Oldest-clause-ended g c =
    let heap = g.K.HeapName.heap in
    subst (λ policy. IfOk c.run_round.result (EndsRound heap (as_policy policy) c.args.most c.args.turns)) (sym c.in-Oldest.is)
    (all_ended_by _ Oldest (λ before after rows most outcome given. given) heap _ _ c.from-most.result c.args.most c.args.turns c.run_round.result c.from-most.ensures c.run_round.ensures.ended)

pub returns-in-LeastLive-clause-ended : goal.returns-in-LeastLive-clause-ended
returns-in-LeastLive-clause-ended g c =
    let heap = g.K.HeapName.heap in
    subst (λ policy. IfOk c.run_round-in-LeastLive.result (EndsRound heap (as_policy policy) c.args.most c.args.turns)) (sym c.in-LeastLive.is)
    (all_ended_by _ LeastLive (λ before after rows most outcome given. given) heap _ _ c.from-most.result c.args.most c.args.turns c.run_round-in-LeastLive.result c.from-most.ensures c.run_round-in-LeastLive.ensures.ended)
