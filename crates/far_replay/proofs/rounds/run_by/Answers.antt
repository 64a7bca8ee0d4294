use Rattle.std.proofs.Common.{ap, false}
use Rattle.far_evac.specs.Choosing.{after_selecting}
use Rattle.far_evac.specs.Turns.{turn_size}
use Rattle.far_evac.proofs.TurnSteps.{turns_alone}
use Rattle.far_text.specs.Command.{as_policy}
use Rattle.far_replay.specs.Moment.{FarSide, moment_in}
use Rattle.far_replay.proofs.Choices.{least_chosen, least_ends, least_leads, oldest_chosen, oldest_ends}
use Rattle.far_replay.proofs.FarReads.{FarLetsGo, FarWrites}
use Rattle.far_replay.proofs.HoldingRounds.{round_keeps}
use Rattle.far_replay.proofs.Stopping.{never_first, round_breaks, to_write}
use Rattle.far_replay.proofs.Walking.{begun_alone, round_spends}
use Rattle.far_replay.proofs.rounds.run_by.Goals as goal

pub returns-in-LeastLive-clause-moment : goal.returns-in-LeastLive-clause-moment
returns-in-LeastLive-clause-moment c =
    least_leads (moment_in c.args.evac.now) c.args.evac.now.book.near.core.law c.keeps_law.ensures.moment (as_policy c.args.policy) c.from-most.result c.args.most c.args.turns c.run_round_alone-in-LeastLive.result
    (moment_in c.run_round_alone-in-LeastLive.new.self) (ap as_policy c.in-LeastLive.is) c.from-most.ensures c.run_round_alone-in-LeastLive.ensures.runs

pub returns-in-LeastLive-clause-end : goal.returns-in-LeastLive-clause-end
returns-in-LeastLive-clause-end c =
    least_ends (moment_in c.args.evac.now) c.args.evac.now.book.near.core.law c.keeps_law.ensures.moment (as_policy c.args.policy) c.from-most.result c.args.most c.args.turns c.run_round_alone-in-LeastLive.result
    (moment_in c.run_round_alone-in-LeastLive.new.self) (ap as_policy c.in-LeastLive.is) c.from-most.ensures c.run_round_alone-in-LeastLive.ensures.runs

pub returns-in-Oldest-clause-end : goal.returns-in-Oldest-clause-end
returns-in-Oldest-clause-end c =
    oldest_ends (moment_in c.args.evac.now) c.args.evac.now.book.near.core.law c.keeps_law.ensures.moment (as_policy c.args.policy) c.from-most.result c.args.most c.args.turns c.run_round_alone.result
    (moment_in c.run_round_alone.new.self) (ap as_policy c.in-Oldest.is) c.from-most.ensures c.run_round_alone.ensures.runs

pub returns-in-Oldest-clause-stopped : goal.returns-in-Oldest-clause-stopped
returns-in-Oldest-clause-stopped c =
    round_breaks (moment_in c.args.evac.now) (moment_in c.run_round_alone.new.self) (as_policy c.args.policy) c.args.most c.args.turns _
    (oldest_chosen (moment_in c.args.evac.now) c.args.evac.now.book.near.core.law c.keeps_law.ensures.moment (as_policy c.args.policy) c.from-most.result c.args.most (ap as_policy c.in-Oldest.is) c.from-most.ensures) _
    (λ logs fault asked. let (tallies, u, between, tally, made, asking, fewer, phase, stops, refuses, sum, lawful, keys) = asked in
    let single = turns_alone (after_selecting (moment_in c.args.evac.now) logs) (begun_alone (moment_in c.args.evac.now) logs c.keeps_law.ensures.exact) tallies false u made in
    (u, turn_size, tally, stops.alone single, to_write FarSide FarWrites FarLetsGo _ _ _ _ _ _ (refuses.alone single))) _
    (λ fault first. never_first fault first.2) c.run_round_alone.result (λ why bars. (c.run_round_alone.ensures.barred why bars).0) c.run_round_alone.ensures.refused

pub returns-in-LeastLive-clause-stopped : goal.returns-in-LeastLive-clause-stopped
returns-in-LeastLive-clause-stopped c =
    let ran = c.run_round_alone-in-LeastLive in
    round_breaks (moment_in c.args.evac.now) (moment_in ran.new.self) (as_policy c.args.policy) c.args.most c.args.turns _
    (least_chosen (moment_in c.args.evac.now) c.args.evac.now.book.near.core.law c.keeps_law.ensures.moment (as_policy c.args.policy) c.from-most.result c.args.most (ap as_policy c.in-LeastLive.is) c.from-most.ensures) _
    (λ logs fault asked. let (tallies, u, between, tally, made, asking, fewer, phase, stops, refuses, sum, lawful, keys) = asked in
    let single = turns_alone (after_selecting (moment_in c.args.evac.now) logs) (begun_alone (moment_in c.args.evac.now) logs c.keeps_law.ensures.exact) tallies false u made in
    (u, turn_size, tally, stops.alone single, to_write FarSide FarWrites FarLetsGo _ _ _ _ _ _ (refuses.alone single))) _
    (λ fault first. never_first fault first.2) ran.result (λ why bars. (ran.ensures.barred why bars).0) ran.ensures.refused

pub returns-in-Oldest-clause-spent : goal.returns-in-Oldest-clause-spent
returns-in-Oldest-clause-spent c =
    let ran = c.run_round_alone in
    round_spends c.args.evac.now ran.new.self (moment_in c.args.evac.now) c.keeps_law.ensures.exact (moment_in ran.new.self) c.args.turns _ _ _ _ _ _ _ ran.result ran.ensures.asked ran.ensures.barred ran.ensures.refused

pub returns-in-LeastLive-clause-spent : goal.returns-in-LeastLive-clause-spent
returns-in-LeastLive-clause-spent c =
    let ran = c.run_round_alone-in-LeastLive in
    round_spends c.args.evac.now ran.new.self (moment_in c.args.evac.now) c.keeps_law.ensures.exact (moment_in ran.new.self) c.args.turns _ _ _ _ _ _ _ ran.result ran.ensures.asked ran.ensures.barred ran.ensures.refused

pub returns-in-Oldest-clause-holds : goal.returns-in-Oldest-clause-holds
returns-in-Oldest-clause-holds c =
    let ran = c.run_round_alone in
    round_keeps c.args.evac.now ran.new.self c.args.evac.now.book.near.core.law c.keeps_law.ensures.exact c.args.turns _ _ _ _ _ _ _ ran.result ran.ensures.asked ran.ensures.barred ran.ensures.refused

pub returns-in-LeastLive-clause-holds : goal.returns-in-LeastLive-clause-holds
returns-in-LeastLive-clause-holds c =
    let ran = c.run_round_alone-in-LeastLive in
    round_keeps c.args.evac.now ran.new.self c.args.evac.now.book.near.core.law c.keeps_law.ensures.exact c.args.turns _ _ _ _ _ _ _ ran.result ran.ensures.asked ran.ensures.barred ran.ensures.refused
