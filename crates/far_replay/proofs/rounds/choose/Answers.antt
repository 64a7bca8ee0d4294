use Rattle.std.proofs.Common.{◌∙◌, ap}
use Rattle.far_text.specs.Command.{By, as_choice, as_policy}
use Rattle.far_replay.specs.Moment.{moment_in}
use Rattle.far_replay.proofs.Choices.{least_given, script_allowed, script_given, script_refused}
use Rattle.far_replay.proofs.rounds.choose.Goals as goal

pub returns-in-LeastLive-clause-given : goal.returns-in-LeastLive-clause-given
returns-in-LeastLive-clause-given c =
    least_given (moment_in c.args.evac.now) c.args.evac.now.book.near.core.law c.keeps_law.ensures.moment (as_choice c.args.choice) c.from-most.result c.args.most c.select-in-LeastLive.result
    (ap as_choice c.in-By.is ∙ ap (λ p. By (as_policy p)) c.in-LeastLive.is) c.from-most.ensures c.select-in-LeastLive.ensures.gives

pub returns-in-Script-clause-allowed : goal.returns-in-Script-clause-allowed
returns-in-Script-clause-allowed c =
    script_allowed (moment_in c.args.evac.now) c.in-Script.logs.now (as_choice c.args.choice) (ap as_choice c.in-Script.is) c.from-most.result c.args.most c.from-most.ensures _ _ c.select-in-Script.result
    c.select-in-Script.ensures.barred c.select-in-Script.ensures.gives

pub returns-in-Script-clause-given : goal.returns-in-Script-clause-given
returns-in-Script-clause-given c =
    script_given (moment_in c.args.evac.now) c.in-Script.logs.now (as_choice c.args.choice) (ap as_choice c.in-Script.is) c.from-most.result c.args.most c.from-most.ensures _ c.select-in-Script.result
    c.select-in-Script.ensures.gives

pub returns-in-Script-clause-refused : goal.returns-in-Script-clause-refused
returns-in-Script-clause-refused c =
    script_refused (moment_in c.args.evac.now) c.in-Script.logs.now (as_choice c.args.choice) (ap as_choice c.in-Script.is) c.from-most.result c.args.most c.from-most.ensures _ _ c.select-in-Script.result
    c.select-in-Script.ensures.barred c.select-in-Script.ensures.refused
