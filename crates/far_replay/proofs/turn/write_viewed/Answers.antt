use Rattle.std.proofs.Common.{◌∙◌, ap}
use Rattle.far_events.specs.events.Ranges.{after_events}
use Rattle.far_replay.specs.Moment.{state_in}
use Rattle.far_replay.proofs.RangeTurns.{stores_asked}
use Rattle.far_replay.proofs.turn.write_viewed.Goals as goal

pub returns-clause-state : goal.returns-clause-state
returns-clause-state c =
    c.store_bytes.ensures.state
    ∙ ap (after_events (state_in c.args.evac.now)) (stores_asked (state_in c.args.evac.now) c.requires.law c.args.access c.args.bytes.now c.requires.viewed c.requires.bytes)
