use Rattle.far_evac.proofs.laws.none_strays.Goals as goal
use Rattle.far_evac.proofs.Comers.{comers_join, events_bring_none, owners_bring_none}
use Rattle.far_evac.proofs.Strays.{aborting_none, callers_none, calls_none, found_none, marking_none, no_round, polling_none, risen, round_none, rounds_none, rows_none, selecting_none, turns_none, walking_none}

pub returns : goal.returns
returns c = record {
  start = no_round;
  risen = risen;
  selecting = selecting_none;
  marking = marking_none;
  polling = polling_none;
  walking = walking_none;
  aborting = aborting_none;
  turns = turns_none;
  whole = round_none;
  found = found_none;
  calls = calls_none;
  rows = rows_none;
  rounds = rounds_none;
  callers = callers_none;
  joined = comers_join;
  owners = owners_bring_none;
  events = events_bring_none;
}
