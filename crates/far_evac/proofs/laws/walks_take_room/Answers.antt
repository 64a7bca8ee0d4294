use Rattle.far_evac.proofs.laws.walks_take_room.Goals as goal
use Rattle.far_evac.proofs.RoomLaw.{walk_takes_room}
use Rattle.far_evac.proofs.RoomTurns.{call_takes_room, round_takes_room, round_takes_some, turns_take_room, turns_take_some}

pub returns : goal.returns
returns c = record {
  walking = walk_takes_room;
  call = call_takes_room;
  row = turns_take_some;
  round = round_takes_some;
  turns = turns_take_room;
  whole = round_takes_room;
}
