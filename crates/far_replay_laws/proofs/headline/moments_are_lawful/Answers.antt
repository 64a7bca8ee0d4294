use Rattle.far_replay.proofs.Lasting.{moments_last}
use Rattle.far_replay_laws.proofs.OutputLaws.{objects_whole, heap_lawful}
use Rattle.far_replay_laws.proofs.RoundChosen.{rounds_are_chosen}
use Rattle.far_replay_laws.proofs.TakingRoom.{shapes_are}
use Rattle.far_replay_laws.proofs.ViewLaws.{events_reach}
use Rattle.far_replay_laws.proofs.headline.moments_are_lawful.Goals as goal

pub returns : goal.returns
returns c = record { shapes = shapes_are; begin = heap_lawful; last = moments_last; whole = objects_whole; reach = events_reach; chosen = rounds_are_chosen }
