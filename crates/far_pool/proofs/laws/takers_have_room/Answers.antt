use Rattle.far_pool.proofs.Rooms.{takers}
use Rattle.far_pool.proofs.laws.takers_have_room.Goals as goal

pub returns : goal.returns
returns g c = takers g.D.Device.writes
