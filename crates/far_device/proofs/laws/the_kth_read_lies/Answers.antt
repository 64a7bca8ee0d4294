use Rattle.far_device.proofs.KthCall.{kth_lies}
use Rattle.far_device.proofs.laws.the_kth_read_lies.Goals as goal
use Rattle.far_device.specs.declared.liar.Liar.{Liar}

pub returns : goal.returns
returns g c = kth_lies (λ (s : Liar g.row.D.Denot). s.left) (λ s. s.lie) (λ s. s.inner) g.D.Device.writes g.D.Device.reads g.D.Device.lets_go
