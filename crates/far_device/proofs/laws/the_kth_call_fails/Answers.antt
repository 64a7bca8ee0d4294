use Rattle.far_device.proofs.KthCall.{kth_fails}
use Rattle.far_device.proofs.laws.the_kth_call_fails.Goals as goal
use Rattle.far_device.specs.declared.fail_at.FailAt.{FailAt}

pub returns : goal.returns
returns g c = kth_fails (λ (s : FailAt g.row.D.Denot). s.left) (λ s. s.own) (λ s. s.inner) g.D.Device.writes g.D.Device.reads g.D.Device.lets_go
