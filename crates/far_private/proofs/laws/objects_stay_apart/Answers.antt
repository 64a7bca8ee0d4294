use Rattle.far_private.proofs.Histories.{apart, dropped_gone, last_made}
use Rattle.far_private.proofs.laws.objects_stay_apart.Goals as goal

pub returns : goal.returns
returns c = record { made = last_made; gone = dropped_gone; apart = apart }
