-- A log has one kind.
use Rattle.std.proofs.Common.{◌≡◌, ◌≢◌}
use Rattle.far_events.specs.declared.event.Kind.{Kind}
use Rattle.far_events.specs.declared.event.Kind.TheVariants.{Free, Open, Sealed}

pub sealed_used : (kind : Kind) → kind ≡ Sealed → kind ≢ Free
sealed_used kind shut free = absurd cc

pub open_unsealed : (kind : Kind) → kind ≡ Open → kind ≢ Sealed
open_unsealed kind opens shut = absurd cc
