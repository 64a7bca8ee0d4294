-- The shapes that a heap may have.
use Rattle.std.specs.Prelude.{Bool, ◌&&◌, nat_lt, nat_le}
use Rattle.far_word.specs.declared.sizes.TheConstants.{EPOCH_END, LEAST_LOGS, LEAST_MUTATORS, MOST_LOGS, MOST_MUTATORS}
use Rattle.far_events.specs.declared.shape.Shape.{Shape}

abbrev pub is_shape : Shape → Bool
is_shape shape = nat_le LEAST_LOGS shape.logs && nat_le shape.logs MOST_LOGS && nat_le LEAST_MUTATORS shape.mutators && nat_le shape.mutators MOST_MUTATORS && nat_lt shape.epoch EPOCH_END
