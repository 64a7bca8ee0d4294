-- What stands in a row of places.
use Rattle.std.specs.Prelude.{ℕ, List, Option, Some, None, cond}
use Rattle.std.specs.List.{slice_get}
use Rattle.std.specs.Option.{option_and_then}
use Rattle.std.specs.Global.{Vec}
use Rattle.far_device.specs.declared.slot.Slot.{Slot}

-- the bytes that a place holds, if it holds any
abbrev pub bytes_of : Slot → Option (List ℕ)
bytes_of place = cond place.held (Some place.buffer.items) None

-- the bytes under a key of the row; none where it is too short
abbrev pub bytes_in : Vec Slot → ℕ → Option (List ℕ)
bytes_in row id = option_and_then (λ place. bytes_of place) (slice_get row.items id)
