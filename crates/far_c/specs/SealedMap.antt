-- What a `SealedMap` owns: nothing, or the same as a `Box<BackedMap>`.
use Rattle.std.specs.Prelude.{Option, Some, None}
use base.Fml.{Fml, ftrue}
use base.Stored.{Coded}
use denote.RawPtr.{Ptr}
use Rattle.std.specs.Box.Ownership.{box_owns}
use Rattle.std.specs.Global.{Global}
use Rattle.std_heap.specs.contracts.GlobalAllocator.TheImpl.{ghosts}
use Rattle.std.specs.Coded.{coded_option}
use Rattle.far_backed.specs.contracts.map.BackedMap.{the_row}

abbrev pub sealed_map_owns : Global → Ptr → Option the_row.Denot → Fml
sealed_map_owns alloc p None = ftrue
sealed_map_owns alloc p (Some kept) = box_owns (ghosts.dealloc_token alloc) the_row p kept

abbrev pub option_kept_coded : Coded (Option the_row.Denot)
option_kept_coded = coded_option the_row.coded
