-- Which object a round deals with next.
use Rattle.std.specs.Prelude.{◌==◌, ◌&&◌, Bool, false, Option, Some, None}
use Rattle.far_word.specs.declared.pointer.Place.{Place}
use Rattle.far_word.specs.declared.pointer.PtrWord.{PtrWord}
use Rattle.far_word.specs.declared.pointer.PtrWord.TheVariants.{Free, Near, Far}

-- near at this place, with EVAC
abbrev pub leaves_from : Place → Option PtrWord → Bool
leaves_from from None = false
leaves_from from (Some Free) = false
leaves_from from (Some (Near len ds place marks)) = marks.evac && (place.log == from.log && place.at == from.at)
leaves_from from (Some (Far len ds marks)) = false
