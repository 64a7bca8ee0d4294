-- Which objects have EVAC.
use Rattle.std.specs.Prelude.{◌==◌, ◌||◌, Bool, true, not, Option, Some, None}
use Rattle.far_word.specs.declared.pointer.PtrWord.{PtrWord}
use Rattle.far_word.specs.declared.pointer.PtrWord.TheVariants.{Free, Near, Far}

-- an object that a cell names has EVAC, if it lies in log 0
abbrev pub evac_in : Option PtrWord → Bool
evac_in None = true
evac_in (Some Free) = true
evac_in (Some (Near len ds place marks)) = not (place.log == 0) || marks.evac
evac_in (Some (Far len ds marks)) = true
