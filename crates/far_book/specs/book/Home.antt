-- Where a pointer's object is, by its cell.
use Rattle.std.specs.Prelude.{Option, Some, None}
use Rattle.far_word.specs.declared.pointer.PtrWord.{PtrWord}
use Rattle.far_word.specs.declared.pointer.PtrWord.TheVariants as pointer
use Rattle.far_book.specs.declared.home.Home.{Home}
use Rattle.far_book.specs.declared.home.Home.TheVariants.{Near, Far}

-- at its place, or far, with its marks; nowhere, where the cell is free
abbrev pub home_of : Option PtrWord → Option Home
home_of None = None
home_of (Some pointer.Free) = None
home_of (Some (pointer.Near len ds place marks)) = Some (Near place marks)
home_of (Some (pointer.Far len ds marks)) = Some (Far marks)
