-- Which pointers count as objects.
use Rattle.std.specs.Prelude.{Bool, false, not}
use Rattle.far_word.specs.declared.pointer.PtrWord.{PtrWord}
use Rattle.far_word.specs.declared.pointer.PtrWord.TheVariants.{Free, Near, Far}

-- a pointer names an object that isn't dropped
abbrev pub names_kept : PtrWord → Bool
names_kept Free = false
names_kept (Near len ds place marks) = not marks.dropped
names_kept (Far len ds marks) = not marks.dropped

-- that object lies near
abbrev pub names_near : PtrWord → Bool
names_near Free = false
names_near (Near len ds place marks) = not marks.dropped
names_near (Far len ds marks) = false
