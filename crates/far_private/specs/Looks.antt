-- What is told of an object by its cell, and what a new object of given bytes is.
use Rattle.std.specs.Prelude.{◌≡◌, ℕ, true, Option, Some, None, IsSome, List}
use Rattle.far_word.specs.declared.pointer.PtrWord.{PtrWord}
use Rattle.far_word.specs.declared.pointer.PtrWord.TheVariants.{Free, Near, Far}
use Rattle.far_word.specs.Pointer.{read_of}
use Rattle.far_events.specs.events.Pin.{place_to_view}
use Rattle.far_events.specs.state.State.{State, put}
use Rattle.far_private.specs.Heap.{object_with}
use Rattle.far_private.specs.Objects.{Objects}

-- the data structure that a cell names, near or far
abbrev pub named_structure : Option PtrWord → ℕ
named_structure None = 0
named_structure (Some Free) = 0
named_structure (Some (Near len ds place marks)) = ds
named_structure (Some (Far len ds marks)) = ds

-- a new object of these bytes
abbrev pub with_made : ℕ → ℕ → List ℕ → Objects → Objects
with_made p ds bytes o = record o { object = put o.object p (Some (object_with o.honest ds bytes)) }

-- an object that was just made: it is used, nobody views it, and a view may rest where it lies
pub record IsFresh (s : State) (p : ℕ) : Type 0 where
  pub used : s.used p ≡ true
  pub unheld : s.held p ≡ None
  pub rests : IsSome (place_to_view (read_of (s.cell p)))
