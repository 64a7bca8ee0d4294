-- A range of an object that was read, changed and written.
use Rattle.std.specs.Prelude.{◌≡◌, ℕ, ◌+◌, List, IfSome, slice_range}
use Rattle.far_private.specs.Heap.{Heap, bytes_in, with_written as with_written_in}
use Rattle.far_private.specs.Objects.{IsRead, Objects, with_written}

-- what was read was given to one call, whose outcome is told by its bytes before and after; these lie there then, and all else is as before
pub record Changes (outcome : List ℕ → Unit {0} → List ℕ → Type 0) (p from count : ℕ) (bytes : List ℕ) (o now : Objects) : Type 0 where
  pub read : List ℕ
  pub told : IsRead o p from count read
  pub called : outcome read tt bytes
  pub written : now ≡ with_written p from bytes o

-- the same, as users see it
pub record Updates (outcome : List ℕ → Unit {0} → List ℕ → Type 0) (p from count : ℕ) (bytes : List ℕ) (h now : Heap) : Type 0 where
  pub read : List ℕ
  pub told : IfSome (bytes_in h p) (λ all. read ≡ slice_range all from (from + count))
  pub called : outcome read tt bytes
  pub written : now ≡ with_written_in p from bytes h
