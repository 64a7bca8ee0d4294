-- A worker's objects by number: a handle's is its place in order, so pointer p of heap k has 2,048 k + p.
use Rattle.std.specs.Prelude.{ℕ, ◌/◌, ◌%◌, ◌<◌, Option}
use Rattle.far_word.specs.declared.sizes.TheConstants.{POINTERS}
use Rattle.far_objects.specs.Far.{Far, Known}
use Rattle.far_private.specs.Numbered.{far_by, known_by}
use Rattle.far_private.specs.Objects.{Object}
use Rattle.far_pool.specs.declared.handle.Handle.{Handle}
use Rattle.far_pool.specs.Pool.{Pool, generation_on, object_on, shelf_in}

-- the one handle of a number that may have an object now
abbrev pub handle_at : Pool → ℕ → Handle
handle_at w n = record { heap = n / POINTERS; pointer = n % POINTERS; generation = generation_on (shelf_in w (n / POINTERS)) (n % POINTERS) }

-- the object of a number, whatever its generation
abbrev pub held : Pool → ℕ → Option Object
held w n = object_on (shelf_in w (n / POINTERS)) (n % POINTERS)

abbrev pub far_of : Pool → Far
far_of w = far_by w.honest (held w)

-- of so many heaps, a handle of one that has a number
abbrev pub IsOfHeaps : ℕ → Handle → Type 0
IsOfHeaps heaps h = (h.heap < heaps) × (h.pointer < POINTERS)

pub known_of : (w : Pool) → Known (far_of w)
known_of w = known_by w.honest (held w)
