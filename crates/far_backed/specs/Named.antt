-- Objects by numbers of 64 bits: a handle as one number, and the handle of any number.
use Rattle.std.specs.Prelude.{ℕ, ◌/◌, ◌%◌, Option, List}
use Rattle.far_private.specs.Objects.{Object}
use Rattle.far_pool.specs.declared.handle.Handle.{Handle}
use Rattle.far_pool.specs.Pool.{Pool, at, bytes_at}

-- its heap in the upper 32 bits, below it pointer and generation in 16 bits each
abbrev pub handle_of : ℕ → Handle
handle_of n = record { heap = n / 4294967296; pointer = n / 65536 % 65536; generation = n % 65536 }

-- the object of a number, if there is one
abbrev pub object_of : Pool → ℕ → Option Object
object_of w n = at w (handle_of n)

-- its bytes, where they are known: the far side is memory
abbrev pub bytes_of : Pool → ℕ → Option (List ℕ)
bytes_of w n = bytes_at w (handle_of n)

-- the most heaps of a worker
abbrev pub most_heaps : ℕ
most_heaps = 2097152
