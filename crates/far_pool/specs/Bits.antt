-- A handle as one number.
use Rattle.std.specs.Prelude.{ℕ, ◌+◌, ◌*◌, ◌<◌}
use Rattle.far_pool.specs.declared.handle.Handle.{Handle}

abbrev pub bits_of : Handle → ℕ
bits_of h = h.heap * 4294967296 + h.pointer * 65536 + h.generation

pub record IsHandle (h : Handle) : Type 0 where
  pub heap : h.heap < 4294967296
  pub pointer : h.pointer < 65536
  pub generation : h.generation < 65536
