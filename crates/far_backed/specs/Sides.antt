-- What a worker's device refused, by what its calls are.
use Rattle.std.specs.Prelude.{ℕ, List, Result}
use Rattle.far_device.specs.declared.fault.DeviceFault.{DeviceFault}
use Rattle.far_pool.specs.Pool.{Pool}
use Rattle.far_pool.specs.Rooms.{IsNotTaken, IsStuck}

module _ {D : Type 0} where
  -- its write, by which a heap was to have room
  abbrev pub IsStuckBy : (D → ℕ → List ℕ → Result (Unit {0}) DeviceFault → D → Type 0) → Pool → Type 0
  IsStuckBy writes w = IsStuck D writes w

  abbrev pub IsNotTakenBy : (D → ℕ → List ℕ → Result (Unit {0}) DeviceFault → D → Type 0) → Pool → ℕ → Type 0
  IsNotTakenBy writes w heap = IsNotTaken D writes w heap
