-- When a worker has no room: its devices don't take what lies near.
use Rattle.std.specs.Prelude.{◌≡◌, ℕ, IfSome, Some, List, length, Result, Err}
use Rattle.far_device.specs.declared.fault.DeviceFault.{DeviceFault}
use Rattle.far_private.specs.Objects.{Object}
use Rattle.far_pool.specs.declared.handle.Handle.{Handle}
use Rattle.far_pool.specs.Pool.{Pool, at}

module _ (D : Type 0) (writes : D → ℕ → List ℕ → Result (Unit {0}) DeviceFault → D → Type 0) where
  -- a device of this type, in some state, was asked to take an object of this heap as it is, and refused. Which device it was, and when, isn't said
  pub record IsNotTaken (w : Pool) (heap : ℕ) : Type 0 where
    pub handle : Handle
    pub beside : handle.heap ≡ heap
    pub is : Object
    pub found : at w handle ≡ Some is
    -- its bytes; which they are is known over honest devices
    pub bytes : List ℕ
    pub long : length bytes ≡ is.len
    pub own : IfSome is.bytes (λ all. bytes ≡ all)
    -- the write that was refused
    pub before : D
    pub fault : DeviceFault
    pub after : D
    pub refused : writes before handle.pointer bytes (Err fault) after

  -- the same of an object of some heap
  abbrev pub IsStuck : Pool → Type 0
  IsStuck w = (heap : ℕ) × IsNotTaken w heap

  -- a device that takes all that it is given
  abbrev pub TakesAll : Type 0
  TakesAll = (before : D) (key : ℕ) (bytes : List ℕ) (fault : DeviceFault) (after : D) → writes before key bytes (Err fault) after → ⊥

  -- over such devices no worker is stuck: one of three logs a heap or more never answers that it has no room
  abbrev pub HasRoom : Type 0
  HasRoom = TakesAll → (w : Pool) → IsStuck w → ⊥
