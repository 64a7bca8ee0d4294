-- The far side of the heap that a split text runs on, and what its calls are.
use Rattle.std.specs.Prelude.{◌≡◌, ℕ, ◌-◌, ◌==◌, List, Option, Result}
use Rattle.far_device.specs.FailAt.{Counts}
use Rattle.far_device.specs.Liar.{told}
use Rattle.far_device.specs.Mem.{MemLetsGo, MemReads, MemWrites, bytes_at}
use Rattle.far_device.specs.declared.fail_at.FailAt.{FailAt}
use Rattle.far_device.specs.declared.fault.DeviceFault.{DeviceFault}
use Rattle.far_device.specs.declared.liar.Liar.{Liar}
use Rattle.far_device.specs.declared.mem.MemDevice.{MemDevice}

-- a device in memory, of which one call may fail, or one read lie
abbrev pub FarSide : Type 0
FarSide = Liar (FailAt MemDevice)

-- one write: it fails if it is the call that is to; else the memory is asked. A lie stays as near as it was
abbrev pub FarWrites : FarSide → ℕ → List ℕ → Result (Unit {0}) DeviceFault → FarSide → Type 0
FarWrites d id bytes answer e = Counts d.inner.left d.inner.own d.inner.inner answer e.inner.left e.inner.own e.inner.inner (MemWrites d.inner.inner id bytes answer e.inner.inner) × (e.lie ≡ d.lie) × (e.left ≡ d.left)

-- one read of it: the device in memory was asked, unless this call was to fail; its answer was told, or a lie of it if this read was to lie; and one read is gone
abbrev pub FarReads : FarSide → ℕ → Result (List ℕ) DeviceFault → FarSide → Type 0
FarReads d id answer e = (given : Result (List ℕ) DeviceFault)
    × Counts d.inner.left d.inner.own d.inner.inner given e.inner.left e.inner.own e.inner.inner (MemReads d.inner.inner id given e.inner.inner)
    × (answer ≡ told (d.left == 1) d.lie given) × (e.lie ≡ d.lie) × (e.left ≡ d.left - 1)

-- a key let go of
abbrev pub FarLetsGo : FarSide → ℕ → FarSide → Type 0
FarLetsGo d id e = (MemLetsGo d.inner.inner id e.inner.inner × (e.inner.left ≡ d.inner.left) × (e.inner.own ≡ d.inner.own)) × (e.lie ≡ d.lie) × (e.left ≡ d.left)

-- what is under a key
abbrev pub far_bytes : FarSide → ℕ → Option (List ℕ)
far_bytes d = bytes_at d.inner.inner
