-- What a refusal of a call tells, by number.
use Rattle.std.proofs.Common.{◌≡◌, ◌≤◌, ℕ, sym, subst}
use Rattle.std.specs.Prelude.{List, Result}
use Rattle.far_device.specs.declared.fault.DeviceFault.{DeviceFault}
use Rattle.far_device.specs.declared.mem.MemDevice.{MemDevice}
use Rattle.far_device.specs.Mem.{MemWrites}
use Rattle.far_file.specs.declared.sealed.SealedDevice.{SealedDevice}
use Rattle.far_file.specs.declared.seal.NoSeal.{NoSeal}
use Rattle.far_file.specs.contracts.seal.NoSealSeal.TheImpl.{ghosts as seal}
use Rattle.far_file.specs.SealedCalls.{SealedWrites}
use Rattle.far_reserved.specs.declared.reserved.Reserved.{Reserved}
use Rattle.far_reserved.specs.declared.either.EitherDevice.{EitherDevice}
use Rattle.far_reserved.specs.contracts.reserved.ReservedStorage.TheImpl.{ghosts as storage}
use Rattle.far_reserved.specs.Either.{both}
use Rattle.far_pool.specs.declared.handle.Handle.{Handle}
use Rattle.far_pool.specs.Pool.{Pool}
use Rattle.far_pool.specs.Rooms.{IsNotTaken, IsStuck}

-- the device of a heap, and its calls
abbrev pub Side : Type 0
Side = EitherDevice MemDevice (SealedDevice Reserved NoSeal storage seal)

abbrev pub side_writes : Side → ℕ → List ℕ → Result (Unit {0}) DeviceFault → Side → Type 0
side_writes old id bytes answer new = both (λ s t. MemWrites s id bytes answer t) (λ s t. SealedWrites s id bytes answer t) old new

-- the same call, under another name of handle and worker
pub stuck_by : (P : Type 0) (w v : Pool) → w ≡ v → (P → 3 ≤ v.logs → IsStuck Side side_writes v) → P → 3 ≤ w.logs → IsStuck Side side_writes w
stuck_by P w v same stuck = subst (λ (p : Pool). P → 3 ≤ p.logs → IsStuck Side side_writes p) (sym same) stuck

pub taken_by : (P : Type 0) (h k : Handle) (w v : Pool) → k ≡ h → w ≡ v → (P → 3 ≤ v.logs → IsNotTaken Side side_writes v k.heap)
    → P → 3 ≤ w.logs → IsNotTaken Side side_writes w h.heap
taken_by P h k w v same_handle same_worker taken =
    subst (λ (j : Handle). P → 3 ≤ w.logs → IsNotTaken Side side_writes w j.heap) same_handle
    (subst (λ (p : Pool). P → 3 ≤ p.logs → IsNotTaken Side side_writes p k.heap) (sym same_worker) taken)
