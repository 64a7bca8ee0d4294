-- What a device in memory holds, what it counts, and what its calls are.
use Rattle.std.specs.Prelude.{◌≡◌, ℕ, ◌+◌, ◌%◌, ◌^◌, nat_eq, nat_lt, List, Option, Some, None, IsSome, Result, Ok, Err, if◌then◌else◌}
use Rattle.std.specs.Option.{option_map}
use Rattle.std.specs.HashMap.{get}
use Rattle.far_device.specs.Contents.{KeepsOthers}
use Rattle.far_device.specs.Row.{bytes_in}
use Rattle.far_device.specs.declared.fault.DeviceFault.{DeviceFault}
use Rattle.far_device.specs.declared.fault.DeviceFault.TheVariants.{Memory, Device}
use Rattle.far_device.specs.declared.mem.MemDevice.{MemDevice}
use Rattle.far_device.specs.declared.mem.TheConstants.{ROW}

-- the bytes under a key
abbrev pub bytes_at : MemDevice → ℕ → Option (List ℕ)
bytes_at d id = if nat_lt id ROW then bytes_in d.row id else option_map (λ bytes. bytes.items) (get nat_eq d.others id)

-- how many reads of nothing there were, modulo 2^64
abbrev pub faults_of : MemDevice → ℕ
faults_of d = d.faults % 2 ^ 64

-- a write: the bytes are under the key; or memory was refused, and nothing has changed
abbrev pub MemWrites : MemDevice → ℕ → List ℕ → Result (Unit {0}) DeviceFault → MemDevice → Type 0
MemWrites old id bytes (Ok done) new = (bytes_at new id ≡ Some bytes) × KeepsOthers (bytes_at old) (bytes_at new) id × (faults_of new ≡ faults_of old)
MemWrites old id bytes (Err why) new = (why ≡ Memory) × (bytes_at new ≡ bytes_at old) × (faults_of new ≡ faults_of old)

-- a read: the bytes under the key; or memory for them was refused; or nothing is there, and that is one fault more
abbrev pub MemReads : MemDevice → ℕ → Result (List ℕ) DeviceFault → MemDevice → Type 0
MemReads old id (Ok bytes) new = (bytes_at old id ≡ Some bytes) × (bytes_at new ≡ bytes_at old) × (faults_of new ≡ faults_of old)
MemReads old id (Err Memory) new = IsSome (bytes_at old id) × (bytes_at new ≡ bytes_at old) × (faults_of new ≡ faults_of old)
MemReads old id (Err Device) new = (bytes_at old id ≡ None) × (bytes_at new ≡ bytes_at old) × (faults_of new ≡ (faults_of old + 1) % 2 ^ 64)

-- a key let go of
abbrev pub MemLetsGo : MemDevice → ℕ → MemDevice → Type 0
MemLetsGo old id new = (bytes_at new id ≡ None) × KeepsOthers (bytes_at old) (bytes_at new) id × (faults_of new ≡ faults_of old)
