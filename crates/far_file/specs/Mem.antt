-- What calls of storage in memory answer.
use Rattle.std.specs.Prelude.{◌≡◌, ℕ, ◌+◌, ◌^◌, ◌<◌, ◌≤◌, ◌⊎◌, max, List, length, slice_index, Result, Ok, Err}
use Rattle.std.specs.Vec.{vec_capacity, vec_len}
use Rattle.far_file.specs.Positions.{HoldsAt, KeepsOutside}
use Rattle.far_file.specs.declared.fault.StorageFault.{StorageFault}
use Rattle.far_file.specs.declared.fault.StorageFault.TheVariants.{Memory, Short, Full, Medium, Interrupted, Failed}
use Rattle.far_file.specs.declared.memory.MemStorage.{MemStorage}

-- a get: all that were asked for are there, and it gives those; or some of them aren't
abbrev pub MemGets : MemStorage → ℕ → ℕ → Result (List ℕ) StorageFault → Type 0
MemGets m at n (Ok bytes) = (at + n ≤ vec_len m.bytes) × (length bytes ≡ n) × HoldsAt (slice_index m.bytes.items) at bytes
MemGets m at n (Err why) = (why ≡ Short) × (vec_len m.bytes < at + n)

-- a put: the bytes stand there, and the end is theirs or lies behind them; or there was no room, and memory for more was refused; or the position behind
-- them has no number. After a fault all is as it was
abbrev pub MemPuts : MemStorage → ℕ → List ℕ → Result (Unit {0}) StorageFault → MemStorage → Type 0
MemPuts old at bytes (Ok done) new =
    (at + length bytes < 2 ^ 64) × (vec_len new.bytes ≡ max (vec_len old.bytes) (at + length bytes)) × HoldsAt (slice_index new.bytes.items) at bytes
    × KeepsOutside (slice_index old.bytes.items) (slice_index new.bytes.items) at (length bytes)
MemPuts old at bytes (Err Memory) new = (at + length bytes < 2 ^ 64) × (vec_capacity old.bytes < at + length bytes) × (new.bytes.items ≡ old.bytes.items)
MemPuts old at bytes (Err Short) new = ⊥
MemPuts old at bytes (Err Full) new = (2 ^ 64 ≤ at + length bytes) × (new ≡ old)
MemPuts old at bytes (Err Medium) new = ⊥
MemPuts old at bytes (Err Interrupted) new = ⊥
MemPuts old at bytes (Err Failed) new = ⊥

-- what was put is there: a get of as many bytes from the same position gives those, and no fault
abbrev pub PutIsThere : Type 0
PutIsThere = (old new : MemStorage) (at : ℕ) (bytes : List ℕ) (done : Unit {0}) (answer : Result (List ℕ) StorageFault) →
    MemPuts old at bytes (Ok done) new → MemGets new at (length bytes) answer → answer ≡ Ok bytes

-- a put is refused as Full where the position behind its bytes has no number, and for want of memory where it has one
abbrev pub PutIsRefusedSo : Type 0
PutIsRefusedSo = (old new : MemStorage) (at : ℕ) (bytes : List ℕ) (why : StorageFault) → MemPuts old at bytes (Err why) new →
    ((2 ^ 64 ≤ at + length bytes) × (why ≡ Full)) ⊎ ((at + length bytes < 2 ^ 64) × (why ≡ Memory))
