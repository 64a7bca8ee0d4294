-- What calls of storage of so many bytes answer.
use Rattle.std.specs.Prelude.{◌≡◌, ℕ, ◌+◌, ◌<◌, ◌≤◌, max, List, length, slice_index, Result, Ok, Err}
use Rattle.std.specs.Vec.{vec_len}
use Rattle.far_file.specs.Positions.{HoldsAt, KeepsOutside}
use Rattle.far_file.specs.declared.fault.StorageFault.{StorageFault}
use Rattle.far_file.specs.declared.fault.StorageFault.TheVariants.{Memory, Short, Full, Medium, Interrupted, Failed}
use Rattle.far_reserved.specs.declared.reserved.Reserved.{Reserved}

-- a get: all that were asked for are there, and it gives those; or some of them aren't
abbrev pub ReservedGets : Reserved → ℕ → ℕ → Result (List ℕ) StorageFault → Type 0
ReservedGets r at n (Ok bytes) = (at + n ≤ vec_len r.bytes) × (length bytes ≡ n) × HoldsAt (slice_index r.bytes.items) at bytes
ReservedGets r at n (Err why) = (why ≡ Short) × (vec_len r.bytes < at + n)

-- a put: the bytes stand there, and the end is theirs or lies behind them; or they would pass the end of what was taken, and all is as it was. No other fault comes
abbrev pub ReservedPuts : Reserved → ℕ → List ℕ → Result (Unit {0}) StorageFault → Reserved → Type 0
ReservedPuts old at bytes (Ok done) new =
    (at + length bytes ≤ old.room) × (new.room ≡ old.room) × (vec_len new.bytes ≡ max (vec_len old.bytes) (at + length bytes)) × HoldsAt (slice_index new.bytes.items) at bytes
    × KeepsOutside (slice_index old.bytes.items) (slice_index new.bytes.items) at (length bytes)
ReservedPuts old at bytes (Err Full) new = (old.room < at + length bytes) × (new ≡ old)
ReservedPuts old at bytes (Err Memory) new = ⊥
ReservedPuts old at bytes (Err Short) new = ⊥
ReservedPuts old at bytes (Err Medium) new = ⊥
ReservedPuts old at bytes (Err Interrupted) new = ⊥
ReservedPuts old at bytes (Err Failed) new = ⊥

-- what was put is there: a get of as many bytes from the same position gives those, and no fault
abbrev pub PutIsThere : Type 0
PutIsThere = (old new : Reserved) (at : ℕ) (bytes : List ℕ) (done : Unit {0}) (answer : Result (List ℕ) StorageFault) →
    ReservedPuts old at bytes (Ok done) new → ReservedGets new at (length bytes) answer → answer ≡ Ok bytes

-- a put is refused as Full alone, where its bytes pass the end of what was taken
abbrev pub PutIsRefusedSo : Type 0
PutIsRefusedSo = (old new : Reserved) (at : ℕ) (bytes : List ℕ) (why : StorageFault) → ReservedPuts old at bytes (Err why) new →
    (why ≡ Full) × (old.room < at + length bytes) × (new ≡ old)
