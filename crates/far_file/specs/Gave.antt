-- What a call of storage gave.
use Rattle.std.specs.Prelude.{ℕ, List, Result, Ok, Err}
use Rattle.far_file.specs.declared.fault.StorageFault.{StorageFault}

-- the bytes that are in the buffer then, or the fault
abbrev pub gave : Result (Unit {0}) StorageFault → List ℕ → Result (List ℕ) StorageFault
gave (Ok done) bytes = Ok bytes
gave (Err why) bytes = Err why
