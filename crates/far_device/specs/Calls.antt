-- What a read answered: the bytes that the device gave, or its fault.
use Rattle.std.specs.Prelude.{ℕ, List, Result, Ok, Err}
use Rattle.std.specs.Global.{Vec}
use Rattle.far_device.specs.declared.fault.DeviceFault.{DeviceFault}

abbrev pub given : Result (Vec ℕ) DeviceFault → Result (List ℕ) DeviceFault
given (Ok bytes) = Ok bytes.items
given (Err why) = Err why

-- the same of a read into a buffer, which has the bytes then
abbrev pub given_in : Result (Unit {0}) DeviceFault → List ℕ → Result (List ℕ) DeviceFault
given_in (Ok done) bytes = Ok bytes
given_in (Err why) bytes = Err why
