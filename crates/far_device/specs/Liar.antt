-- A device of which one read is a lie: what is told, and whether it is honest.
use Rattle.std.specs.Prelude.{ℕ, ◌-◌, Bool, false, List, length, map, take, cond, Result, Ok, Err}
use Rattle.far_device.specs.declared.fault.DeviceFault.{DeviceFault}
use Rattle.far_device.specs.declared.liar.Lie.{Lie}
use Rattle.far_device.specs.declared.liar.Lie.TheVariants.{Never, Short, Flip}

-- a byte with each of its eight bits inverted
abbrev pub inverted : ℕ → ℕ
inverted byte = 255 - byte

-- what a lie makes of bytes: all but the last, or each one inverted; of none it makes none
abbrev pub lied : Lie → List ℕ → List ℕ
lied Never bytes = bytes
lied Short bytes = take (length bytes - 1) bytes
lied Flip bytes = map inverted bytes

-- the answer of a read, which is a lie or is handed on; a fault is handed on either way
abbrev pub told : Bool → Lie → Result (List ℕ) DeviceFault → Result (List ℕ) DeviceFault
told lies lie (Ok bytes) = Ok (cond lies (lied lie bytes) bytes)
told lies lie (Err why) = Err why

-- honest are those that never lie, over an honest device
abbrev pub is_honest : Lie → Bool → Bool
is_honest Never inner = inner
is_honest Short inner = false
is_honest Flip inner = false
