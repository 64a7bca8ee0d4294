-- What the calls leave of a device of which one read is a lie.
use Rattle.std.specs.Prelude.{◌≡◌, ℕ, Bool, List, Result, Ok, Err}
use Rattle.std.proofs.Common.{ap, sym, ◌∙◌}
use Rattle.far_device.specs.Faults.{is_fault}
use Rattle.far_device.specs.Liar.{told, is_honest}
use Rattle.far_device.specs.declared.fault.DeviceFault.{DeviceFault}
use Rattle.far_device.specs.declared.liar.Lie.{Lie}

-- what is told is a fault exactly where the inner device's answer is one
pub told_fault : (lies : Bool) (lie : Lie) (held answer : Result (List ℕ) DeviceFault) → answer ≡ told lies lie held → is_fault held ≡ is_fault answer
told_fault lies lie (Ok bytes) answer h = sym (ap is_fault h)
told_fault lies lie (Err why) answer h = sym (ap is_fault h)

-- as honest as it was
pub honest_still : (lie lie_after : Lie) (inner inner_after : Bool) → lie_after ≡ lie → inner_after ≡ inner → is_honest lie_after inner_after ≡ is_honest lie inner
honest_still lie lie_after inner inner_after same still = ap (λ l. is_honest l inner_after) same ∙ ap (is_honest lie) still
