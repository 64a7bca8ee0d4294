-- Which answers say that the device failed.
use Rattle.std.specs.Prelude.{ℕ, Bool, true, false, Result, Ok, Err}
use Rattle.far_word.specs.declared.refused.Refused.{Refused}
use Rattle.far_word.specs.declared.refused.Refused.TheVariants.{Device}
use Rattle.far_evac.specs.declared.answers.EvacFault.{EvacFault}

abbrev pub is_of_device : Refused → Bool
is_of_device Device = true
is_of_device why = false

abbrev pub fails : {A : Type 0} → Result A EvacFault → Bool
fails (Ok x) = false
fails (Err fault) = is_of_device fault.why

-- no key is said to be left alone
abbrev pub no_key : ℕ → Type 0
no_key q = ⊥
