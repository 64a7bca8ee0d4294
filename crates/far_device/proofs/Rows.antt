-- A row that becomes longer by an empty place holds what it held.
use Rattle.std.proofs.Common.{◌≡◌, ℕ, zero, suc, List, [], ◌∷◌, ◌++◌, None, refl}
use Rattle.std.specs.List.{slice_get}
use Rattle.std.specs.Option.{option_and_then}
use Rattle.far_device.specs.Row.{bytes_of}
use Rattle.far_device.specs.declared.slot.Slot.{Slot}

pub longer : (places : List Slot) (x : Slot) (k : ℕ) → bytes_of x ≡ None → option_and_then (λ place. bytes_of place) (slice_get (places ++ x ∷ []) k) ≡ option_and_then (λ place. bytes_of place) (slice_get places k)
longer [] x zero empty = empty
longer [] x (suc k) empty = refl
longer (y ∷ places) x zero empty = refl
longer (y ∷ places) x (suc k) empty = longer places x k empty
