-- Calls one after another, and which of them a device doesn't hand on as it is.
use Rattle.std.specs.Prelude.{◌≡◌, ◌≢◌, ◌⊎◌, ℕ, suc, ◌+◌, Bool, true, false, List, [], ◌∷◌, Result, Err}
use Rattle.far_device.specs.declared.fault.DeviceFault.{DeviceFault}
use Rattle.far_device.specs.declared.fault.DeviceFault.TheVariants.{Device}
use Rattle.far_device.specs.declared.liar.Lie.{Lie}
use Rattle.far_device.specs.Liar.{told}

-- calls one after another, some of which are counted
abbrev pub Made : {S : Type 0} (Counted Aside : S → S → Type 0) → List Bool → S → S → Type 0
Made Counted Aside [] s t = t ≡ s
Made {S} Counted Aside (true ∷ calls) s t = (m : S) × Counted s m × Made Counted Aside calls m t
Made {S} Counted Aside (false ∷ calls) s t = (m : S) × Aside s m × Made Counted Aside calls m t

-- how many of them are
abbrev pub counted : List Bool → ℕ
counted [] = 0
counted (true ∷ calls) = suc (counted calls)
counted (false ∷ calls) = counted calls

-- some write, some read, some call of forget
abbrev pub SomeWrite : {S : Type 0} → (S → ℕ → List ℕ → Result (Unit {0}) DeviceFault → S → Type 0) → S → S → Type 0
SomeWrite writes s t = (id : ℕ) × (bytes : List ℕ) × (answer : Result (Unit {0}) DeviceFault) × writes s id bytes answer t

abbrev pub SomeRead : {S : Type 0} → (S → ℕ → Result (List ℕ) DeviceFault → S → Type 0) → S → S → Type 0
SomeRead reads s t = (id : ℕ) × (answer : Result (List ℕ) DeviceFault) × reads s id answer t

abbrev pub SomeForget : {S : Type 0} → (S → ℕ → S → Type 0) → S → S → Type 0
SomeForget lets_go s t = (id : ℕ) × lets_go s id t

-- whatever calls were made since, with however many writes and reads, the next write or read fails without the inner device exactly where it is the k-th; any other is the inner device's
abbrev pub KthFails : {S D : Type 0} (left : S → ℕ) (inner : S → D) (writes : S → ℕ → List ℕ → Result (Unit {0}) DeviceFault → S → Type 0)
    (reads : S → ℕ → Result (List ℕ) DeviceFault → S → Type 0) (lets_go : S → ℕ → S → Type 0)
    (writes_inner : D → ℕ → List ℕ → Result (Unit {0}) DeviceFault → D → Type 0) (reads_inner : D → ℕ → Result (List ℕ) DeviceFault → D → Type 0) → Type 0
KthFails {S} left inner writes reads lets_go writes_inner reads_inner = (calls : List Bool) (s m t : S) →
    Made (λ x y. SomeWrite writes x y ⊎ SomeRead reads x y) (SomeForget lets_go) calls s m →
    ((id : ℕ) (bytes : List ℕ) (answer : Result (Unit {0}) DeviceFault) → writes m id bytes answer t →
    (counted calls + 1 ≡ left s → (answer ≡ Err Device) × (inner t ≡ inner m)) × (counted calls + 1 ≢ left s → writes_inner (inner m) id bytes answer (inner t)))
    × ((id : ℕ) (answer : Result (List ℕ) DeviceFault) → reads m id answer t →
    (counted calls + 1 ≡ left s → (answer ≡ Err Device) × (inner t ≡ inner m)) × (counted calls + 1 ≢ left s → reads_inner (inner m) id answer (inner t)))

-- whatever calls were made since, with however many reads, the next read is a lie exactly where it is the k-th; any other is the inner device's
abbrev pub KthLies : {S D : Type 0} (left : S → ℕ) (lie : S → Lie) (inner : S → D) (writes : S → ℕ → List ℕ → Result (Unit {0}) DeviceFault → S → Type 0)
    (reads : S → ℕ → Result (List ℕ) DeviceFault → S → Type 0) (lets_go : S → ℕ → S → Type 0) (reads_inner : D → ℕ → Result (List ℕ) DeviceFault → D → Type 0) → Type 0
KthLies {S} left lie inner writes reads lets_go reads_inner = (calls : List Bool) (s m t : S) →
    Made (SomeRead reads) (λ x y. SomeWrite writes x y ⊎ SomeForget lets_go x y) calls s m →
    (id : ℕ) (answer : Result (List ℕ) DeviceFault) → reads m id answer t →
    (counted calls + 1 ≡ left s → (stored : Result (List ℕ) DeviceFault) × reads_inner (inner m) id stored (inner t) × (answer ≡ told true (lie s) stored))
    × (counted calls + 1 ≢ left s → reads_inner (inner m) id answer (inner t))
