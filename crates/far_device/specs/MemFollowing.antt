-- What the calls of a device in memory leave.
use Rattle.std.specs.Prelude.{◌≡◌, ◌≢◌, ℕ, ◌+◌, ◌%◌, ◌^◌, Bool, true, false, List, Option, Some, None, IsSome, is_some, Result, Ok, Err}
use Rattle.std.proofs.Common.{refl, ap, sym, subst, ◌∙◌}
use Rattle.std.proofs.lemmas.Bool.{false≢true}
use Rattle.far_device.specs.Faults.{is_fault}
use Rattle.far_device.specs.Following.{Follows, any_key, other_than}
use Rattle.far_device.specs.Mem.{bytes_at, faults_of, MemWrites, MemReads}
use Rattle.far_device.specs.declared.fault.DeviceFault.{DeviceFault}
use Rattle.far_device.specs.declared.fault.DeviceFault.TheVariants.{Memory, Device}
use Rattle.far_device.specs.declared.mem.MemDevice.{MemDevice}

pub write_leaves : (old : MemDevice) (id : ℕ) (bytes : List ℕ) (answer : Result (Unit {0}) DeviceFault) (new : MemDevice) → MemWrites old id bytes answer new →
    Follows bytes_at (λ _. true) faults_of (λ _ _. Unit {0}) (other_than id) (is_fault answer) old new
write_leaves old id bytes (Ok done) new h = record { others = h.1; honest = refl; counted = h.2; spent = λ n few. few }
write_leaves old id bytes (Err why) new h = subst (λ (w : DeviceFault). Follows bytes_at (λ _. true) faults_of (λ _ _. Unit {0}) (other_than id) (is_fault {A = Unit {0}} (Err w)) old new) (sym h.0)
    (record { others = λ q other. ap (λ (held : ℕ → Option (List ℕ)). held q) h.1; honest = refl; counted = h.2; spent = λ n few. few })

-- that one more is another count is the caller's to show
pub read_leaves : ((n : ℕ) → (n + 1) % 2 ^ 64 ≢ n) → (old : MemDevice) (id : ℕ) (answer : Result (List ℕ) DeviceFault) (new : MemDevice) → MemReads old id answer new →
    Follows bytes_at (λ _. true) faults_of (λ d n. IsSome (bytes_at old id) × Unit {0}) any_key (is_fault answer) old new
read_leaves one_more old id (Ok bytes) new h = record { others = λ q any. ap (λ (held : ℕ → Option (List ℕ)). held q) h.1; honest = refl; counted = h.2; spent = λ n few. few }
read_leaves one_more old id (Err Memory) new h = record { others = λ q any. ap (λ (held : ℕ → Option (List ℕ)). held q) h.1; honest = refl; counted = h.2; spent = λ n few. few }
read_leaves one_more old id (Err Device) new h = record {
  others = λ q any. ap (λ (held : ℕ → Option (List ℕ)). held q) h.1;
  honest = refl;
  counted = λ same. one_more (faults_of old) (sym h.2 ∙ same);
  spent = (λ few. false≢true (ap is_some (sym h.0) ∙ few.0), λ n few. few);
}
