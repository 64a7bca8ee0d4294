-- What the calls of a device over storage leave.
use Rattle.std.specs.Prelude.{◌≡◌, ◌≢◌, ℕ, ◌+◌, ◌%◌, ◌^◌, Bool, true, false, ◌||◌, List, Option, IsSome, Result}
use Rattle.std.proofs.Common.{ap, sym, ◌∙◌}
use Rattle.far_device.specs.Faults.{CountsFault, SpendsFault, is_fault}
use Rattle.far_device.specs.Following.{Follows, any_key, other_than}
use Rattle.far_file.specs.SealedCalls.{bytes_at, counted, faults_of, is_honest, SealedWrites, SealedReads, SealedLetsGo}
use Rattle.far_device.specs.declared.fault.DeviceFault.{DeviceFault}
use Rattle.far_file.specs.declared.sealed.SealedDevice.{SealedDevice}
use Rattle.far_file.specs.declared.storage.Storage.{Ghosts}
use Rattle.far_file.specs.declared.seal.Seal as seal

-- one more is another count, which is the caller's to show
counts : ((n : ℕ) → (n + 1) % 2 ^ 64 ≢ n) → (fault : Bool) (old new : ℕ) → new ≡ counted fault old → CountsFault fault old new
counts one_more true old new h = λ same. one_more old (sym h ∙ same)
counts one_more false old new h = h

-- nothing is said of how many calls may fail, so nothing is owed
spends : (fault : Bool) → SpendsFault fault (λ n. ⊥) (λ n. ⊥)
spends true = (λ none. none, λ n none. none)
spends false = λ n none. none

spends_read : (P : Type 0) (fault : Bool) → SpendsFault fault (λ n. P × ⊥) (λ n. P × ⊥)
spends_read P true = (λ none. none.1, λ n none. none)
spends_read P false = λ n none. none

module _ {F L : Type 0} {g : Ghosts F} {l : seal.Ghosts L} where
  pub write_leaves : ((n : ℕ) → (n + 1) % 2 ^ 64 ≢ n) → (old : SealedDevice F L g l) (id : ℕ) (bytes : List ℕ) (answer : Result (Unit {0}) DeviceFault) (new : SealedDevice F L g l) → SealedWrites old id bytes answer new →
      Follows bytes_at is_honest faults_of (λ _ _. ⊥) (other_than id) (is_fault answer) old new
  write_leaves one_more old id bytes answer new h = record { others = h.0; honest = h.2; counted = counts one_more (is_fault answer) (faults_of old) (faults_of new) h.1; spent = spends (is_fault answer) }

  pub read_leaves : ((n : ℕ) → (n + 1) % 2 ^ 64 ≢ n) → (old : SealedDevice F L g l) (id : ℕ) (answer : Result (List ℕ) DeviceFault) (new : SealedDevice F L g l) → SealedReads old id answer new →
      Follows bytes_at is_honest faults_of (λ d n. IsSome (bytes_at old id) × ⊥) any_key (is_fault answer) old new
  read_leaves one_more old id answer new h = record {
    others = λ q any. ap (λ (held : ℕ → Option (List ℕ)). held q) h.0;
    honest = ap (λ x. l.exact || g.honest x) h.2;
    counted = counts one_more (is_fault answer) (faults_of old) (faults_of new) h.1;
    spent = spends_read (IsSome (bytes_at old id)) (is_fault answer);
  }

  pub forget_leaves : (old : SealedDevice F L g l) (id : ℕ) (new : SealedDevice F L g l) → SealedLetsGo old id new →
      Follows bytes_at is_honest faults_of (λ _ _. ⊥) (other_than id) false old new
  forget_leaves old id new h = record { others = h.1; honest = ap (λ x. l.exact || g.honest x) h.3; counted = h.2; spent = spends false }
