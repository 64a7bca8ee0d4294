-- An object's bytes as a value of some bytes: what a read of it gives, and what a write leaves.
use Rattle.std.specs.Prelude.{◌≡◌, ℕ, ◌+◌, ◌<◌, true, List, length, slice_index, Some, None, Result, Ok, Err, IfSome, slice_range}
use Rattle.far_word.specs.declared.refused.Refused.{Refused}
use Rattle.far_heap.specs.Mine.{Mine, access_refusal, bytes_in, writing}
use Rattle.far_heap.specs.MineLaw.{MineLaw}

-- n bytes of a pointer's object were read as a value, or refused as any access of so many is
abbrev pub ReadsAs : {X : Type 0} → (List ℕ → X) → ℕ → Mine → ℕ → ℕ → Result X Refused → Type 0
ReadsAs value n m p from (Ok x) = (access_refusal m p from n ≡ None) × IfSome (bytes_in m p) (λ bytes. x ≡ value (slice_range bytes from (from + n)))
ReadsAs value n m p from (Err why) = access_refusal m p from n ≡ Some why

-- these n bytes were written, and nothing else is changed; or that was refused, and nothing is
abbrev pub WritesAs : List ℕ → ℕ → Mine → ℕ → ℕ → Result (Unit {0}) Refused → Mine → Type 0
WritesAs bytes n m p from (Ok done) later = (access_refusal m p from n ≡ None) × (later ≡ writing p from bytes m)
WritesAs bytes n m p from (Err why) later = (access_refusal m p from n ≡ Some why) × (later ≡ m)

-- a write was made of bytes that are known: byte k of it stands at byte `from + k` of the object, a read of as many from there on gives them, as whatever value, and isn't
-- refused. If the write was refused, so is the read
pub record ValuesComeBack : Type 0 where
  pub placed : (bytes : List ℕ) (m later : Mine) (p from k : ℕ) (done : Unit {0}) → MineLaw m → m.honest ≡ true → WritesAs bytes (length bytes) m p from (Ok done) later → k < length bytes →
      (all : List ℕ) × (bytes_in later p ≡ Some all) × (slice_index all (from + k) ≡ slice_index bytes k)
  pub back : (value : List ℕ → List ℕ) (bytes x : List ℕ) (m later : Mine) (p from : ℕ) (done : Unit {0}) → MineLaw m → m.honest ≡ true → WritesAs bytes (length bytes) m p from (Ok done) later →
      ReadsAs value (length bytes) later p from (Ok x) → x ≡ value bytes
  pub readable : (value : List ℕ → List ℕ) (bytes : List ℕ) (m later : Mine) (p from : ℕ) (done : Unit {0}) (why : Refused) → MineLaw m → m.honest ≡ true →
      WritesAs bytes (length bytes) m p from (Ok done) later → ReadsAs value (length bytes) later p from (Err why) → ⊥
  pub refused : (value : List ℕ → List ℕ) (bytes : List ℕ) (n : ℕ) (m later : Mine) (p from : ℕ) (why : Refused) (r : Result (List ℕ) Refused) → WritesAs bytes n m p from (Err why) later →
      ReadsAs value n later p from r → r ≡ Err why
