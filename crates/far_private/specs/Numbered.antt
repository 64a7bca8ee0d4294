-- A heap's objects as far_objects has them, by number.
use Rattle.std.specs.Prelude.{◌≡◌, ◌==◌, ℕ, ◌&&◌, ◌<◌, ◌≤◌, nat_lt, nat_le, Bool, true, false, Option, Some, None, is_some, List, length, refl, if◌then◌else◌}
use Rattle.std.proofs.Common.{ap, subst}
use Rattle.std.proofs.lemmas.Bool.{and_parts, eqb-true, false≢true, leb-true, ltb-true}
use Rattle.far_word.specs.declared.refused.Refused.{Refused}
use Rattle.far_word.specs.declared.refused.Refused.TheVariants.{EpochsSpent, NoPointer, NoRoom}
use Rattle.far_word.specs.declared.sizes.TheConstants.{LONGEST}
use Rattle.far_objects.specs.Far.{Far, IsObject, Known}
use Rattle.far_private.specs.Heap.{Heap, is_length, object, size_of}
use Rattle.far_private.specs.Objects.{Object, bytes_of}

-- ---- an object as the law has it, which each is (HeapLaw); so of any value something is told, and of a heap's all
abbrev pub has_len : ℕ → Option (List ℕ) → Bool
has_len n None = false
has_len n (Some bytes) = length bytes == n

abbrev pub is_fit : Bool → Object → Bool
is_fit true x = is_length x.len && has_len x.len x.bytes
is_fit false x = is_length x.len

abbrev pub fitted : Bool → Option Object → Option Object
fitted honest None = None
fitted honest (Some x) = if is_fit honest x then Some x else None

abbrev pub far_by : Bool → (ℕ → Option Object) → Far
far_by honest o = record { honest = honest; sizes = λ n. size_of (fitted honest (o n)); bytes = λ n. bytes_of (fitted honest (o n)) }

-- a heap's: a pointer is its number
abbrev pub far_of : Heap → Far
far_of h = far_by h.honest (object h)

-- what may refuse to make an object of a length that one may have. When each comes isn't said here
abbrev pub IsNoPlace : Refused → Type 0
IsNoPlace NoPointer = Unit {0}
IsNoPlace NoRoom = Unit {0}
IsNoPlace EpochsSpent = Unit {0}
IsNoPlace why = ⊥

-- ---- the law of objects
none_some : (n : ℕ) → ◌≡◌ {A = Option ℕ} None (Some n) → ⊥
none_some n e = false≢true (ap (λ (o : Option ℕ). is_some o) e)

abbrev or_zero : Option ℕ → ℕ
or_zero None = 0
or_zero (Some n) = n

same_some : (m n : ℕ) → ◌≡◌ {A = Option ℕ} (Some m) (Some n) → m ≡ n
same_some m n e = ap or_zero e

known_bytes : (n : ℕ) (bytes : Option (List ℕ)) → has_len n bytes ≡ true → (xs : List ℕ) × (bytes ≡ Some xs) × (length xs ≡ n)
known_bytes n None e = absurd (false≢true e)
known_bytes n (Some xs) e = (xs, refl, eqb-true (length xs) n e)

of_length : (n : ℕ) → is_length n ≡ true → (0 < n) × (n ≤ LONGEST)
of_length n e = let both = and_parts (nat_lt 0 n) (nat_le n LONGEST) e in (ltb-true 0 n both.0, leb-true n LONGEST both.1)

fit_law : (honest : Bool) (x : Object) → is_fit honest x ≡ true → IsObject honest x.len x.bytes
fit_law true x e =
    let both = and_parts (is_length x.len) (has_len x.len x.bytes) e in
    record { some = (of_length x.len both.0).0; most = (of_length x.len both.0).1; known = λ _. known_bytes x.len x.bytes both.1 }
fit_law false x e = record { some = (of_length x.len e).0; most = (of_length x.len e).1; known = λ h. absurd (false≢true h) }

module _ (honest : Bool) (x : Object) (n : ℕ) where
  some_law : (t : Bool) → is_fit honest x ≡ t → size_of (if t then Some x else None) ≡ Some n → IsObject honest n (bytes_of (if t then Some x else None))
  some_law true fit e = subst (λ m. IsObject honest m x.bytes) (same_some x.len n e) (fit_law honest x fit)
  some_law false fit e = absurd (none_some n e)

law_of : (honest : Bool) (o : Option Object) (n : ℕ) → size_of (fitted honest o) ≡ Some n → IsObject honest n (bytes_of (fitted honest o))
law_of honest None n e = absurd (none_some n e)
law_of honest (Some x) n e = some_law honest x n (is_fit honest x) refl e

pub known_by : (honest : Bool) (o : ℕ → Option Object) → Known (far_by honest o)
known_by honest o h n e = law_of honest (o h) n e

pub known_of : (h : Heap) → Known (far_of h)
known_of h = known_by h.honest (object h)
