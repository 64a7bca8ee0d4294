-- An object read whole.
use Rattle.std.proofs.Common.{◌≡◌, ℕ, ◌+◌, ◌-◌, ◌≤◌, ◌<◌, ◌++◌, ◌==◌, Bool, true, false, Option, Some, None, is_some, List, length, take, drop, refl, sym, ◌∙◌, ap, subst, arith, IfSome}
use Rattle.std.specs.Prelude.{if◌then◌else◌, slice_range}
use Rattle.std.proofs.lemmas.Bool.{le-leb, lt-ltb}
use Rattle.std.proofs.lemmas.List.{append-nil, drop_all, take_all}
use Rattle.far_word.specs.declared.refused.Refused.{Refused}
use Rattle.far_word.specs.declared.refused.Refused.TheVariants.{NotHeld, Range}
use Rattle.far_private.specs.Heap.{IsKnownAs, IsWell, IsWhyNoAccess, size_of}
use Rattle.far_private.specs.Objects.{Object, bytes_of}
use Rattle.far_pool.specs.Pool.{IsWhyNotWhole, Shelf, found, generation_on, object_on, refusal_of}

none_some : (bytes : List ℕ) → ◌≡◌ {A = Option (List ℕ)} None (Some bytes) → ⊥
none_some bytes e = cc

none_size : (n : ℕ) → ◌≡◌ {A = Option ℕ} None (Some n) → ⊥
none_size n e = cc

same_bytes : (xs ys : List ℕ) → Some xs ≡ Some ys → xs ≡ ys
same_bytes xs ys e = cc

same_len : (m n : ℕ) → Some m ≡ Some n → m ≡ n
same_len m n e = cc

all_of : (bytes : List ℕ) (n : ℕ) → length bytes ≡ n → slice_range bytes 0 (0 + n) ≡ bytes
all_of bytes n e = take_all (0 + n - 0) bytes (omega arith)

known_all : (honest : Bool) (x : Object) (out : List ℕ) (n : ℕ) (b : Option (List ℕ)) → x.bytes ≡ b → IsKnownAs honest x → x.len ≡ n → IfSome b (λ bytes. out ≡ slice_range bytes 0 (0 + n)) → IfSome b (λ bytes. out ≡ bytes)
known_all honest x out n None e known l read = tt
known_all true x out n (Some bytes) e known l read = read ∙ all_of bytes n (ap length (same_bytes bytes known.0 (sym e ∙ known.1)) ∙ known.2.many ∙ l)
known_all false x out n (Some bytes) e known l read = absurd (none_some bytes (sym known ∙ e))

whole_read : (honest : Bool) (o : Option Object) (out : List ℕ) (n : ℕ) → IsWell honest o → size_of o ≡ Some n → IfSome (bytes_of o) (λ bytes. out ≡ slice_range bytes 0 (0 + n)) → IfSome (bytes_of o) (λ bytes. out ≡ bytes)
whole_read honest None out n well size read = tt
whole_read honest (Some x) out n well size read = known_all honest x out n x.bytes refl well.known (same_len x.len n size) read

-- into all of a vector
pub whole_into : (honest : Bool) (o : Option Object) (n : ℕ) (before out now : List ℕ) → IsWell honest o → size_of o ≡ Some n → length before ≡ n → length out ≡ length before →
    IfSome (bytes_of o) (λ bytes. out ≡ slice_range bytes 0 (0 + length before)) → now ≡ take n (out ++ drop (length out) before) → IfSome (bytes_of o) (λ bytes. now ≡ bytes)
whole_into honest o n before out now well size long same read is =
    let f : now ≡ out = is ∙ ap (λ ys. take n (out ++ ys)) (drop_all (length out) before (omega (arith, same))) ∙ ap (take n) (append-nil out) ∙ take_all n out (omega (arith, same, long)) in
    whole_read honest o now n well size (subst (λ xs. IfSome (bytes_of o) (λ bytes. xs ≡ slice_range bytes 0 (0 + n))) (sym f) (subst (λ m. IfSome (bytes_of o) (λ bytes. out ≡ slice_range bytes 0 (0 + m))) long read))

-- ---- why it isn't
no_refusal : (o : Option Object) (n : ℕ) (honest : Bool) → IsWell honest o → size_of o ≡ Some n → refusal_of o 0 n ≡ None
no_refusal None n honest well size = absurd (none_size n size)
no_refusal (Some x) n honest well size =
    subst (λ m. refusal_of (Some x) 0 m ≡ None) (same_len x.len n size) (rw (lt-ltb 0 x.len well.some, le-leb (0 + x.len) x.len (omega arith)) refl)

none_why : (why : Refused) → ◌≡◌ {A = Option Refused} None (Some why) → ⊥
none_why why e = cc

pub is_there : (o : Option Object) (n : ℕ) → size_of o ≡ Some n → is_some o ≡ true
is_there None n size = absurd (none_size n size)
is_there (Some x) n size = refl

why_open : (honest : Bool) (o : Option Object) (n : ℕ) (why : Refused) → refusal_of o 0 n ≡ None → size_of o ≡ Some n → IsWhyNoAccess honest (refusal_of o 0 n) why → IsWhyNotWhole honest o why
why_open honest o n NotHeld free size w = absurd (none_why NotHeld (sym free ∙ w))
why_open honest o n Range free size w = absurd (none_why Range (sym free ∙ w))
why_open honest o n why free size w = (is_there o n size, w.1)

pub why_whole : (honest : Bool) (o : Option Object) (n k : ℕ) (why : Refused) → IsWell honest o → size_of o ≡ Some n → k ≡ n → IsWhyNoAccess honest (refusal_of o 0 k) why → IsWhyNotWhole honest o why
why_whole honest o n k why well size same w = why_open honest o n why (no_refusal o n honest well size) size (subst (λ m. IsWhyNoAccess honest (refusal_of o 0 m) why) same w)

-- what else is told of it
pub whole_told : {P : Type 0} (honest : Bool) (o : Option Object) (n k : ℕ) → IsWell honest o → size_of o ≡ Some n → k ≡ n → (refusal_of o 0 k ≡ None → P) → P
whole_told honest o n k well size same told = told (subst (λ m. refusal_of o 0 m ≡ None) (sym same) (no_refusal o n honest well size))

-- ---- what is found is as the law has it
some_well : (honest b : Bool) (x : Option Object) → IsWell honest x → IsWell honest (if b then x else None)
some_well honest true x w = w
some_well honest false x w = tt

pub found_well : (s : Shelf) (p g : ℕ) → IsWell s.honest (object_on s p) → IsWell s.honest (found s p g)
found_well s p g w = some_well s.honest (generation_on s p == g) (object_on s p) w
