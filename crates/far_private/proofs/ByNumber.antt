-- What calls leave of objects by number.
use Rattle.std.proofs.Common.{◌≡◌, ◌≢◌, ℕ, ◌+◌, ◌-◌, ◌≤◌, ◌<◌, ◌&&◌, zero, suc, Bool, true, false, Option, Some, None, is_some, List, [], ◌∷◌, length, replicate, refl, sym, ◌∙◌, ap, subst, IfErr, OnOk, Result, Ok, Err}
use Rattle.std.specs.Prelude.{IsSome, if◌then◌else◌, nat_lt, nat_le, slice_index_or, slice_set}
use Rattle.std.specs.Option.{option_map}
use Rattle.std.proofs.lemmas.Bool.{eq-eqb, false≢true, le-leb, lt-ltb}
use Rattle.std.proofs.lemmas.List.{get_or-set_other, length-replicate}
use Rattle.far_word.specs.declared.refused.Refused.{Refused}
use Rattle.far_word.specs.declared.refused.Refused.TheVariants.{NotHeld, Range}
use Rattle.far_word.specs.declared.sizes.TheConstants.{LONGEST}
use Rattle.far_objects.specs.Far.{Drops, IsWhyUnreached, Makes, Others, Writes, barred, with_range}
use Rattle.far_private.specs.Heap.{Heap, HeapLaw, IsOutside, IsWell, IsWhyNoAccess, access_refusal, is_length, new_object, object, object_with, size_of, without}
use Rattle.far_private.specs.Objects.{Object, bytes_of, known, len_of, rewritten}
use Rattle.far_private.specs.Numbered.{far_by, far_of, fitted, has_len, is_fit}

-- ---- each object is as the law has it
if_true : (t : Bool) (x : Object) → t ≡ true → (if t then Some x else None) ≡ Some x
if_true true x e = refl
if_true false x e = absurd (false≢true e)

both : (a b : Bool) → a ≡ true → b ≡ true → (a && b) ≡ true
both a b e f = rw (e, f)

long : (n : ℕ) → 0 < n → n ≤ LONGEST → is_length n ≡ true
long n some most = both (nat_lt 0 n) (nat_le n LONGEST) (lt-ltb 0 n some) (le-leb n LONGEST most)

pub fit_is : (honest : Bool) (o : Option Object) → IsWell honest o → fitted honest o ≡ o
fit_is honest None w = refl
fit_is false (Some x) w = if_true (is_fit false x) x (long x.len w.some w.most)
fit_is true (Some x) w = if_true (is_fit true x) x
    (both (is_length x.len) (has_len x.len x.bytes) (long x.len w.some w.most) (ap (has_len x.len) w.known.1 ∙ eq-eqb (length w.known.0) x.len w.known.2.many))

pub size_is : (honest : Bool) (o : Option Object) → IsWell honest o → size_of o ≡ size_of (fitted honest o)
size_is honest o w = ap size_of (sym (fit_is honest o w))

-- ---- when an access is refused
some_barred : (o : Option Object) (from count : ℕ) → barred (size_of o) from count ≡ (if is_some o then (if nat_lt 0 count && nat_le (from + count) (len_of o) then None else Some Range) else Some NotHeld)
some_barred None from count = refl
some_barred (Some x) from count = refl

pub barred_is : (honest : Bool) (o : Option Object) (from count : ℕ) → IsWell honest o →
    (if is_some o then (if nat_lt 0 count && nat_le (from + count) (len_of o) then None else Some Range) else Some NotHeld) ≡ barred (size_of (fitted honest o)) from count
barred_is honest o from count w = sym (some_barred o from count) ∙ ap (λ x. barred (size_of x) from count) (sym (fit_is honest o w))

why_same : (honest : Bool) (o : Option Refused) (why : Refused) → IsWhyNoAccess honest o why → IsWhyUnreached IsOutside honest o why
why_same honest o NotHeld w = w
why_same honest o Range w = w
why_same honest o why w = w

pub why_is : (honest : Bool) (o p : Option Refused) (why : Refused) → o ≡ p → IsWhyNoAccess honest o why → IsWhyUnreached IsOutside honest p why
why_is honest o p why e w = subst (λ x. IsWhyUnreached IsOutside honest x why) e (why_same honest o why w)

-- ---- one object is another
module _ (b c : Bool) (o p : ℕ → Option Object) (e : c ≡ b) (h : ℕ) (others : (n : ℕ) → n ≢ h → p n ≡ o n) where
  by_others : Others h (far_by b o) (far_by c p)
  by_others = record {
    honest = e;
    sizes = λ n ne. λ i. size_of (fitted (e i) (others n ne i));
    bytes = λ n ne. λ i. bytes_of (fitted (e i) (others n ne i));
  }

  -- as it is told, if it is as the law has it
  size_now : (x : Option Object) → p h ≡ x → IsWell c (p h) → size_of (fitted c (p h)) ≡ size_of x
  size_now x is w = ap size_of (fit_is c (p h) w ∙ is)

  bytes_now : (x : Option Object) → p h ≡ x → IsWell c (p h) → bytes_of (fitted c (p h)) ≡ bytes_of x
  bytes_now x is w = ap bytes_of (fit_is c (p h) w ∙ is)

  known_true : (honest : Bool) (xs : List ℕ) → honest ≡ true → known honest xs ≡ Some xs
  known_true true xs q = refl
  known_true false xs q = absurd (false≢true q)

  pub makes_far : (xs : List ℕ) (ds : ℕ) → o h ≡ None → p h ≡ Some (object_with b ds xs) → IsWell c (p h) → Makes h xs (far_by b o) (far_by c p)
  makes_far xs ds fresh is w = record {
    fresh = ap (λ x. size_of (fitted b x)) fresh;
    size = size_now (Some (object_with b ds xs)) is w;
    bytes = λ q. bytes_now (Some (object_with b ds xs)) is w ∙ known_true b xs q;
    others = by_others;
  }

  zeros_are : (len ds : ℕ) → new_object b len ds ≡ object_with b ds (replicate len 0)
  zeros_are len ds = λ i. record { len = sym (length-replicate {A = ℕ} len 0) i; ds = ds; bytes = known b (replicate len 0) }

  pub zeros_far : (len ds : ℕ) → o h ≡ None → p h ≡ Some (new_object b len ds) → IsWell c (p h) → Makes h (replicate len 0) (far_by b o) (far_by c p)
  zeros_far len ds fresh is w = makes_far (replicate len 0) ds fresh (is ∙ ap (λ x. Some x) (zeros_are len ds)) w

  same_size : (f : ℕ) (xs : List ℕ) (x : Option Object) → size_of (option_map (rewritten f xs) x) ≡ size_of x
  same_size f xs None = refl
  same_size f xs (Some x) = refl

  new_bytes : (f : ℕ) (xs was : List ℕ) (x : Option Object) → bytes_of x ≡ Some was → bytes_of (option_map (rewritten f xs) x) ≡ Some (with_range was f xs)
  new_bytes f xs was None q = absurd (none_bytes was q)
    where
      none_bytes : (was : List ℕ) → ◌≡◌ {A = Option (List ℕ)} None (Some was) → ⊥
      none_bytes was q = cc
  new_bytes f xs was (Some x) q = ap (option_map (λ bytes. with_range bytes f xs)) q

  pub writes_far : (f : ℕ) (xs : List ℕ) → p h ≡ option_map (rewritten f xs) (o h) → IsWell b (o h) → IsWell c (p h) → Writes h f xs (far_by b o) (far_by c p)
  writes_far f xs is was now = record {
    size = size_now (option_map (rewritten f xs) (o h)) is now ∙ same_size f xs (o h) ∙ size_is b (o h) was;
    bytes = λ q ys r. bytes_now (option_map (rewritten f xs) (o h)) is now ∙ new_bytes f xs ys (o h) (ap bytes_of (sym (fit_is b (o h) was)) ∙ r);
    others = by_others;
  }

  there_size : (x : Option Object) → is_some x ≡ true → (n : ℕ) × (size_of x ≡ Some n)
  there_size None q = absurd (false≢true q)
  there_size (Some x) q = (x.len, refl)

  pub drops_far : is_some (o h) ≡ true → p h ≡ None → IsWell b (o h) → Drops h (far_by b o) (far_by c p)
  drops_far there gone was = record {
    there = let it = there_size (o h) there in (it.0, sym (size_is b (o h) was) ∙ it.1);
    gone = ap (λ x. size_of (fitted c x)) gone;
    others = by_others;
  }

-- ---- outcomes of a call
pub if_err : {T : Type 0} (r : Result T Refused) (P Q : Refused → Type 0) → ((why : Refused) → P why → Q why) → IfErr r P → IfErr r Q
if_err (Ok x) P Q f h = tt
if_err (Err why) P Q f h = f why h

pub on_ok : {T : Type 0} (r : Result T Refused) (P Q : Type 0) → (P → Q) → OnOk r P → OnOk r Q
on_ok (Ok x) P Q f h = f h
on_ok (Err why) P Q f h = tt

-- ---- of a heap: a pointer p is its number n
module _ (h : Heap) (law : HeapLaw h) (p n : ℕ) (e : p ≡ n) where
  pub barred_at : (from count : ℕ) → access_refusal h p from count ≡ barred ((far_of h).sizes n) from count
  barred_at from count = subst (λ k. access_refusal h p from count ≡ barred ((far_of h).sizes k) from count) e (barred_is h.honest (object h p) from count (law.well p))

  some_true : (o : Option Object) → IsSome o → is_some o ≡ true
  some_true None s = absurd (false≢true s)
  some_true (Some x) s = refl

  none_set : (objects : List (Option Object)) (k : ℕ) → slice_index_or (slice_set objects k None) k None ≡ None
  none_set [] k = refl
  none_set (x ∷ xs) zero = refl
  none_set (x ∷ xs) (suc k) = none_set xs k

  pub drops_at : (k : Heap) → IsSome (object h p) → k ≡ without p h → Drops n (far_of h) (far_of k)
  drops_at k there gone = subst (λ m. Drops m (far_of h) (far_of k)) e
      (drops_far h.honest k.honest (object h) (object k) (ap (λ w. w.honest) gone) p (λ m ne. ap (λ w. object w m) gone ∙ get_or-set_other h.objects p m None None ne)
      (some_true (object h p) there) (ap (λ w. object w p) gone ∙ none_set h.objects p) (law.well p))
