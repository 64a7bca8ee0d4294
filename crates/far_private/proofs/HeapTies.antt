-- What users know of a heap, and what it has inside.
use Rattle.std.proofs.Common.{◌≡◌, ℕ, ◌+◌, ◌<◌, ◌≤◌, Bool, true, false, Option, Some, None, List, length, refl, sym, ap, subst, ◌∙◌, inl, inr, arith, Result, Ok, Err}
use Rattle.std.specs.Prelude.{◌&&◌, IfErr, IfSome, IsSome, OnErr, OnOk, nat_lt, nat_le, is_some, slice_range, slice_set, if◌then◌else◌}
use Rattle.std.specs.Option.{option_map}
use Rattle.std.proofs.lemmas.Bool.{cases_eq, cases_lt, false≢true}
use Rattle.std.proofs.lemmas.Bool.Decides.{nat_tests}
use Rattle.std.proofs.lemmas.List.{get_or-set_other, get_or-set_same, get_or_past, length-set}
use Rattle.std.proofs.lemmas.List.FromFn.{fill_by_all, get_or-map-range_with_len, length-map-range_with_len}
use Rattle.far_word.specs.declared.refused.Refused.{Refused}
use Rattle.far_word.specs.declared.refused.Refused.TheVariants.{Damaged, Device, EpochsSpent, Length, Memory, NoPointer, NoRoom, NotHeld, Range}
use Rattle.far_word.specs.declared.sizes.TheConstants.{LONGEST, POINTERS}
use Rattle.far_events.specs.state.State.{put}
use Rattle.far_events.proofs.Put.{put_other, put_same}
use Rattle.far_private.specs.Objects as inner
use Rattle.far_private.specs.Objects.{Object, Objects, rewritten}
use Rattle.far_private.specs.Heap.{Heap, IsFull, IsOutside, IsWhyNoAccess, IsWhyNoObject, access_refusal, bytes_in, has, is_length, len_in, object, with_new, with_object, with_written, without}
use Rattle.far_private.specs.HeapOf.{heap_of, row}

-- ---- a function's values in a row
pub length-row : (n : ℕ) (f : ℕ → Option Object) → length (row n f) ≡ n
unfolding row
length-row n f = length-map-range_with_len f 0 n

row_at : (n : ℕ) (f : ℕ → Option Object) (p : ℕ) → p < n → object record { honest = true; logs = 0; objects = row n f } p ≡ f p
unfolding row
row_at n f p lt = let here : 0 + p ≡ p = omega arith in get_or-map-range_with_len f 0 n p p None lt here

row_filled : (n : ℕ) (f : ℕ → Option Object) (xs : List (Option Object)) → length xs ≡ n → ((p : ℕ) → p < n → object record { honest = true; logs = 0; objects = xs } p ≡ f p) → xs ≡ row n f
unfolding row
row_filled n f xs long each = fill_by_all f xs n None long each

row_put : (n : ℕ) (f : ℕ → Option Object) (p : ℕ) (x : Option Object) → slice_set (row n f) p x ≡ row n (put f p x)
row_put n f p x = row_filled n (put f p x) (slice_set (row n f) p x) (length-set (row n f) p x ∙ length-row n f) (λ q lt. elim (cases_eq q p) [
  | inl e ↦ ap (λ k. object record { honest = true; logs = 0; objects = slice_set (row n f) p x } k) e ∙ get_or-set_same (row n f) p x None (omega (arith, length-row n f)) ∙ sym (put_same f p x q e)
  | inr ne ↦ get_or-set_other (row n f) p q x None ne ∙ row_at n f q lt ∙ sym (put_other f p x q ne)
])

-- ---- objects, all of pointers
-- a pointer at or past the last has none
abbrev pub EndsThere : Objects → Type 0
EndsThere o = (p : ℕ) → POINTERS ≤ p → o.object p ≡ None

pub object_is : (o : Objects) → EndsThere o → (p : ℕ) → object (heap_of o) p ≡ o.object p
object_is o ends p = elim (cases_lt p POINTERS) [
  | inl lt ↦ row_at POINTERS o.object p lt
  | inr le ↦ get_or_past (row POINTERS o.object) p None (omega (arith, length-row POINTERS o.object)) ∙ sym (ends p le)
]

pub put_is : (o : Objects) (p : ℕ) (x : Option Object) → heap_of record o { object = put o.object p x } ≡ with_object p x (heap_of o)
put_is o p x = ap (λ l. record { honest = o.honest; logs = o.logs; objects = l }) (sym (row_put POINTERS o.object p x))

-- a pointer that got an object has it
pub new_at : (u o : Objects) (p : ℕ) (x : Object) → p < POINTERS → u ≡ record o { object = put o.object p (Some x) } → object (heap_of u) p ≡ Some x
new_at u o p x lt e = row_at POINTERS u.object p lt ∙ ap (λ (w : Objects). w.object p) e ∙ put_same o.object p (Some x) p refl

-- where no pointer has one
pub none_at : (o : Objects) → ((p : ℕ) → o.object p ≡ None) → (p : ℕ) → object (heap_of o) p ≡ None
none_at o none p = object_is o (λ q le. none q) p ∙ none p

-- as a heap shows them
module _ (o : Objects) (v : Heap) (is : heap_of o ≡ v) where
  pub stays_so : (u : Objects) → u ≡ o → heap_of u ≡ v
  stays_so u e = ap heap_of e ∙ is

  pub stays_err : (r : Result (Unit {0}) Refused) (u : Objects) → OnErr r (u ≡ o) → OnErr r (heap_of u ≡ v)
  stays_err (Ok x) u e = tt
  stays_err (Err why) u e = stays_so u e

  pub goes_so : (u : Objects) (p : ℕ) → u ≡ inner.without p o → heap_of u ≡ without p v
  goes_so u p e = ap heap_of e ∙ put_is o p None ∙ ap (without p) is

  pub made_so : (u : Objects) (p len ds : ℕ) → u ≡ inner.with_new p len ds o → heap_of u ≡ with_new p len ds v
  made_so u p len ds e = ap heap_of e ∙ put_is o p _ ∙ ap (with_new p len ds) is

  module _ (ends : EndsThere o) where
    pub object_so : (p : ℕ) → object v p ≡ o.object p
    object_so p = ap (λ (h : Heap). object h p) (sym is) ∙ object_is o ends p

    pub none_so : (p : ℕ) → o.object p ≡ None → object v p ≡ None
    none_so p e = object_so p ∙ e

    pub some_so : (p : ℕ) → IsSome (o.object p) → IsSome (object v p)
    some_so p e = ap is_some (object_so p) ∙ e

    pub full_so : ((p : ℕ) → p < 2048 → IsSome (o.object p)) → IsFull v
    full_so all p lt = some_so p (all p lt)

    pub written_so : (u : Objects) (p from : ℕ) (bytes : List ℕ) → u ≡ inner.with_written p from bytes o → heap_of u ≡ with_written p from bytes v
    written_so u p from bytes e = ap heap_of e ∙ put_is o p (option_map (rewritten from bytes) (o.object p))
        ∙ ap (λ x. with_object p (option_map (rewritten from bytes) x) (heap_of o)) (sym (object_is o ends p)) ∙ ap (with_written p from bytes) is

    pub written_ok : (r : Result (Unit {0}) Refused) (u : Objects) (p from : ℕ) (bytes : List ℕ) → OnOk r (u ≡ inner.with_written p from bytes o) → OnOk r (heap_of u ≡ with_written p from bytes v)
    written_ok (Ok x) u p from bytes e = written_so u p from bytes e
    written_ok (Err why) u p from bytes e = tt

    pub written_at : (r : Result (Unit {0}) Refused) (u : Objects) (p from : ℕ) (bytes : List ℕ) → EndsThere u → OnOk r (u ≡ inner.with_written p from bytes o) →
        OnOk r (object (heap_of u) p ≡ option_map (inner.rewritten from bytes) (object v p))
    written_at (Ok x) u p from bytes ends_so e = object_is u ends_so p ∙ ap (λ (w : Objects). w.object p) e ∙ put_same o.object p _ p refl ∙ ap (option_map (inner.rewritten from bytes)) (sym (object_so p))
    written_at (Err why) u p from bytes ends_so e = tt

    pub refusal_so : (p from count : ℕ) → access_refusal v p from count ≡ inner.access_refusal o p from count
    refusal_so p from count = ap (λ x. if is_some x then (if nat_lt 0 count && nat_le (from + count) (inner.len_of x) then None else Some Range) else Some NotHeld) (object_so p)

    pub read_so : (r : Result (Unit {0}) Refused) (p from count : ℕ) (out : List ℕ) → OnOk r (IfSome (inner.bytes_in o p) (λ bytes. out ≡ slice_range bytes from (from + count))) →
        OnOk r (IfSome (bytes_in v p) (λ bytes. out ≡ slice_range bytes from (from + count)))
    read_so r p from count out h = subst (λ x. OnOk r (IfSome (inner.bytes_of x) (λ bytes. out ≡ slice_range bytes from (from + count)))) (sym (object_so p)) h

-- ---- refusals of an access
refused_first : Bool → Bool → Option Refused
refused_first a b = if a then (if b then None else Some Range) else Some NotHeld

outside_why : (honest : Bool) (why : Refused) → IsOutside honest why → IsWhyNoAccess honest None why
outside_why honest Memory h = (refl, tt)
outside_why honest NoRoom h = (refl, tt)
outside_why honest EpochsSpent h = (refl, tt)
outside_why honest Device h = (refl, tt)
outside_why honest Damaged h = (refl, h)
outside_why honest _ h = absurd h

abbrev Bars : Option Refused → Result (Unit {0}) Refused → Type 0
Bars o r = (why : Refused) → o ≡ Some why → r ≡ Err why

by_bars : (honest a b : Bool) (r : Result (Unit {0}) Refused) → Bars (refused_first a b) r → (refused_first a b ≡ None → IfErr r (λ why. IsOutside honest why)) →
    OnOk r (refused_first a b ≡ None) × IfErr r (λ why. IsWhyNoAccess honest (refused_first a b) why)
unfolding refused_first
by_bars honest true true (Ok x) bars outside = (refl, tt)
by_bars honest true true (Err why) bars outside = (tt, outside_why honest why (outside refl))
by_bars honest true false (Ok x) bars outside = let odd : Ok x ≡ Err Range = bars Range refl in absurd cc
by_bars honest true false (Err why) bars outside =
    let odd : Err why ≡ Err Range = bars Range refl in
    let same : why ≡ Range = cc in
    (tt, subst (λ w. IsWhyNoAccess honest (Some Range) w) (sym same) refl)
by_bars honest false b (Ok x) bars outside = let odd : Ok x ≡ Err NotHeld = bars NotHeld refl in absurd cc
by_bars honest false b (Err why) bars outside =
    let odd : Err why ≡ Err NotHeld = bars NotHeld refl in
    let same : why ≡ NotHeld = cc in
    (tt, subst (λ w. IsWhyNoAccess honest (Some NotHeld) w) (sym same) refl)

-- an access succeeds only where nothing refuses it, and is refused by what does, or from outside
module _ (o : Objects) (v : Heap) (is : heap_of o ≡ v) (ends : EndsThere o) (p from count : ℕ) (r : Result (Unit {0}) Refused) (bars : Bars (inner.access_refusal o p from count) r)
    (outside : inner.access_refusal o p from count ≡ None → IfErr r (λ why. IsOutside o.honest why)) where
  pub bars_so : Bars (access_refusal v p from count) r
  bars_so why e = bars why (sym (refusal_so o v is ends p from count) ∙ e)

  both : OnOk r (access_refusal v p from count ≡ None) × IfErr r (λ why. IsWhyNoAccess v.honest (access_refusal v p from count) why)
  unfolding refused_first
  both = by_bars v.honest (has v p) (nat_lt 0 count && nat_le (from + count) (len_in v p)) r bars_so (λ e. subst (λ b. IfErr r (λ why. IsOutside b why)) (ap (λ (h : Heap). h.honest) is) (outside (sym (refusal_so o v is ends p from count) ∙ e)))

  pub done_so : OnOk r (access_refusal v p from count ≡ None)
  done_so = both.0

  pub why_so : IfErr r (λ why. IsWhyNoAccess v.honest (access_refusal v p from count) why)
  why_so = both.1

-- ---- refusals of a new object
pub length_yes : (len : ℕ) → 0 < len → len ≤ LONGEST → is_length len ≡ true
length_yes len some most = grind (arith, nat_tests)

free_not_full : (h : Heap) (p : ℕ) → p < POINTERS → object h p ≡ None → IsFull h → ⊥
free_not_full h p lt none full = false≢true (sym (ap is_some none) ∙ full p lt)

-- a length that objects have
module _ (v : Heap) (len : ℕ) (some : 0 < len) (most : len ≤ LONGEST) where
  pub not_long : (r : Result ℕ Refused) → is_length len ≡ false → r ≡ Err Length
  not_long r e = absurd (false≢true (sym e ∙ length_yes len some most))

  -- where a pointer is free
  module _ (p : ℕ) (inside : p < POINTERS) (none : object v p ≡ None) where
    pub not_full : (r : Result ℕ Refused) → is_length len ≡ true → IsFull v → r ≡ Err NoPointer
    not_full r e full = absurd (free_not_full v p inside none full)

    pub no_room : (why : Refused) → why ≡ NoRoom → IsWhyNoObject v len why
    no_room why e = subst (IsWhyNoObject v len) (sym e) (length_yes len some most, (p, inside, none))
