-- What a user is told of an object that doesn't come: what the device answered.
use Rattle.std.proofs.Common.{◌≡◌, ℕ, ◌+◌, ◌/◌, Bool, true, false, cond, Option, Some, None, List, Result, Ok, Err, inl, inr, refl, sym, ap, subst, ◌∙◌}
use Rattle.std.specs.Prelude.{◌&&◌, nat_lt, nat_le, IsSome, is_some, IfErr, OnErr, if◌then◌else◌}
use Rattle.std.proofs.lemmas.Bool.{false≢true, true≢false}
use Rattle.far_word.specs.Bytes.{bytes_of}
use Rattle.far_word.specs.Pointer.{read_of}
use Rattle.far_word.specs.declared.pointer.PtrWord.{PtrWord}
use Rattle.far_word.specs.declared.pointer.PtrWord.TheVariants.{Free, Near, Far}
use Rattle.far_word.specs.declared.refused.Refused.{Refused}
use Rattle.far_word.specs.declared.refused.Refused.TheVariants.{Damaged, Device, EpochsSpent, Memory, NoRoom, NotHeld, Range}
use Rattle.far_word.specs.declared.sizes.TheConstants.{CELLS}
use Rattle.far_word.proofs.ByteLaws.{length-bytes_of}
use Rattle.far_events.specs.state.State.{State}
use Rattle.far_core.specs.world.World.{FarSide}
use Rattle.far_core.specs.world.WorldOf.{object_of, world_of}
use Rattle.far_device.specs.declared.fault.DeviceFault.{DeviceFault}
use Rattle.far_book.specs.book.Fetching.{far_len}
use Rattle.far_alone.specs.Dereference.{says_near}
use Rattle.far_private.specs.Causes.{IsNotGiven, IsWant, StaysAway, StaysFar, WhyFar}
use Rattle.far_private.specs.Heap.{Heap, len_in}
use Rattle.far_private.specs.HeapOf.{heap_of}
use Rattle.far_private.specs.Objects as inner
use Rattle.far_private.specs.Objects.{Object, Objects, len_of, objects_of, seen}
use Rattle.far_private.proofs.HeapTies.{EndsThere, object_so}

-- ---- a far object's cell tells how many bytes it has
far_has : (h : Bool) (word stored : ℕ → ℕ) (p : ℕ) (v : Option PtrWord) → IsSome (seen h (object_of word stored p v)) → says_near v ≡ false → far_len v ≡ len_of (seen h (object_of word stored p v))
far_has h word stored p (Some (Far len ds m)) some far = by m.dropped some where
  by : (d : Bool) → IsSome (seen h (cond d None (Some record { owner = p / CELLS; ds = ds; bytes = bytes_of stored len; home = FarSide }))) →
      len ≡ len_of (seen h (cond d None (Some record { owner = p / CELLS; ds = ds; bytes = bytes_of stored len; home = FarSide })))
  by false there = sym (length-bytes_of stored len)
  by true there = absurd (false≢true there)
far_has h word stored p (Some (Near len ds place m)) some far = absurd (true≢false far)
far_has h word stored p (Some Free) some far = absurd (false≢true some)
far_has h word stored p None some far = absurd (false≢true some)

pub far_long : (s : State) (p : ℕ) → IsSome ((objects_of s).object p) → says_near (read_of (s.cell p)) ≡ false → far_len (read_of (s.cell p)) ≡ len_of ((objects_of s).object p)
unfolding world_of
far_long s p some far = far_has s.honest s.word (s.stored p) p (read_of (s.cell p)) some far

-- ---- what the device answered
module _ {D : Type 0} (reads : D → ℕ → Result (List ℕ) DeviceFault → D → Type 0) (s : State) (p : ℕ) (device : D) (len : ℕ) where
  by_cause : (why : Refused) → far_len (read_of (s.cell p)) ≡ len → WhyFar D reads s p device why → IsNotGiven D reads p len why
  by_cause Memory e (before, asked) = (before, device, asked)
  by_cause Device e (before, asked) = (before, device, asked)
  by_cause Damaged e (lies, before, bytes, asked, other) = (before, bytes, device, asked, λ x. other (x ∙ sym e))
  by_cause _ e h = tt

  want_given : (why : Refused) → IsWant why → IsNotGiven D reads p len why
  want_given NoRoom want = tt
  want_given EpochsSpent want = tt
  want_given _ want = absurd want

  away_given : (says_near (read_of (s.cell p)) ≡ false → far_len (read_of (s.cell p)) ≡ len) → (why : Refused) → StaysAway D reads s p device why → IsNotGiven D reads p len why
  away_given long why (inl far) = by_cause why (long far.far) far.cause
  away_given long why (inr crowded) = want_given why crowded.is

-- ---- to users
refused_first : Bool → Bool → Option Refused
refused_first a b = if a then (if b then None else Some Range) else Some NotHeld

abbrev Bars : Option Refused → Result (Unit {0}) Refused → Type 0
Bars o r = (why : Refused) → o ≡ Some why → r ≡ Err why

pub on_err : {P : Type 0} (r : Result (Unit {0}) Refused) → P → OnErr r P
on_err (Ok x) h = tt
on_err (Err why) h = h

pub stays_away : {D : Type 0} (reads : D → ℕ → Result (List ℕ) DeviceFault → D → Type 0) (s : State) (p : ℕ) (device : D) (r : Result (Unit {0}) Refused) → IfErr r (λ why. StaysFar D reads s p device why) → IfErr r (λ why. StaysAway D reads s p device why)
stays_away reads s p device (Ok x) h = tt
stays_away reads s p device (Err why) h = inl h

module _ {D : Type 0} (reads : D → ℕ → Result (List ℕ) DeviceFault → D → Type 0) (o : Objects) (v : Heap) (is : heap_of o ≡ v) (ends : EndsThere o) (s : State) (p : ℕ) (device : D) where
  long_so : objects_of s ≡ o → is_some (o.object p) ≡ true → says_near (read_of (s.cell p)) ≡ false → far_len (read_of (s.cell p)) ≡ len_in v p
  long_so same there far =
      let x : (objects_of s).object p ≡ o.object p = ap (λ (y : Objects). y.object p) same in
      far_long s p (subst IsSome (sym x) there) far ∙ ap len_of (x ∙ sym (object_so o v is ends p))

  by_refusal : (a b : Bool) → is_some (o.object p) ≡ a → (why : Refused) → Bars (refused_first a b) (Err why) → objects_of s ≡ o → (refused_first a b ≡ None → StaysAway D reads s p device why) →
      IsNotGiven D reads p (len_in v p) why
  unfolding refused_first
  by_refusal true true there why bars same away = away_given reads s p device (len_in v p) (long_so same there) why (away refl)
  by_refusal true false there why bars same away = let odd : Err why ≡ Err Range = bars Range refl in let is_range : why ≡ Range = cc in subst (IsNotGiven D reads p (len_in v p)) (sym is_range) tt
  by_refusal false b there why bars same away = let odd : Err why ≡ Err NotHeld = bars NotHeld refl in let is_none : why ≡ NotHeld = cc in subst (IsNotGiven D reads p (len_in v p)) (sym is_none) tt

  pub given_so : (from count : ℕ) (r : Result (Unit {0}) Refused) → Bars (inner.access_refusal o p from count) r → OnErr r (objects_of s ≡ o) →
      (inner.access_refusal o p from count ≡ None → IfErr r (λ why. StaysAway D reads s p device why)) → IfErr r (λ why. IsNotGiven D reads p (len_in v p) why)
  unfolding refused_first
  given_so from count (Ok x) bars same away = tt
  given_so from count (Err why) bars same away = by_refusal (is_some (o.object p)) (nat_lt 0 count && nat_le (from + count) (inner.len_in o p)) refl why bars same away
