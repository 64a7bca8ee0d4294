-- A far object that is read where it is.
use Rattle.std.proofs.Common.{◌≡◌, ◌≢◌, ℕ, ◌+◌, ◌/◌, Bool, true, false, cond, Option, Some, None, List, Result, Ok, Err, refl, sym, ap, subst, ◌∙◌, length}
use Rattle.std.specs.Prelude.{IsSome, is_some, IfErr, IfSome, OnOk, slice_range}
use Rattle.std.proofs.lemmas.Bool.{false≢true, false_from_ne_true, true≢false}
use Rattle.far_word.specs.Bytes.{bytes_of}
use Rattle.far_word.specs.Pointer.{read_of}
use Rattle.far_word.specs.declared.pointer.PtrWord.{PtrWord}
use Rattle.far_word.specs.declared.pointer.PtrWord.TheVariants.{Free, Near, Far}
use Rattle.far_word.specs.declared.refused.Refused.{Refused}
use Rattle.far_word.specs.declared.refused.Refused.TheVariants.{Damaged, Device, Memory}
use Rattle.far_word.specs.declared.sizes.TheConstants.{CELLS}
use Rattle.far_events.specs.state.Law.{Law}
use Rattle.far_events.specs.state.State.{State}
use Rattle.far_core.specs.world.World.{FarSide}
use Rattle.far_core.specs.world.WorldOf.{object_of, world_of}
use Rattle.far_device.specs.declared.fault.DeviceFault.{DeviceFault}
use Rattle.far_book.specs.book.Fetching.{far_len}
use Rattle.far_book.specs.book.Glancing.{AsksToGlance, bytes_there, len_there}
use Rattle.far_alone.specs.Dereference.{says_near}
use Rattle.far_private.specs.Causes.{IsFault, StaysFar}
use Rattle.far_private.specs.Objects as inner
use Rattle.far_private.specs.Objects.{IsRead, bytes_in, known, len_in, objects_of, seen}
use Rattle.far_private.proofs.NotGiven.{far_long}
use Rattle.far_private.proofs.Placing.{used_some}

-- ---- its bytes are those that were stored
far_has : (h : Bool) (word stored : ℕ → ℕ) (p : ℕ) (v : Option PtrWord) → IsSome (seen h (object_of word stored p v)) → says_near v ≡ false → inner.bytes_of (seen h (object_of word stored p v)) ≡ known h (bytes_of stored (far_len v))
far_has h word stored p (Some (Far len ds m)) some far = by m.dropped some where
  by : (d : Bool) → IsSome (seen h (cond d None (Some record { owner = p / CELLS; ds = ds; bytes = bytes_of stored len; home = FarSide }))) →
      inner.bytes_of (seen h (cond d None (Some record { owner = p / CELLS; ds = ds; bytes = bytes_of stored len; home = FarSide }))) ≡ known h (bytes_of stored len)
  by false there = refl
  by true there = absurd (false≢true there)
far_has h word stored p (Some (Near len ds place m)) some far = absurd (true≢false far)
far_has h word stored p (Some Free) some far = absurd (false≢true some)
far_has h word stored p None some far = absurd (false≢true some)

module _ (s : State) (law : Law s) (p : ℕ) (used : s.used p ≡ true) (far : says_near (read_of (s.cell p)) ≡ false) where
  there : IsSome ((objects_of s).object p)
  there = ap is_some (used_some s p law used).1

  far_bytes : bytes_in (objects_of s) p ≡ known s.honest (bytes_there s p)
  unfolding world_of
  far_bytes = far_has s.honest s.word (s.stored p) p (read_of (s.cell p)) there far

  pub long_there : len_there s p ≡ len_in (objects_of s) p
  long_there = far_long s p there far

  by_honest : (b : Bool) (whole out : List ℕ) (from to : ℕ) → (b ≡ true → out ≡ slice_range whole from to) → IfSome (known b whole) (λ bytes. out ≡ slice_range bytes from to)
  by_honest true whole out from to e = e refl
  by_honest false whole out from to e = tt

  pub read_there : (r : Result (Unit {0}) Refused) (out : List ℕ) (from n : ℕ) → length out ≡ n → (s.honest ≡ true → OnOk r (out ≡ slice_range (bytes_there s p) from (from + length out))) → OnOk r (IsRead (objects_of s) p from n out)
  read_there (Ok done) out from n long e =
      subst (λ k. IsRead (objects_of s) p from k out) long
      (subst (λ o. IfSome o (λ bytes. out ≡ slice_range bytes from (from + length out))) (sym far_bytes) (by_honest s.honest (bytes_there s p) out from (from + length out) e))
  read_there (Err why) out from n long e = tt

  module _ {D : Type 0} (reads : D → ℕ → Result (List ℕ) DeviceFault → D → Type 0) (from : ℕ) (out : List ℕ) (old new : D) where
    cause : (why : Refused) → AsksToGlance D reads s p from out (Err why) old new → (s.honest ≡ true → why ≢ Damaged) → StaysFar D reads s p new why
    cause Memory asked whole = record { far = far; cause = (old, asked) }
    cause Device asked whole = record { far = far; cause = (old, asked) }
    cause Damaged asked whole = record { far = far; cause = (false_from_ne_true s.honest (λ e. whole e refl), old, asked.0, asked.1, asked.2) }
    cause _ asked whole = absurd asked

    fault : (why : Refused) → AsksToGlance D reads s p from out (Err why) old new → IsFault why
    fault Memory asked = tt
    fault Device asked = tt
    fault Damaged asked = tt
    fault _ asked = absurd asked

    pub glance_far : (r : Result (Unit {0}) Refused) → AsksToGlance D reads s p from out r old new → (s.honest ≡ true → r ≢ Err Damaged) → IfErr r (λ why. StaysFar D reads s p new why)
    glance_far (Ok done) asked whole = tt
    glance_far (Err why) asked whole = cause why asked (λ e same. whole e (ap (λ (w : Refused). Err w) same))

    pub glance_fault : (r : Result (Unit {0}) Refused) → AsksToGlance D reads s p from out r old new → IfErr r (λ why. IsFault why)
    glance_fault (Ok done) asked = tt
    glance_fault (Err why) asked = fault why asked
