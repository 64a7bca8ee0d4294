-- A new object of given bytes leaves true what is true of an evacuator.
use Rattle.std.proofs.Common.{◌≡◌, ◌≤◌, ◌/◌, ◌<◌, ℕ, Bool, true, ap, refl, subst, sym, List, length, Some}
use Rattle.std.specs.Prelude.{IfErr, IfOk, None, Result, Ok, Err, slice_index}
use Rattle.far_word.specs.declared.pointer.Place.{Place}
use Rattle.far_word.specs.declared.refused.Refused.{Refused}
use Rattle.far_word.specs.declared.sizes.TheConstants.{CELLS, LONGEST}
use Rattle.far_word.specs.Sizes.{size_of}
use Rattle.far_events.specs.events.Accesses.{with_cell}
use Rattle.far_events.specs.events.Legal.{IsClosed}
use Rattle.far_events.specs.events.NewObjects.{made_with}
use Rattle.far_events.specs.state.Law.{Law}
use Rattle.far_core.specs.state.Room.{room}
use Rattle.far_events.specs.state.State.{State}
use Rattle.far_core.proofs.NewObjects.{MayMake, adopts_and_writes, cold, law_named, law_over, law_placed, made_cold, may_make, named, named_is, over, over_then, pointer}
use Rattle.far_events.proofs.Put.{put_same}
use Rattle.far_book.specs.book.Effects.{placed}
use Rattle.far_book.proofs.region.MadeObjects.{cold_sealed, written_owned}
use Rattle.far_book.proofs.region.Owns.{own_law}
use Rattle.far_evac.specs.declared.round.Round.{Round}
use Rattle.far_evac.specs.Standing.{IsSound}
use Rattle.far_evac.proofs.Accessed.{sound_all, sound_reworded}
use Rattle.far_evac.proofs.Handing.{object_placed}

module _ {still : Type 0} {copying : Bool} (r : Round) {s : State} {m p len ds : ℕ} {place : Place} {bytes : List ℕ} (x : MayMake s m p len ds place bytes) (most : len ≤ LONGEST)
    (found : room s (size_of len) true ≡ Some place) (sound : IsSound still s copying r) where
  -- an object of zeros is placed
  there : IsSound still (placed s p len ds place) copying r
  there = object_placed s (placed s p len ds place) r sound (own_law (placed s p len ds place) (law_placed x)) p len ds (own_law s x.law) (pointer x) x.free x.some most x.structure
      (Ok place) found refl record { known = λ a known. refl; headers = λ a begun. refl } tt

  -- the bytes are written
  then : IsSound still (over x) copying r
  then = subst (λ (u : State). IsSound still u copying r) (over_then x)
      (sound_all r (adopts_and_writes x) (written_owned x) (named x) (law_named x) (subst (λ (u : State). IsSound still u copying r) (named_is x) there))

  -- and HOT is taken away
  sound_made : IsSound still (made_with s p len ds place bytes) copying r
  sound_made = subst (λ (u : State). IsSound still u copying r) (made_cold x)
      (sound_reworded r (over x) (cold x) p (law_over x) (ap (with_cell (over x) p) (sym (put_same (over x).cell p _ p refl))) (cold_sealed x) then)

-- as the call tells it
module _ {still : Type 0} {copying : Bool} (r : Round) (s t : State) (m p len ds : ℕ) (bytes : List ℕ) (law : Law s) (closed : IsClosed s m) (fresh : s.remembered m ≡ None) (own : p / CELLS ≡ m) (free : s.cell p ≡ 0)
    (some : 0 < len) (most : len ≤ LONGEST) (structure : ds < 256) (front : length bytes ≤ len) (small : (k : ℕ) → slice_index bytes k < 256) where
  pub sound_with : (result : Result Place Refused) → IfOk result (λ place. room s (size_of len) true ≡ Some place) → IfOk result (λ place. t ≡ made_with s p len ds place bytes) → IfErr result (λ _. t ≡ s) →
      IsSound still s copying r → IsSound still t copying r
  sound_with (Ok place) found made none sound =
      subst (λ (u : State). IsSound still u copying r) (sym made) (sound_made r (may_make s m p len ds place bytes law closed fresh own free some most structure front small found) most found sound)
  sound_with (Err why) found made none sound = subst (λ (u : State). IsSound still u copying r) (sym none) sound
