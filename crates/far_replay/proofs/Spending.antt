-- What a command spends of the flaw of a heap's device, by what its device's calls leave.
use Rattle.std.proofs.Common.{◌≡◌, ℕ, zero, suc, true, false, refl, sym, subst, ◌∙◌, Result, Err}
use Rattle.far_device.specs.FailAt.{MayFail}
use Rattle.far_device.specs.declared.fault.DeviceFault.{DeviceFault}
use Rattle.far_device.specs.declared.fault.DeviceFault.TheVariants as fault
use Rattle.far_device.specs.declared.liar.Lie.{Lie}
use Rattle.far_device.specs.declared.liar.Lie.TheVariants.{Short, Flip}
use Rattle.far_word.specs.declared.refused.Refused.{Refused as Refusal}
use Rattle.far_word.specs.declared.refused.Refused.TheVariants.{Damaged, Device}
use Rattle.far_hand.specs.declared.plain.Plain.{Plain}
use Rattle.far_evac.specs.EvacOf.{EvacOf}
use Rattle.far_replay.specs.Commanded.{Outside, Serves, Refuses, Gives, Lacks}
use Rattle.far_replay.specs.Moment.{FarSide}
use Rattle.far_replay.specs.Spent.{IsLeft, Spends, SpentBy}
use Rattle.far_replay.proofs.FarReads.{NoMore, Passed, failed_leaves, failed_spends, none_left, still_left}

-- where nothing of it came
pub spent_none : (old new : EvacOf Plain FarSide) → NoMore old.book.device new.book.device → SpentBy Serves old new
spent_none old new x lie n few = (x.lie ∙ few.0, still_left old.book.device new.book.device lie n x few.1)

pub spent_given : (row : ℕ → ℕ) (old new : EvacOf Plain FarSide) → NoMore old.book.device new.book.device → SpentBy (Gives row false) old new
spent_given row old new x lie n few = (x.lie ∙ few.0, still_left old.book.device new.book.device lie n x few.1)

pub spent_same : (old new : EvacOf Plain FarSide) → new.book.device ≡ old.book.device → SpentBy Serves old new
spent_same old new same lie n few = subst (λ (d : FarSide). (d.lie ≡ lie) × IsLeft lie d n) (sym same) few

pub spent_first : (o : Outside) (old between new : EvacOf Plain FarSide) → SpentBy Serves old between → SpentBy o between new → SpentBy o old new
spent_first o old between new a b lie n few = b lie n (a lie n few)

-- where it came last
served_last : (lie : Lie) (o : Outside) (n : ℕ) (between new : EvacOf Plain FarSide) → SpentBy Serves between new → Spends lie o n between → Spends lie o n new
served_last lie Serves n between new b h = b lie n h
served_last lie (Lacks turns objects) n between new b h = b lie n h
served_last lie (Refuses why turns objects) (suc n) between new b h = (h.0, b lie n h.1)
served_last lie (Gives row false) n between new b h = b lie n h
served_last lie (Gives row true) (suc n) between new b h = (h.0, b lie n h.1)
served_last lie _ zero between new b h = absurd h

pub spent_last : (o : Outside) (old between new : EvacOf Plain FarSide) → SpentBy o old between → SpentBy Serves between new → SpentBy o old new
spent_last o old between new a b lie n few = served_last lie o n between new b (a lie n few)

-- at whatever turn, after whatever objects
any_turn_of : (lie : Lie) (why : Refusal) (turns objects n : ℕ) (new : EvacOf Plain FarSide) → Spends lie (Refuses why 0 0) n new → Spends lie (Refuses why turns objects) n new
any_turn_of lie why turns objects zero new h = absurd h
any_turn_of Flip why turns objects (suc n) new h = absurd h.0
any_turn_of _ why turns objects (suc n) new h = h

pub any_turn : (why : Refusal) (turns objects : ℕ) (old new : EvacOf Plain FarSide) → SpentBy (Refuses why 0 0) old new → SpentBy (Refuses why turns objects) old new
any_turn why turns objects old new h lie n few = any_turn_of lie why turns objects n new (h lie n few)

-- calls of which the last one failed
module _ {A : Type 0} (old new : EvacOf Plain FarSide) (d : FarSide) (x : NoMore old.book.device d) (answer : Result A DeviceFault) (asked : Type 0) (passed : Passed d answer new.book.device asked) (failed : answer ≡ Err fault.Device)
    (never : asked → ⊥) (same : new.book.device.lie ≡ d.lie) where
  pub spent_failed : SpentBy (Refuses Device 0 0) old new
  spent_failed lie zero few = absurd (failed_spends d new.book.device answer asked passed failed never lie (still_left old.book.device d lie 0 x few.1))
  spent_failed lie (suc n) few =
      let (is, left) = failed_leaves d new.book.device answer asked passed failed never lie n (still_left old.book.device d lie (suc n) x few.1) in
      subst (λ l. Spends l (Refuses Device 0 0) (suc n) new) (sym is) (refl, (same ∙ x.lie ∙ few.0 ∙ is, left))

-- a read that was a lie
module _ (old new : EvacOf Plain FarSide) (x : NoMore old.book.device new.book.device) (one : old.book.device.left ≡ 1) (none : new.book.device.left ≡ 0) where
  over : (n : ℕ) → MayFail new.book.device.left (λ k. Unit {0}) n
  over n = subst (λ k. MayFail k (λ y. Unit {0}) n) (sym none) tt

  pub spent_short : old.book.device.lie ≡ Short → SpentBy (Refuses Damaged 0 0) old new
  spent_short is lie n few = subst (λ l. Spends l (Refuses Damaged 0 0) n new) (sym is ∙ few.0) (by n (subst (λ l. IsLeft l old.book.device n) (sym few.0 ∙ is) few.1)) where
    by : (n : ℕ) → IsLeft Short old.book.device n → Spends Short (Refuses Damaged 0 0) n new
    by zero few = absurd (none_left old.book.device.left one few.1)
    by (suc n) few = (refl, (x.lie ∙ is, (x.fails 0 few.0, over n)))

  pub spent_flip : (row : ℕ → ℕ) → old.book.device.lie ≡ Flip → SpentBy (Gives row true) old new
  spent_flip row is lie n few = subst (λ l. Spends l (Gives row true) n new) (sym is ∙ few.0) (by n (subst (λ l. IsLeft l old.book.device n) (sym few.0 ∙ is) few.1)) where
    by : (n : ℕ) → IsLeft Flip old.book.device n → Spends Flip (Gives row true) n new
    by zero few = absurd (none_left old.book.device.left one few.1)
    by (suc n) few = (tt, (x.lie ∙ is, (x.fails 0 few.0, over n)))
