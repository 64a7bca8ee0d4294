-- The far side of a heap has the flaw that its device is said to have.
use Rattle.std.proofs.Common.{◌≡◌, ◌==◌, ℕ, zero, suc, false, arith, cond, refl, sym, ap, subst, ◌∙◌, Option, Some, None}
use Rattle.std.specs.Option.{option_map}
use Rattle.std.proofs.lemmas.Bool.{ne_eqb}
use Rattle.far_text.specs.declared.command.Device.{Device as Spelled}
use Rattle.far_text.specs.declared.command.Flaw.{Flaw as SpelledFlaw}
use Rattle.far_device.specs.FailAt.{MayFail}
use Rattle.far_device.specs.declared.liar.Lie.TheVariants as lies
use Rattle.far_hand.specs.declared.plain.Plain.{Plain}
use Rattle.far_evac.specs.EvacOf.{EvacOf}
use Rattle.far_text.specs.Command.{Device, Flawed, Fail, Short, Flip, as_device, as_flaw}
use Rattle.far_replay.specs.Answers.{flaws, lie_of}
use Rattle.far_replay.specs.Flawed.{IsFlawed}
use Rattle.far_replay.specs.Moment.{FarSide}
use Rattle.far_replay.specs.Spent.{IsLeft, may_spoil}

some_call : (call : ℕ) → (suc call == 0) ≡ false
some_call call = ne_eqb (suc call) 0 (λ e. omega (arith, e))

pub fail_is : (call : ℕ) → lies.Never ≡ lie_of (Some (Flawed Fail call))
fail_is zero = refl
fail_is (suc call) = refl

pub short_is : (call : ℕ) → cond (call == 0) lies.Never lies.Short ≡ lie_of (Some (Flawed Short call))
short_is zero = refl
short_is (suc call) = ap (λ b. cond b lies.Never lies.Short) (some_call call)

pub flip_is : (call : ℕ) → cond (call == 0) lies.Never lies.Flip ≡ lie_of (Some (Flawed Flip call))
flip_is zero = refl
flip_is (suc call) = ap (λ b. cond b lies.Never lies.Flip) (some_call call)

-- what is left at first
fail_few : (call : ℕ) → MayFail call (λ k. Unit {0}) (flaws (Some (Flawed Fail call)))
fail_few zero = tt
fail_few (suc call) = tt

fail_left : (d : FarSide) (call : ℕ) → d.inner.left ≡ call → IsLeft lies.Never d (flaws (Some (Flawed Fail call)))
fail_left d call is = subst (λ k. MayFail k (λ x. Unit {0}) (flaws (Some (Flawed Fail call)))) (sym is) (fail_few call)

short_left : (d : FarSide) (call : ℕ) → d.inner.left ≡ 0 → d.left ≡ call → IsLeft (lie_of (Some (Flawed Short call))) d (flaws (Some (Flawed Short call)))
short_left d zero none is = subst (λ k. MayFail k (λ x. Unit {0}) 0) (sym none) tt
short_left d (suc call) none is = (subst (λ k. MayFail k (λ x. Unit {0}) 0) (sym none) tt, subst (λ k. MayFail k (λ x. Unit {0}) 1) (sym is) tt)

flip_left : (d : FarSide) (call : ℕ) → d.inner.left ≡ 0 → d.left ≡ call → IsLeft (lie_of (Some (Flawed Flip call))) d (flaws (Some (Flawed Flip call)))
flip_left d zero none is = subst (λ k. MayFail k (λ x. Unit {0}) 0) (sym none) tt
flip_left d (suc call) none is = (subst (λ k. MayFail k (λ x. Unit {0}) 0) (sym none) tt, subst (λ k. MayFail k (λ x. Unit {0}) 1) (sym is) tt)

fail_leaves : (d : FarSide) (call : ℕ) → d.inner.left ≡ call → IsLeft (lie_of (Some (Flawed Fail call))) d (flaws (Some (Flawed Fail call)))
fail_leaves d call is = subst (λ l. IsLeft l d (flaws (Some (Flawed Fail call)))) (fail_is call) (fail_left d call is)

flawed_left : (device : Option Device) (d : FarSide) → IsFlawed device d → IsLeft (lie_of device) d (flaws device)
flawed_left None d is = subst (λ k. MayFail k (λ x. Unit {0}) 0) (sym is.fails) tt
flawed_left (Some (Flawed Fail call)) d is = fail_leaves d call is.fails
flawed_left (Some (Flawed Short call)) d is = short_left d call is.fails is.lies
flawed_left (Some (Flawed Flip call)) d is = flip_left d call is.fails is.lies

pub flawed_spoils : (device : Option Device) (evac : EvacOf Plain FarSide) → IsFlawed device evac.book.device → may_spoil (lie_of device) evac (flaws device)
flawed_spoils device evac is = (is.lie, flawed_left device evac.book.device is)

-- as a heap's text says it
pub said_so : (device : Option Spelled) (d : Spelled) (flaw : SpelledFlaw) → device ≡ Some d → d.flaw ≡ flaw → option_map as_device device ≡ Some (Flawed (as_flaw flaw) d.call)
said_so device d flaw is of = ap (option_map as_device) is ∙ ap (λ f. Some (Flawed (as_flaw f) d.call)) of
