-- How many commands a heap's device may yet spoil, and what a command spends of that.
use Rattle.std.specs.Prelude.{◌≡◌, ℕ, zero, suc, true, false}
use Rattle.far_device.specs.FailAt.{MayFail}
use Rattle.far_device.specs.declared.liar.Lie.{Lie}
use Rattle.far_device.specs.declared.liar.Lie.TheVariants.{Never, Short, Flip}
use Rattle.far_hand.specs.declared.plain.Plain.{Plain}
use Rattle.far_evac.specs.EvacOf.{EvacOf}
use Rattle.far_text.specs.Command.{Command}
use Rattle.far_replay.specs.Answers.{CommandedBy, IsFlaw, Outside, Serves, Refuses, Gives, Lacks}
use Rattle.far_replay.specs.Far.{HoldsBy, ToldBy, far_in}
use Rattle.far_replay.specs.Moment.{FarSide, moment_in, state_in}
use Rattle.far_reply.specs.Reply.{Reply}

-- so many calls may yet have its flaw: of a device that doesn't lie they fail; of one that lies none fails, and so many reads are lies
abbrev pub IsLeft : Lie → FarSide → ℕ → Type 0
IsLeft Never device n = MayFail device.inner.left (λ k. Unit {0}) n
IsLeft Short device n = MayFail device.inner.left (λ k. Unit {0}) 0 × MayFail device.left (λ k. Unit {0}) n
IsLeft Flip device n = MayFail device.inner.left (λ k. Unit {0}) 0 × MayFail device.left (λ k. Unit {0}) n

abbrev pub may_spoil : Lie → EvacOf Plain FarSide → ℕ → Type 0
may_spoil lie evac n = (evac.book.device.lie ≡ lie) × IsLeft lie evac.book.device n

-- where so many were left, no more are, where a command is served, or refused memory; where it isn't, it came to what the flaw makes of it, and one less is left
abbrev pub Spends : Lie → Outside → ℕ → EvacOf Plain FarSide → Type 0
Spends lie Serves n new = may_spoil lie new n
Spends lie (Lacks turns objects) n new = may_spoil lie new n
Spends lie (Refuses why turns objects) zero new = ⊥
Spends lie (Refuses why turns objects) (suc n) new = IsFlaw lie (Refuses why turns objects) × may_spoil lie new n
Spends lie (Gives row false) n new = may_spoil lie new n
Spends lie (Gives row true) zero new = ⊥
Spends lie (Gives row true) (suc n) new = IsFlaw lie (Gives row true) × may_spoil lie new n

abbrev pub SpentBy : Outside → EvacOf Plain FarSide → EvacOf Plain FarSide → Type 0
SpentBy o old new = (lie : Lie) (n : ℕ) → may_spoil lie old n → Spends lie o n new

-- a command was made, with this reply: what came of it, what the device holds then, and what it told
pub record Made (o : Outside) (old : EvacOf Plain FarSide) (c : Command) (r : Reply) (new : EvacOf Plain FarSide) : Type 0 where
  pub commanded : CommandedBy o (moment_in old) c r (moment_in new)
  pub spent : SpentBy o old new
  pub holds : HoldsBy c (state_in old) (state_in new) (far_in old) (far_in new)
  pub told : ToldBy o (moment_in old) c (far_in old)

abbrev pub Makes : EvacOf Plain FarSide → Command → Reply → EvacOf Plain FarSide → Type 0
Makes old c r new = (o : Outside) × Made o old c r new
