-- The heap's epoch through a step of the evacuator, and the last one.
use Rattle.std.specs.Prelude.{◌≡◌, ℕ, ◌+◌, Some}
use Rattle.far_word.specs.declared.sizes.TheConstants.{EPOCH_END}
use Rattle.far_evac.specs.declared.phase.Phase.TheVariants.{Idle}
use Rattle.far_text.specs.Command.{Evacuator, Step, Select, Mark, Round}
use Rattle.far_word.specs.declared.refused.Refused.TheVariants.{EpochsSpent}
use Rattle.far_replay.specs.Answers.{Commanded, IsMoment}
use Rattle.far_replay.specs.Moment.{Moment}
use Rattle.far_reply.specs.Reply.{Reply, Marked, Ended, Halted, Refused}

-- the epoch is the one that a marking tells which left none to be marked, and no other step spends one. Of a round its turns say it (`TellsRound`)
abbrev pub EpochAfter : ℕ → Step → Reply → ℕ → Type 0
EpochAfter now (Mark count) (Marked marked (Some epoch)) after = after ≡ epoch
EpochAfter now (Round policy most turns) (Ended end) after = Unit {0}
EpochAfter now (Round policy most turns) (Halted why progress) after = Unit {0}
EpochAfter now step r after = after ≡ now

-- a step that chooses logs
abbrev pub Chooses : Step → Type 0
Chooses (Select choice most) = Unit {0}
Chooses (Round policy most turns) = Unit {0}
Chooses step = ⊥

-- in the last epoch no logs are chosen, whichever are sealed: the step is refused 13
pub record StepSpends (now : Moment) (step : Step) (r : Reply) (after : Moment) : Type 0 where
  pub epoch : EpochAfter now.core.epoch step r after.core.epoch
  pub last : Chooses step → now.phase ≡ Idle → now.core.epoch + 1 ≡ EPOCH_END → r ≡ Refused EpochsSpent

abbrev pub StepsSpendEpochs : Type 0
StepsSpendEpochs = (now : Moment) (step : Step) (r : Reply) (after : Moment) → IsMoment now → Commanded now (Evacuator step) r after → StepSpends now step r after
