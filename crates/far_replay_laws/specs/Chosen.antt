-- Which logs the core's round has, as `log` and `logs` print them.
use Rattle.std.specs.Prelude.{◌≡◌, ◌↔◌, ℕ, true}
use Rattle.far_evac.specs.declared.phase.Phase.TheVariants.{Evacuating, Waiting}
use Rattle.far_replay.specs.Answers.{IsMoment}
use Rattle.far_replay.specs.Moment.{Moment}
use Rattle.far_replay_laws.specs.Steps.{IsChosen, LiesIn}

-- while a round waits and while objects leave they are the chosen ones, and no other. In every phase an object that lies in one of them, dropped or not, lies in a chosen one: what a
-- round that was given up has left there is empty
pub record RoundIsChosen (now : Moment) : Type 0 where
  pub waits : now.phase ≡ Waiting → (l : ℕ) → (now.core.round l ≡ true) ↔ IsChosen now l
  pub leaves : now.phase ≡ Evacuating → (l : ℕ) → (now.core.round l ≡ true) ↔ IsChosen now l
  pub lies : (p l : ℕ) → now.core.round l ≡ true → LiesIn now.core p l → IsChosen now l

abbrev pub RoundsAreChosen : Type 0
RoundsAreChosen = (now : Moment) → IsMoment now → RoundIsChosen now
