-- The order in which logs were sealed, from one moment to the next.
use Rattle.std.specs.Prelude.{◌≡◌, ℕ, Bool, true, not, List, ◌++◌, Contains, filter}
use Rattle.far_text.specs.Command.{Command, By, Evacuator, Evacuate, Round}
use Rattle.far_replay.specs.Answers.{Commanded, IsMoment}
use Rattle.far_replay.specs.Moment.{Moment}
use Rattle.far_reply.specs.Reply.{Reply}
use Rattle.far_replay_laws.specs.Steps.{IsChosen, Takes}

-- the logs that a command may give back: those that are chosen, or that a round of its own chooses
abbrev pub MayGiveBack : Moment → Command → ℕ → Type 0
MayGiveBack now (Evacuator (Evacuate count)) l = IsChosen now l
MayGiveBack now (Evacuator (Round policy most turns)) l = (logs : List ℕ) × Takes now (By policy) most logs × Contains logs l
MayGiveBack now c l = ⊥

-- the sealed logs keep their order, but for those that were given back; those that were sealed since come last
pub record KeepsAges (now : Moment) (c : Command) (after : Moment) : Type 0 where
  pub gone : ℕ → Bool
  pub since : List ℕ
  pub order : after.order ≡ filter (λ l. not (gone l)) now.order ++ since
  pub given : (l : ℕ) → gone l ≡ true → MayGiveBack now c l

abbrev pub AgesStay : Type 0
AgesStay = (now : Moment) (c : Command) (r : Reply) (after : Moment) → IsMoment now → Commanded now c r after → KeepsAges now c after
