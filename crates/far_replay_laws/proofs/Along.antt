-- What is so of each command is so of a list of them.
use Rattle.std.proofs.Common.{List, [], ◌∷◌}
use Rattle.far_text.specs.Command.{Command}
use Rattle.far_text.specs.Written.{AllWriteBytes, WritesBytes}
use Rattle.far_replay.specs.Answers.{Answered, Commanded, IsMoment}
use Rattle.far_replay.specs.Moment.{Moment}
use Rattle.far_reply.specs.Reply.{Reply}
use Rattle.far_replay.proofs.Lasting.{next_is_moment}
use Rattle.far_replay_laws.specs.Along.{AllAlong}

module _ (P : Moment → Command → Reply → Moment → Type 0) (each : (now : Moment) (c : Command) (r : Reply) (next : Moment) → IsMoment now → WritesBytes c → Commanded now c r next → P now c r next) where
  pub along : (now : Moment) (cs : List Command) (rs : List Reply) (moments : List Moment) → IsMoment now → AllWriteBytes cs → Answered now cs rs moments → AllAlong P now cs rs moments
  along now (c ∷ cs) (r ∷ rs) (next ∷ ms) is bytes h = (each now c r next is bytes.0 h.0, along next cs rs ms (next_is_moment now c r next is bytes.0 h.0) bytes.1 h.1)
  along now [] [] [] is bytes h = tt
  along now _ _ _ is bytes h = absurd h
