-- What is so of each command of a list: of its reply, and of the moments before it and after it.
use Rattle.std.specs.Prelude.{List, ◌∷◌}
use Rattle.far_replay.specs.Moment.{Moment}
use Rattle.far_reply.specs.Reply.{Reply}
use Rattle.far_text.specs.Command.{Command}

abbrev pub AllAlong : (Moment → Command → Reply → Moment → Type 0) → Moment → List Command → List Reply → List Moment → Type 0
AllAlong P now (c ∷ cs) (r ∷ rs) (after ∷ moments) = P now c r after × AllAlong P after cs rs moments
AllAlong P now cs rs moments = Unit {0}
