-- Marking: the live objects of the chosen logs get EVAC; where none is left, the epoch rises.
use Rattle.std.specs.Prelude.{ℕ, ◌+◌, Bool, nat_lt, Option, Some, None, List, length, take, fold, if◌then◌else◌}
use Rattle.far_events.specs.state.State.{State}
use Rattle.far_book.specs.book.Effects.{marked}
use Rattle.far_evac.specs.declared.phase.Phase.TheVariants.{Waiting}
use Rattle.far_evac.specs.Live.{lacking}
use Rattle.far_evac.specs.Moment.{Moment}
use Rattle.far_evac.specs.RoundSteps.{advanced}

-- the first n that lack EVAC, or all
abbrev pub newly_marked : Moment → ℕ → List ℕ
newly_marked m n = take n (lacking m.core m.collection)

-- more than n lack it
abbrev pub leaves_some : Moment → ℕ → Bool
leaves_some m n = nat_lt n (length (lacking m.core m.collection))

abbrev pub marked_core : Moment → ℕ → State
marked_core m n = fold marked m.core (newly_marked m n)

abbrev pub after_marking : Moment → ℕ → Moment
after_marking m n =
    if leaves_some m n then record m { core = marked_core m n } else record m { core = advanced (marked_core m n) m.collection; phase = Waiting }

-- the epoch that is reached, where none is left
abbrev pub waiting_for : Moment → ℕ → Option ℕ
waiting_for m n = if leaves_some m n then None else Some (m.core.epoch + 1)
