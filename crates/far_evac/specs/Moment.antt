-- A heap between two calls of the evacuator, and what a call has done so far.
use Rattle.std.specs.Prelude.{ℕ, Bool, ◌+◌, ◌==◌, if◌then◌else◌, List, [], ◌∷◌, ◌++◌}
use Rattle.far_word.specs.declared.pointer.Place.{Place}
use Rattle.far_events.specs.state.State.{State}
use Rattle.far_book.specs.book.Effects.{order_after}
use Rattle.far_book.specs.book.Releasing.{order_without, released}
use Rattle.far_evac.specs.declared.answers.Progress.{Progress}
use Rattle.far_evac.specs.declared.phase.Phase.{Phase}

-- the core's state; what the book keeps beside it; and the round
pub record Moment : Type 0 where
  pub core : State
  -- the sealed logs in the order in which they were sealed, oldest first
  pub order : List ℕ
  pub phase : Phase
  -- the chosen logs that weren't given back in this round, in the order in which they were chosen
  pub collection : List ℕ
  -- whether copies may be offered to copiers
  pub copying : Bool

-- a span was placed there, and this is the core then
abbrev pub with_placed : Moment → Place → State → Moment
with_placed m place s = record m { core = s; order = order_after m.core m.order place }

-- a caller's step has led to this core; where it opened another log, the one that was open is the youngest of the sealed ones
abbrev pub with_core : Moment → State → Moment
with_core m t = record m { core = t; order = if t.current == m.core.current then m.order else m.order ++ m.core.current ∷ [] }

-- a log is given back
abbrev pub with_released : Moment → ℕ → Moment
with_released m l = record m { core = released m.core l; order = order_without l m.order }

-- how many objects were moved to another log, sent far, and retired since their owners had dropped them; how many logs were given back
pub record Tally : Type 0 where
  pub moved : ℕ
  pub far : ℕ
  pub dropped : ℕ
  pub freed : ℕ

abbrev pub nothing : Tally
nothing = record { moved = 0; far = 0; dropped = 0; freed = 0 }

abbrev pub plus : Tally → Tally → Tally
plus a b = record { moved = a.moved + b.moved; far = a.far + b.far; dropped = a.dropped + b.dropped; freed = a.freed + b.freed }

-- how many objects that are
abbrev pub objects_in : Tally → ℕ
objects_in t = t.moved + t.far + t.dropped

-- a tally as it is answered
abbrev pub progress_of : Tally → Bool → Progress
progress_of tally done = record { moved = tally.moved; far = tally.far; dropped = tally.dropped; freed = tally.freed; done = done }

-- and what an answer has counted
abbrev pub tally_of : Progress → Tally
tally_of progress = record { moved = progress.moved; far = progress.far; dropped = progress.dropped; freed = progress.freed }
