-- What `audit` counts, in the subject's words: the entries of a list that has the home of each object once, by rising pointers, and of a list that has each log once.
use Rattle.std.specs.Prelude.{◌≡◌, List}
use Rattle.far_evac.specs.declared.census.Housed.{Housed}
use Rattle.far_evac.specs.declared.census.LogState.{LogState}
use Rattle.far_evac.specs.Listing.{ListsEach}
use Rattle.far_text.specs.Command.{Audit, Book, Command}
use Rattle.far_replay.specs.Answers.{Commanded, IsMoment}
use Rattle.far_replay_laws.specs.Census.{counted_in}
use Rattle.far_replay.specs.Moment.{Moment}
use Rattle.far_reply.specs.Reply.{Audited, Reply}
use Rattle.far_replay_laws.specs.Along.{AllAlong}

abbrev pub CountsList : Moment → Reply → Type 0
CountsList now r = (homes : List Housed) × (logs : List LogState) × ListsEach now homes logs × (r ≡ Audited (counted_in homes logs))

abbrev pub AuditCountsList : Type 0
AuditCountsList = (now : Moment) (r : Reply) (after : Moment) → IsMoment now → Commanded now (Book Audit) r after → CountsList now r

-- each `audit` of a list of commands does so
abbrev pub Counted : Moment → Command → Reply → Type 0
Counted now (Book Audit) r = CountsList now r
Counted now c r = Unit {0}

abbrev pub AllCounted : Moment → List Command → List Reply → List Moment → Type 0
AllCounted = AllAlong (λ now c r after. Counted now c r)
