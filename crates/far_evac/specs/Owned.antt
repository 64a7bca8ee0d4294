-- What a round leaves of what owners have: each object, wherever it is then.
use Rattle.std.specs.Prelude.{◌≡◌, ◌↔◌, ℕ, true, false, eqb, Option, Some, None, List}
use Rattle.std.specs.List.{IsDistinct}
use Rattle.far_word.specs.Pointer.{read_of}
use Rattle.far_events.specs.events.Naming.{is_dropped}
use Rattle.far_events.specs.state.Law.{Law}
use Rattle.far_events.specs.state.State.{State}
use Rattle.far_core.specs.world.Steps.{with_home}
use Rattle.far_core.specs.world.World.{FarSide, Object}
use Rattle.far_core.specs.world.WorldOf.{world_of}
use Rattle.far_evac.specs.declared.answers.RoundEnd.{RoundEnd}
use Rattle.far_evac.specs.declared.phase.Phase.TheVariants.{Marking, Evacuating}
use Rattle.far_evac.specs.Choosing.{after_aborting, after_selecting, is_spent}
use Rattle.far_evac.specs.Marking.{after_marking}
use Rattle.far_evac.specs.Moment.{Moment}
use Rattle.far_evac.specs.MomentLaw.{MomentLaw, is_idle}
use Rattle.far_evac.specs.RoundSteps.{among}
use Rattle.far_evac.specs.Turns.{IsRound, turns_made}
use Rattle.far_evac.specs.Waiting.{after_polling}
use Rattle.far_evac.specs.Walk.{Walked, ended, walked}

-- an object as its owner knows it: its bytes and its data structure, but not where it is
abbrev pub anywhere : Option Object → Option Object
anywhere None = None
anywhere (Some o) = Some (with_home o FarSide)

-- from s to t owners' scopes stay, and what they remember, use and hold, and each object is what it was, though it may be elsewhere. A pointer that isn't dropped isn't
-- dropped then, and its cell is free exactly where it was
pub record KeepsObjects (s t : State) : Type 0 where
  pub mutators : t.mutators ≡ s.mutators
  pub logs : t.logs ≡ s.logs
  pub honest : t.honest ≡ s.honest
  pub scope : t.scope ≡ s.scope
  pub remembered : t.remembered ≡ s.remembered
  pub used : t.used ≡ s.used
  pub held : t.held ≡ s.held
  pub object : (p : ℕ) → anywhere ((world_of t).object p) ≡ anywhere ((world_of s).object p)
  pub alive : (p : ℕ) → is_dropped (read_of (s.cell p)) ≡ false → is_dropped (read_of (t.cell p)) ≡ false
  pub free : (p : ℕ) → is_dropped (read_of (s.cell p)) ≡ false → (t.cell p ≡ 0) ↔ (s.cell p ≡ 0)

abbrev pub SelectingKeepsObjects : Type 0
SelectingKeepsObjects = (m : Moment) (logs : List ℕ) → KeepsObjects m.core (after_selecting m logs).core

abbrev pub MarkingKeepsObjects : Type 0
MarkingKeepsObjects = (m : Moment) (n : ℕ) → Law m.core → MomentLaw m → m.phase ≡ Marking → KeepsObjects m.core (after_marking m n).core

abbrev pub PollingKeepsObjects : Type 0
PollingKeepsObjects = (m : Moment) → KeepsObjects m.core (after_polling m).core

-- a walk, in its midst and at its end
pub record WalkKeepsObjects (m : Moment) (w : Walked) : Type 0 where
  pub midst : KeepsObjects m.core w.moment.core
  pub answer : KeepsObjects m.core (ended w).core

abbrev pub WalkingKeepsObjects : Type 0
WalkingKeepsObjects = (m : Moment) (n : ℕ) → Law m.core → MomentLaw m → m.copying ≡ false → m.phase ≡ Evacuating → WalkKeepsObjects m (walked m n)

abbrev pub AbortingKeepsObjects : Type 0
AbortingKeepsObjects = (m : Moment) → Law m.core → MomentLaw m → KeepsObjects m.core (after_aborting m).core

abbrev pub TurnsKeepObjects : Type 0
TurnsKeepObjects = (m : Moment) (n : ℕ) → Law m.core → MomentLaw m → m.copying ≡ false → is_idle m.phase ≡ false → KeepsObjects m.core (turns_made m n).moment.core

-- a whole round of sealed logs, each once
abbrev pub RoundKeepsObjects : Type 0
RoundKeepsObjects = (m : Moment) (logs : List ℕ) (turns : ℕ) (end : RoundEnd) (t : Moment) → Law m.core → MomentLaw m → m.copying ≡ false → is_idle m.phase ≡ true → is_spent m.core ≡ false → IsDistinct eqb logs →
    ((l : ℕ) → among logs l ≡ true → among m.order l ≡ true) → IsRound m logs turns end t → KeepsObjects m.core t.core

-- no owner has dropped an object that isn't retired yet
abbrev pub NoneDropped : State → Type 0
NoneDropped s = (p : ℕ) → is_dropped (read_of (s.cell p)) ≡ false

-- then a walk retires none, nor do turns
abbrev pub WalkRetiresNone : Type 0
WalkRetiresNone = (m : Moment) (n : ℕ) → Law m.core → MomentLaw m → m.copying ≡ false → m.phase ≡ Evacuating → NoneDropped m.core → (walked m n).tally.dropped ≡ 0

abbrev pub TurnsRetireNone : Type 0
TurnsRetireNone = (m : Moment) (n : ℕ) → Law m.core → MomentLaw m → m.copying ≡ false → is_idle m.phase ≡ false → NoneDropped m.core → (turns_made m n).tally.dropped ≡ 0
