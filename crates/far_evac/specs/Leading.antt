-- Each call of a round leads from a heap to the next by legal events of the core, and keeps what is true between two calls.
use Rattle.std.specs.Prelude.{◌≡◌, ℕ, true, false, List, eqb, map}
use Rattle.std.specs.List.{IsDistinct}
use Rattle.far_events.specs.state.Law.{Law}
use Rattle.far_policy.specs.Choice.{IsChoice}
use Rattle.far_book.specs.book.Reached.{Reached}
use Rattle.far_book.specs.book.Rows.{row_of}
use Rattle.far_evac.specs.declared.answers.RoundEnd.{RoundEnd}
use Rattle.far_evac.specs.declared.phase.Phase.TheVariants.{Marking, Waiting, Evacuating}
use Rattle.far_evac.specs.Choosing.{after_aborting, after_selecting, is_spent}
use Rattle.far_evac.specs.Marking.{after_marking}
use Rattle.far_evac.specs.Moment.{Moment}
use Rattle.far_evac.specs.MomentLaw.{MomentLaw, is_idle}
use Rattle.far_evac.specs.RoundSteps.{among}
use Rattle.far_evac.specs.Turns.{IsRound, turns_made}
use Rattle.far_evac.specs.Waiting.{after_polling}
use Rattle.far_evac.specs.Walk.{Walked, ended, is_done, walked}

pub record Leads (m t : Moment) : Type 0 where
  pub reached : Reached m.core t.core
  pub law : Law t.core
  pub moment : MomentLaw t
  -- whether copies may be offered stays
  pub copying : t.copying ≡ m.copying

-- a choice of sealed logs, each once, while a later epoch is left
abbrev pub SelectingLeads : Type 0
SelectingLeads = (m : Moment) (logs : List ℕ) → Law m.core → MomentLaw m → is_idle m.phase ≡ true → is_spent m.core ≡ false → IsDistinct eqb logs → ((l : ℕ) → among logs l ≡ true → among m.order l ≡ true) →
    Leads m (after_selecting m logs)

-- what a policy chose of the rows that it was handed is such a choice
abbrev pub ChoiceIsOfSealed : Type 0
ChoiceIsOfSealed = (m : Moment) (most : ℕ) (logs : List ℕ) → Law m.core → MomentLaw m → IsChoice (map (row_of m.core) m.order) most logs → IsDistinct eqb logs × ((l : ℕ) → among logs l ≡ true → among m.order l ≡ true)

abbrev pub PollingLeads : Type 0
PollingLeads = (m : Moment) → Law m.core → MomentLaw m → m.phase ≡ Waiting → Leads m (after_polling m)

abbrev pub AbortingLeads : Type 0
AbortingLeads = (m : Moment) → Law m.core → MomentLaw m → Leads m (after_aborting m)

abbrev pub MarkingLeads : Type 0
MarkingLeads = (m : Moment) (n : ℕ) → Law m.core → MomentLaw m → m.phase ≡ Marking → Leads m (after_marking m n)

-- where a walk stands before an object that it is refused at, while the collection set has a log; and what it answers, by which the round is over where none is
pub record WalkLeads (m : Moment) (w : Walked) : Type 0 where
  pub midst : is_done w ≡ false → Leads m w.moment
  pub answer : Leads m (ended w)

abbrev pub WalkingLeads : Type 0
WalkingLeads = (m : Moment) (n : ℕ) → Law m.core → MomentLaw m → m.copying ≡ false → m.phase ≡ Evacuating → WalkLeads m (walked m n)

-- so many turns of a running round, and a whole round of sealed logs, each once
abbrev pub TurnsLead : Type 0
TurnsLead = (m : Moment) (n : ℕ) → Law m.core → MomentLaw m → m.copying ≡ false → is_idle m.phase ≡ false → Leads m (turns_made m n).moment

abbrev pub RoundLeads : Type 0
RoundLeads = (m : Moment) (logs : List ℕ) (turns : ℕ) (end : RoundEnd) (t : Moment) → Law m.core → MomentLaw m → m.copying ≡ false → is_idle m.phase ≡ true → is_spent m.core ≡ false → IsDistinct eqb logs →
    ((l : ℕ) → among logs l ≡ true → among m.order l ≡ true) → IsRound m logs turns end t → Leads m t
