-- What a command that is no step of the evacuator leaves beside its own object or scope: every other cell, with its marks, what owners use and view, their scopes, and the epochs that
-- they remember.
use Rattle.std.specs.Prelude.{◌≡◌, ◌≢◌, ℕ, ◌/◌, true, Some}
use Rattle.far_word.specs.declared.pointer.Place.{Place}
use Rattle.far_word.specs.declared.pointer.PtrWord.TheVariants.{Near}
use Rattle.far_word.specs.declared.sizes.TheConstants.{CELLS}
use Rattle.far_word.specs.Pointer.{read_of}
use Rattle.far_events.specs.events.Naming.{unmarked}
use Rattle.far_events.specs.state.State.{State}
use Rattle.far_text.specs.Command.{Command, New, Open, On, Close, Where, Drop, Try, Epoch, Mutator, Book, Evacuator}
use Rattle.far_replay.specs.Answers.{Commanded, IsMoment}
use Rattle.far_replay.specs.Moment.{Moment}
use Rattle.far_reply.specs.Reply.{Reply, Pointer, Refused}

-- all stays but what is of one pointer: its cell, whether it is used, and its view
pub record AllButObject (s t : State) (p : ℕ) : Type 0 where
  pub cells : (q : ℕ) → q ≢ p → t.cell q ≡ s.cell q
  pub used : (q : ℕ) → q ≢ p → t.used q ≡ s.used q
  pub views : (q : ℕ) → q ≢ p → t.held q ≡ s.held q
  pub scopes : (m : ℕ) → t.scope m ≡ s.scope m
  pub remembered : (m : ℕ) → t.remembered m ≡ s.remembered m

-- all stays but what is of one mutator's scope: its word, the epoch that the mutator remembers, and its views
pub record AllButScope (s t : State) (m : ℕ) : Type 0 where
  pub cells : (q : ℕ) → t.cell q ≡ s.cell q
  pub used : (q : ℕ) → t.used q ≡ s.used q
  pub views : (q : ℕ) → q / CELLS ≢ m → t.held q ≡ s.held q
  pub scopes : (k : ℕ) → k ≢ m → t.scope k ≡ s.scope k
  pub remembered : (k : ℕ) → k ≢ m → t.remembered k ≡ s.remembered k

-- a new object is one pointer's, and its cell has no mark but DIRTY; a line that was refused changes nothing
abbrev pub NewLeaves : Moment → ℕ → ℕ → Reply → Moment → Type 0
NewLeaves now len ds (Pointer p) after = AllButObject now.core after.core p × ((place : Place) × (read_of (after.core.cell p) ≡ Some (Near len ds place (unmarked true))))
NewLeaves now len ds (Refused why) after = after ≡ now
NewLeaves now len ds r after = ⊥

-- whatever the reply; `where` and inquiries change nothing at all
abbrev pub LeavesBeside : Moment → Command → Reply → Moment → Type 0
LeavesBeside now (Mutator m (New len ds)) r after = NewLeaves now len ds r after
LeavesBeside now (Mutator m Open) r after = AllButScope now.core after.core m
LeavesBeside now (Mutator m (On p how)) r after = AllButObject now.core after.core p
LeavesBeside now (Mutator m Close) r after = AllButScope now.core after.core m
LeavesBeside now (Mutator m (Where p)) r after = after ≡ now
LeavesBeside now (Mutator m (Drop p)) r after = AllButObject now.core after.core p
LeavesBeside now (Mutator m (Try p)) r after = AllButObject now.core after.core p
LeavesBeside now (Mutator m Epoch) r after = AllButScope now.core after.core m
LeavesBeside now (Book inquiry) r after = after ≡ now
LeavesBeside now (Evacuator step) r after = Unit {0}

abbrev pub CommandsLeaveBeside : Type 0
CommandsLeaveBeside = (now : Moment) (c : Command) (r : Reply) (after : Moment) → IsMoment now → Commanded now c r after → LeavesBeside now c r after
