-- What each call of the evacuator leaves over any hand. The core of a moment is what the book knows then: where each object lies, EVAC, spans and
-- logs exactly; of HOT, MOVE, DROP and DIRTY those that were found; of scopes who was seen clear; of data words what was read.
use Rattle.std.specs.Prelude.{◌≡◌, ℕ, ◌<◌, ◌≤◌, zero, suc, Bool, true, false, Option, Some, List, [], ◌∷◌, length}
use Rattle.far_word.specs.declared.mark.Marks.{Marks}
use Rattle.far_word.specs.declared.pointer.PtrWord.TheVariants.{Far}
use Rattle.far_word.specs.Pointer.{read_of}
use Rattle.far_word.specs.Sizes.{words_for}
use Rattle.far_events.specs.state.Spans.{spans_of}
use Rattle.far_events.specs.state.State.{State}
use Rattle.far_hand.specs.Finds.{Finds}
use Rattle.far_hand.specs.Known.{IsKnown}
use Rattle.far_evac.specs.declared.answers.Polled.{Polled}
use Rattle.far_evac.specs.declared.answers.Polled.TheVariants.{Clear, StillOpen}
use Rattle.far_evac.specs.declared.census.Housed.{Housed}
use Rattle.far_evac.specs.declared.census.LogState.{LogState}
use Rattle.far_evac.specs.declared.phase.Phase.TheVariants.{Evacuating}
use Rattle.far_evac.specs.Census.{homes_of, logs_of}
use Rattle.far_evac.specs.Choosing.{after_aborting}
use Rattle.far_evac.specs.Marking.{newly_marked, after_marking, waiting_for}
use Rattle.far_evac.specs.Moment.{Moment, Tally}
use Rattle.far_evac.specs.RoundSteps.{with_clear_below}
use Rattle.far_evac.specs.Walk.{Walked, begun, dealt_as, settled, left, is_done, ended}

-- ---- what was found meanwhile
-- t is s but for marks that were found in cells, for words that are no header of a span, and for stored words that weren't known
pub record Knows (s t : State) : Type 0 where
  pub found : (p : ℕ) → Finds (s.cell p) (t.cell p)
  pub spans : (l : ℕ) → spans_of t l ≡ spans_of s l
  pub stored : (p len ds i : ℕ) (marks : Marks) → read_of (s.cell p) ≡ Some (Far len ds marks) → i < words_for len → IsKnown (s.stored p i) → t.stored p i ≡ s.stored p i
  pub rest : t ≡ record s { cell = t.cell; word = t.word; stored = t.stored }

pub record KnowsMoment (m t : Moment) : Type 0 where
  pub core : Knows m.core t.core
  pub rest : t ≡ record m { core = t.core }

pub record KnowsWalked (w t : Walked) : Type 0 where
  pub moment : KnowsMoment w.moment t.moment
  pub tally : t.tally ≡ w.tally

-- ---- an audit: marks may be found on its way, and nothing else changes; it lists what the cells say at its end
pub record Audits (m t : Moment) (homes : List Housed) (logs : List LogState) : Type 0 where
  pub leaves : KnowsMoment m t
  pub lives : homes ≡ homes_of t.core
  pub has : logs ≡ logs_of t

-- ---- marking, and giving up: as where nobody else changes a word
pub record MarksSome (m t : Moment) (n count : ℕ) (waiting : Option ℕ) : Type 0 where
  pub leaves : KnowsMoment (after_marking m n) t
  pub counted : count ≡ length (newly_marked m n)
  pub epoch : waiting ≡ waiting_for m n

abbrev pub GivesUp : Moment → Moment → Type 0
GivesUp m t = KnowsMoment (after_aborting m) t

-- ---- waiting
-- the owners below k are seen clear; k wasn't, and is open at an epoch older than the round
pub record IsHeldUp (m t : Moment) (k epoch : ℕ) : Type 0 where
  pub leaves : KnowsMoment (record m { core = with_clear_below m.core k }) t
  pub owner : k < m.core.mutators
  pub unseen : m.core.clear k ≡ false
  pub older : epoch < m.core.round_epoch

abbrev pub Polls : Moment → Moment → Polled → Type 0
Polls m t Clear = KnowsMoment (record m { core = with_clear_below m.core m.core.mutators; phase = Evacuating }) t
Polls m t (StillOpen k epoch) = IsHeldUp m t k epoch

-- ---- evacuating: one object after the other, each as a word says that was found in its cell
abbrev pub found_first : Walked → ℕ → List ℕ → Walked
found_first w word [] = w
found_first w word (p ∷ ps) = settled (dealt_as w p (read_of word))

-- a walk is exact where no word changes but by it: then the word in a cell is the one that is known, and no marks are found
abbrev pub FindsBy : Bool → ℕ → ℕ → Type 0
FindsBy true known word = word ≡ known
FindsBy false known word = Finds known word

abbrev pub LearnsBy : Bool → Walked → Walked → Type 0
LearnsBy true w t = t ≡ w
LearnsBy false w t = KnowsWalked w t

-- there is an object, and the word may be found in its cell
abbrev pub FindsFirst : Bool → Walked → ℕ → List ℕ → Type 0
FindsFirst exact w word [] = ⊥
FindsFirst exact w word (p ∷ ps) = FindsBy exact (w.moment.core.cell p) word

pub record DealsFirst (exact : Bool) (w : Walked) (word : ℕ) (t : Walked) : Type 0 where
  pub finds : FindsFirst exact w word (left w)
  pub leaves : LearnsBy exact (found_first w word (left w)) t

-- so many objects are dealt with; and what each of them asked of a device
module _ (exact : Bool) (D : Type 0) (Asks : Walked → ℕ → D → D → Type 0) where
  abbrev pub WalksBy : Moment → ℕ → Walked → D → D → Type 0
  WalksBy m zero t old new = LearnsBy exact (settled (begun m)) t × (new ≡ old)
  WalksBy m (suc k) t old new = (u : Walked) × (word : ℕ) × (between : D) × WalksBy m k u old between × DealsFirst exact u word t × Asks u word between new

-- the same, of no device
abbrev pub WalksSo : Bool → Moment → ℕ → Walked → Type 0
WalksSo exact m k t = WalksBy exact (Unit {0}) (λ u word old new. Unit {0}) m k t tt tt

abbrev pub WalksTo : Moment → ℕ → Walked → Type 0
WalksTo m k t = WalksSo false m k t

-- k objects are dealt with: n, or all
pub record Walks (m : Moment) (n k : ℕ) (t : Walked) : Type 0 where
  pub walks : WalksTo m k t
  pub most : k ≤ n
  pub enough : is_done t ≡ false → k ≡ n

-- t is where a walk over n objects, or all, ends, and the tally is its own; done says whether each log was given back
abbrev pub Evacuates : Moment → ℕ → Moment → Tally → Bool → Type 0
Evacuates m n t tally done = (k : ℕ) × (w : Walked) × Walks m n k w × (t ≡ ended w) × (tally ≡ w.tally) × (done ≡ is_done w)

-- fewer than n were dealt with, and the walk stopped at the next one, of which alone more may be known than before
abbrev pub StopsAt : Moment → ℕ → Moment → Tally → Type 0
StopsAt m n t tally = (k : ℕ) × (w : Walked) × WalksTo m k w × (k < n) × (is_done w ≡ false) × KnowsMoment w.moment t × (tally ≡ w.tally)
