-- Which states the words may be in beside a hand: what its view says of them, what a call tells, and what it means there that owners were seen clear.
use Rattle.std.specs.Prelude.{◌≡◌, ◌/◌, ◌<◌, ◌^◌, ◌||◌, ℕ, Bool, true, false, cond, Some, refl}
use Rattle.std.proofs.Common.{subst, sym}
use Rattle.std.proofs.Math.Nat.{le-add_left, le_refl, lt_irrefl, lt_of_le_of_lt}
use Rattle.std.proofs.lemmas.Bool.{false≢true}
use Rattle.far_word.specs.declared.pointer.Place.{Place}
use Rattle.far_word.specs.declared.sizes.TheConstants.{CELLS}
use Rattle.far_word.specs.Job.{job_of}
use Rattle.far_events.specs.declared.event.Event.{Event}
use Rattle.far_events.specs.declared.event.Reply.{Reply}
use Rattle.far_events.specs.events.Step.{step_of}
use Rattle.far_events.specs.state.Law.{Law}
use Rattle.far_events.specs.state.State.{State}
use Rattle.far_hand.specs.Beside.{IsBeside}
use Rattle.far_hand.specs.Finds.{Finds}
use Rattle.far_hand.specs.FindsJob.{FindsJob, rank}
use Rattle.far_hand.specs.Known.{IsKnown, unknown}
use Rattle.far_hand.specs.Masked.{AllFind, AllFindJobs, masked}
use Rattle.far_hand.specs.Others.{OthersChange}

-- the view o is right about the state s. Of each cell it has all but marks that owners have added since, and of each job all but how far copiers have gone on
-- with it; the words that it knows stand there, and it knows the headers of spans. All else is exact, but for what others alone have
pub record Shows (o s : State) : Type 0 where
  pub cells : (p : ℕ) → Finds (o.cell p) (s.cell p)
  pub words : (a : ℕ) → IsKnown (o.word a) → s.word a ≡ o.word a
  pub headers : (a : ℕ) → s.starts a ≡ true → s.word a ≡ o.word a
  pub jobs : (j : ℕ) → FindsJob (o.copying.word j) (s.copying.word j)
  pub rest : IsBeside o s

-- no owner holds a place in these logs
abbrev pub NoneViews : (ℕ → Bool) → State → Type 0
NoneViews logs s = (p : ℕ) (place : Place) → s.held p ≡ Some place → logs place.log ≡ false

-- this owner holds none there
abbrev pub ViewsNone : (ℕ → Bool) → ℕ → State → Type 0
ViewsNone logs m s = (p : ℕ) (place : Place) → p / CELLS ≡ m → s.held p ≡ Some place → logs place.log ≡ false

-- the event with this answer leads from s to t: where it is legal, it is made; else it is refused, and nothing changes
abbrev pub Made : State → Event → Reply → State → Type 0
Made s e r t = (t, r) ≡ step_of s e

-- the event with this answer led from a state of the first kind to one of the second
pub record Tells (before behind : State → Type 0) (e : Event) (r : Reply) : Type 0 where
  pub was : State
  pub now : State
  pub might : before was
  pub may : behind now
  pub call : Made was e r now

-- beside a core on which owners and copiers act, and of which the view o is known: its state, as they may have changed it meanwhile
pub record MayBeBeside (o s x : State) : Type 0 where
  pub law : Law x
  pub change : OthersChange s x
  pub shown : Shows o x

-- ---- a view is right about the state that it was made of
known_here : (b : Bool) (w a : ℕ) → cond b w (unknown a) < 2 ^ 64 → w ≡ cond b w (unknown a)
known_here true w a h = refl
known_here false w a h = absurd (lt_irrefl (2 ^ 64) (lt_of_le_of_lt (le-add_left (2 ^ 64) a) h))

header_here : (b c : Bool) (w u : ℕ) → b ≡ true → w ≡ cond (b || c) w u
header_here true c w u h = refl
header_here false c w u h = absurd (false≢true h)

pub masked_shows : (s : State) (found : ℕ → ℕ) (counted : ℕ → Bool) (jobs : ℕ → ℕ) → AllFind found s.cell → AllFindJobs jobs s.copying.word → Shows (masked s found counted jobs) s
masked_shows s found counted jobs finds going = record {
  cells = finds;
  words = λ a known. known_here (s.starts a || counted a) (s.word a) a known;
  headers = λ a st. header_here (s.starts a) (counted a) (s.word a) (unknown a) st;
  jobs = going;
  rest = refl;
}

finds_itself : (w : ℕ) → Finds w w
finds_itself w = record { body = refl; hot = λ h. h; moved = λ h. h; dropped = λ h. h; dirty = λ h. h }

pub job_itself : (w : ℕ) → FindsJob w w
job_itself w = record { body = refl; rises = le_refl (rank (job_of w)); taker = λ c h. h; ended = λ _. refl }

-- others may have changed nothing
pub beside_itself : (s : State) (found : ℕ → ℕ) (counted : ℕ → Bool) (jobs : ℕ → ℕ) → Law s → AllFind found s.cell → AllFindJobs jobs s.copying.word → MayBeBeside (masked s found counted jobs) s s
beside_itself s found counted jobs law finds going = record {
  law = law;
  change = record { cells = λ p. finds_itself (s.cell p); clean = λ _ _. refl; words = λ _ _. refl; jobs = λ j. job_itself (s.copying.word j); rest = refl };
  shown = masked_shows s found counted jobs finds going;
}

-- ---- beside a hand whose view is the state there is no other
shows_itself : (s : State) → Shows s s
shows_itself s = record { cells = λ p. finds_itself (s.cell p); words = λ _ _. refl; headers = λ _ _. refl; jobs = λ j. job_itself (s.copying.word j); rest = refl }

pub alone_lawful : (s x : State) → Law s → x ≡ s → Law x
alone_lawful s x law is = subst Law (sym is) law

pub alone_shown : (s x : State) → x ≡ s → Shows s x
alone_shown s x is = subst (λ (y : State). Shows s y) (sym is) (shows_itself s)

pub alone_there : (s : State) → ∥ ((x : State) × (x ≡ s)) ∥₁
alone_there s = ∣ (s, refl) ∣₁

pub alone_told : (s t : State) (e : Event) (r : Reply) → Made s e r t → ∥ Tells (λ x. x ≡ s) (λ x. x ≡ t) e r ∥₁
alone_told s t e r call = ∣ record { was = s; now = t; might = refl; may = refl; call = call } ∣₁
