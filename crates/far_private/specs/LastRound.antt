-- The last round of a call: what its steps leave of logs and marks.
use Rattle.std.specs.Prelude.{◌≡◌, ◌≢◌, ℕ, ◌&&◌, not, Bool, true, false, Option, Some, None, List}
use Rattle.far_word.specs.declared.mark.Marks.{Marks}
use Rattle.far_word.specs.declared.pointer.Place.{Place}
use Rattle.far_word.specs.declared.pointer.PtrWord.{PtrWord}
use Rattle.far_word.specs.declared.pointer.PtrWord.TheVariants.{Free, Near, Far}
use Rattle.far_word.specs.Pointer.{read_of}
use Rattle.far_events.specs.declared.event.Kind.TheVariants as kinds
use Rattle.far_events.specs.state.State.{State}
use Rattle.far_evac.specs.RoundSteps.{among}

-- the logs are as many, and each of the kind that it was of
pub record SameLogs (s t : State) : Type 0 where
  pub logs : t.logs ≡ s.logs
  pub kinds : (l : ℕ) → t.kind l ≡ s.kind l

-- what lies in these logs has no EVAC
abbrev pub IsBare : State → List ℕ → Type 0
IsBare s logs = (p len ds : ℕ) (place : Place) (marks : Marks) → read_of (s.cell p) ≡ Some (Near len ds place marks) → among logs place.log ≡ true → marks.evac ≡ false

-- nor HOT
abbrev pub IsCold : State → List ℕ → Type 0
IsCold s logs = (p len ds : ℕ) (place : Place) (marks : Marks) → read_of (s.cell p) ≡ Some (Near len ds place marks) → among logs place.log ≡ true → marks.hot ≡ false

-- near, with HOT and without EVAC
abbrev pub may_cool : Option PtrWord → Bool
may_cool None = false
may_cool (Some Free) = false
may_cool (Some (Near len ds place marks)) = marks.hot && not marks.evac
may_cool (Some (Far len ds marks)) = false

-- from s to t one object has lost HOT, if it had it without EVAC, and lies where it lay
pub record IsCooled (s : State) (p : ℕ) (t : State) : Type 0 where
  pub logs : SameLogs s t
  pub others : (q : ℕ) → q ≢ p → t.cell q ≡ s.cell q
  pub cold : s.used p ≡ true → may_cool (read_of (t.cell p)) ≡ false
  pub stays : (len ds : ℕ) (place : Place) (marks : Marks) → read_of (t.cell p) ≡ Some (Near len ds place marks) → (old : Marks) × (read_of (s.cell p) ≡ Some (Near len ds place old)) × (marks.evac ≡ true → old.evac ≡ true)

-- from s to t these logs were given back, and no other has become of another kind
pub record AreEmptied (s : State) (logs : List ℕ) (t : State) : Type 0 where
  pub many : t.logs ≡ s.logs
  pub free : (l : ℕ) → among logs l ≡ true → t.kind l ≡ kinds.Free
  pub others : (l : ℕ) → among logs l ≡ false → t.kind l ≡ s.kind l
