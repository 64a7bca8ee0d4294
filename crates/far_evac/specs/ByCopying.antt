-- What calls of the evacuator leave and ask over any hand, by whether copies may be offered.
use Rattle.std.specs.Prelude.{◌≡◌, ℕ, Bool, true, false, cond, Option, List, Result}
use Rattle.far_word.specs.declared.refused.Refused.{Refused}
use Rattle.far_word.specs.declared.sizes.TheConstants.{JOBS}
use Rattle.far_events.specs.state.State.{State}
use Rattle.far_device.specs.declared.fault.DeviceFault.{DeviceFault}
use Rattle.far_book.specs.book.Collecting.{TakesBack}
use Rattle.far_evac.specs.AnyHand.{Evacuates, GivesUp, StopsAt}
use Rattle.far_evac.specs.Asked.{AsksOnItsWay, IsRefusedWrite, first_live}
use Rattle.far_evac.specs.Beside.{AsksOnly, At, End, EvacuatesBeside, RefusedOnly, StopsBeside, WalksBeside}
use Rattle.far_evac.specs.Live.{live_among}
use Rattle.far_evac.specs.Moment.{Moment, Tally}
use Rattle.far_evac.specs.Walk.{Walked, ended}

-- one thing holds where no copy may be offered, and another where copies may be
pub record ByCopying (copying : Bool) (Alone Beside : Type 0) : Type 0 where
  pub alone : copying ≡ false → Alone
  pub beside : copying ≡ true → Beside

-- ---- what is left
-- n objects are dealt with, or all
abbrev pub EvacuatesBy : Moment → ℕ → Moment → Tally → Bool → Type 0
EvacuatesBy m n t tally done = ByCopying m.copying (Evacuates m n t tally done) (EvacuatesBeside m n t tally done)

-- one of them was refused
abbrev pub StopsBy : Moment → ℕ → Moment → Tally → Type 0
StopsBy m n t tally = ByCopying m.copying (StopsAt m n t tally) (StopsBeside m n t tally)

-- the jobs that are found offered are taken back first
abbrev pub GivesUpBeside : Moment → Moment → Type 0
GivesUpBeside m t = (u : State) × TakesBack m.core JOBS u × GivesUp (record m { core = u }) t

abbrev pub GivesUpBy : Moment → Moment → Type 0
GivesUpBy m t = ByCopying m.copying (GivesUp m t) (GivesUpBeside m t)

-- ---- what is asked of a device
-- the objects about which a device may have been asked: of those that lay in the collection set the first so many, where no copy may be offered
abbrev pub asked_live : Moment → ℕ → List ℕ
asked_live m k = cond m.copying (live_among m.core m.collection) (first_live m k)

module _ (D : Type 0) (writes : D → ℕ → List ℕ → Result (Unit {0}) DeviceFault → D → Type 0) (lets_go : D → ℕ → D → Type 0) (contents : D → ℕ → Option (List ℕ)) where
  -- a walk over n objects, or all, where copies may be offered: for each object that it dealt with so much was asked, and nothing else; it ended at t
  pub record EvacuatesAsking (m : Moment) (n : ℕ) (t : Moment) (tally : Tally) (old new : D) : Type 0 where
    pub stood : Walked
    pub end : End
    pub walks : WalksBeside D (AsksOnly D writes lets_go contents) (λ s p why before after. ⊥) m n stood end old new
    pub ends : t ≡ ended stood
    pub counts : tally ≡ stood.tally

  -- it was refused: then it asked for one write of the bytes of the next object, which was refused so, and t is where it stopped
  pub record StopsRefused (m : Moment) (n : ℕ) (t : Moment) (tally : Tally) (why : Refused) (old new : D) : Type 0 where
    pub stood : Walked
    pub next : ℕ
    pub walks : WalksBeside D (AsksOnly D writes lets_go contents) (RefusedOnly D writes lets_go contents) m n stood (At next why) old new
    pub stops : t ≡ stood.moment
    pub counts : tally ≡ stood.tally

module _ (still : Type 0) (D : Type 0) (writes : D → ℕ → List ℕ → Result (Unit {0}) DeviceFault → D → Type 0) (lets_go : D → ℕ → D → Type 0) (contents : D → ℕ → Option (List ℕ)) where
  abbrev pub AsksBy : Moment → ℕ → Moment → Tally → D → D → Type 0
  AsksBy m n t tally old new = ByCopying m.copying (AsksOnItsWay still D writes lets_go m t tally old new) (EvacuatesAsking D writes lets_go contents m n t tally old new)

  abbrev pub RefusesBy : Moment → ℕ → Moment → Tally → Refused → D → D → Type 0
  RefusesBy m n t tally why old new = ByCopying m.copying (IsRefusedWrite still D writes lets_go m t tally why old new) (StopsRefused D writes lets_go contents m n t tally why old new)
