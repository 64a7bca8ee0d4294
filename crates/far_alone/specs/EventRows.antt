-- Events made from a state, one after the other.
use Rattle.std.specs.Prelude.{◌≡◌, ℕ, true, false, List, [], ◌∷◌, Some}
use Rattle.far_word.specs.declared.mark.Marks.{Marks}
use Rattle.far_word.specs.declared.pointer.Place.{Place}
use Rattle.far_word.specs.declared.pointer.PtrWord.TheVariants.{Near}
use Rattle.far_word.specs.Pointer.{read_of}
use Rattle.far_events.specs.declared.event.Event.{Event}
use Rattle.far_events.specs.declared.event.Event.TheVariants.{Pin, Name}
use Rattle.far_events.specs.declared.event.Reply.{Reply}
use Rattle.far_events.specs.declared.event.Reply.TheVariants.{Refused, Word}
use Rattle.far_events.specs.state.State.{State}
use Rattle.far_events.specs.events.Step.{step_of, is_legal}
use Rattle.far_core.specs.world.Runs.{Passes}

-- the event isn't refused
abbrev pub Succeeds : Event → Reply → Type 0
Succeeds e Refused = ⊥
Succeeds e r = Unit {0}

abbrev pub AllSucceed : State → List Event → Type 0
AllSucceed s [] = Unit {0}
AllSucceed s (e ∷ es) = Succeeds e (step_of s e).1 × AllSucceed (step_of s e).0 es

-- what an event is for comes to pass: a pin gives a view, and a naming wins
abbrev pub ComesToPass : Event → Reply → Type 0
ComesToPass (Pin m p) (Word w) = ⊥
ComesToPass (Name p old new) (Word w) = ⊥
ComesToPass e r = Unit {0}

abbrev pub AllComeToPass : State → List Event → Type 0
AllComeToPass s [] = Unit {0}
AllComeToPass s (e ∷ es) = ComesToPass e (step_of s e).1 × AllComeToPass (step_of s e).0 es

-- each event of a row is legal, and after it the state has the law, and agrees with what its owners view
abbrev pub AllPass : State → List Event → Type 0
AllPass s [] = Unit {0}
AllPass s (e ∷ es) = (is_legal s e ≡ true) × Passes s e (step_of s e).1 (step_of s e).0 × AllPass (step_of s e).0 es

-- a near pointer whose object may be dereferenced at once: it has none of EVAC, MOVE and DROP
pub record AtHand (s : State) (p : ℕ) : Type 0 where
  pub len : ℕ
  pub ds : ℕ
  pub place : Place
  pub marks : Marks
  pub near : read_of (s.cell p) ≡ Some (Near len ds place marks)
  pub unchosen : marks.evac ≡ false
  pub unmoved : marks.moved ≡ false
  pub kept : marks.dropped ≡ false
  pub used : s.used p ≡ true
