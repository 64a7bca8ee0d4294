-- Whole runs: of states, and of worlds.
use Rattle.std.specs.Prelude.{◌≡◌, List, [], ◌∷◌}
use Rattle.far_events.specs.declared.event.Event.{Event}
use Rattle.far_events.specs.declared.event.Reply.{Reply}
use Rattle.far_core.specs.state.Agrees.{Agrees}
use Rattle.far_core.specs.world.Happens.{Happens}
use Rattle.far_events.specs.state.Law.{Law}
use Rattle.far_events.specs.state.State.{State}
use Rattle.far_events.specs.events.Step.{step_of}
use Rattle.far_core.specs.world.World.{World}

-- one step from s to t: the definition's state and answer; t has the law, and its views rest on what it says
pub record Passes (s : State) (e : Event) (r : Reply) (t : State) : Type 0 where
  pub step : (t, r) ≡ step_of s e
  pub law : Law t
  pub agrees : Agrees t

-- the states after each event, from s on, the last of them t
abbrev pub Leads : State → List Event → List Reply → List State → State → Type 0
Leads s [] [] [] t = t ≡ s
Leads s (e ∷ es) (r ∷ rs) (u ∷ us) t = Passes s e r u × Leads u es rs us t
Leads s _ _ _ t = ⊥

-- from w on, each event makes its step with its reply, to the next of these worlds
abbrev pub Runs : World → List Event → List Reply → List World → Type 0
Runs w [] [] [] = Unit {0}
Runs w (e ∷ es) (r ∷ rs) (v ∷ vs) = Happens w e r v × Runs v es rs vs
Runs w _ _ _ = ⊥
