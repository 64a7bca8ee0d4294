-- How owners and copiers act out the list of a beset hand, in other words than the hand's.
use Rattle.std.specs.Prelude.{◌≡◌, ◌⊎◌, ℕ, List, [], ◌∷◌, drop}
use Rattle.far_word.specs.declared.mark.Mark.{Mark}
use Rattle.far_events.specs.declared.event.Event.{Event}
use Rattle.far_events.specs.declared.event.Event.TheVariants.{ReadEpoch, Open, Pin, Load, Store, Soil, Close, Adopt, Ask, PeekJob, Claim, ReadLength, Read, Write, Finish}
use Rattle.far_events.specs.declared.event.Reply.{Reply}
use Rattle.far_events.specs.events.Legal.{Legal}
use Rattle.far_events.specs.events.Step.{after}
use Rattle.far_events.specs.state.State.{State}
use Rattle.far_hand.specs.declared.beset.Beset.{Beset}
use Rattle.far_hand.specs.MayBe.{Made}

-- an owner reads the epoch, opens or closes its scope, pins, loads, stores, soils, takes a new object over, or asks for something
abbrev pub IsOfOwner : Event → Type 0
IsOfOwner e = ((m : ℕ) × (e ≡ ReadEpoch m)) ⊎ ((m : ℕ) × (e ≡ Open m)) ⊎ ((m : ℕ) × (e ≡ Close m)) ⊎ ((m p : ℕ) × (e ≡ Pin m p)) ⊎ ((m p i : ℕ) × (e ≡ Load m p i))
    ⊎ ((m p i w : ℕ) × (e ≡ Store m p i w)) ⊎ ((m p : ℕ) × (e ≡ Adopt m p)) ⊎ ((m p : ℕ) × (k : Mark) × (e ≡ Ask m p k)) ⊎ ((m p : ℕ) × (e ≡ Soil m p))

-- a copier looks at a job, takes one, reads the length or a word of what it copies, writes a word, or has finished
abbrev pub IsOfCopier : Event → Type 0
IsOfCopier e = ((c j : ℕ) × (e ≡ PeekJob c j)) ⊎ ((c j old : ℕ) × (e ≡ Claim c j old)) ⊎ ((c : ℕ) × (e ≡ ReadLength c)) ⊎ ((c i : ℕ) × (e ≡ Read c i)) ⊎ ((c i : ℕ) × (e ≡ Write c i))
    ⊎ ((c : ℕ) × (e ≡ Finish c))

-- the turn of an event: an owner's or a copier's is made where it is legal; any other, and one that isn't legal, changes nothing
pub record TakesTurn (s : State) (e : Event) (t : State) : Type 0 where
  pub made : IsOfOwner e ⊎ IsOfCopier e → Legal s e → t ≡ after s e
  pub passed : ¬ ((IsOfOwner e ⊎ IsOfCopier e) × Legal s e) → t ≡ s

-- before each call the next event of the list has its turn, while there is one; nothing else happens between the calls
abbrev pub ActOut : List (Event × Reply) → List Event → State → State → Type 0
ActOut [] list s t = t ≡ s
ActOut (c ∷ calls) [] s t = (x : State) × Made s c.0 c.1 x × ActOut calls [] x t
ActOut (c ∷ calls) (e ∷ list) s t = (y : State) × TakesTurn s e y × ((x : State) × Made y c.0 c.1 x × ActOut calls list x t)

-- the events of the list that had no turn yet
abbrev pub events_left : Beset → List Event
events_left hand = drop hand.made hand.events.items
