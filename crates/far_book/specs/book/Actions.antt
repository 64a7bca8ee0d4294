-- What is done to a heap, action by action: an owner's event, or a call of the book, with its outcome. And which word a load gives then.
use Rattle.std.specs.Prelude.{◌≡◌, ℕ, ◌*◌, ◌<◌, ◌≤◌, ◌==◌, ◌&&◌, Bool, true, false, cond, Option, Some, None, List, [], ◌∷◌, ◌++◌, Result, Ok, Err}
use Rattle.far_word.specs.declared.pointer.Place.{Place}
use Rattle.far_word.specs.declared.refused.Refused.{Refused}
use Rattle.far_word.specs.declared.sizes.TheConstants.{CELLS, LONGEST}
use Rattle.far_word.specs.Pointer.{read_of}
use Rattle.far_word.specs.Sizes.{size_of, words_for}
use Rattle.far_events.specs.declared.event.Event.{Event}
use Rattle.far_events.specs.declared.event.Event.TheVariants.{ReadEpoch, Open, Pin, Load, Store, Soil, Close, Adopt, Ask, Put, Name, See, Mark, Get, Clear, Advance, Look, Offer, PeekJob, SeeJob, Claim, ReadLength, Read, Write, Finish, Collect}
use Rattle.far_events.specs.declared.event.Reply.{Reply}
use Rattle.far_events.specs.declared.event.Reply.TheVariants.{Done, Word}
use Rattle.far_events.specs.events.Copies.{Alike}
use Rattle.far_events.specs.events.Legal.{Legal}
use Rattle.far_events.specs.events.Naming.{is_dropped}
use Rattle.far_events.specs.events.Step.{Fits, after, answer}
use Rattle.far_events.specs.state.Law.{IsStored, Law}
use Rattle.far_core.specs.state.Room.{room}
use Rattle.far_events.specs.state.State.{State}
use Rattle.far_core.specs.world.Runs.{Passes}
use Rattle.far_hand.specs.Makers.{is_owners}
use Rattle.far_book.specs.book.Dealing.{goal, has_evac, moved_now}
use Rattle.far_hand.specs.Quiet.{IsQuietNear}
use Rattle.far_book.specs.book.Effects.{evicted, fetched, placed, retired}
use Rattle.far_book.specs.book.Fetching.{IsFar, far_len, room_for}
use Rattle.far_book.specs.book.Own.{IsAtStart}

-- an owner's event with its reply; the book's calls, by pointers, each with what it answered. `Steps` are those that are one event of a
-- round; `Looks` is any that changes nothing
pub data Action : Type 0 where
  Owns : Event → Reply → Action
  Places : ℕ → ℕ → ℕ → Result Place Refused → Action
  Retires : ℕ → Action
  Looks : Action
  Steps : Event → Action
  Moves : ℕ → Result (Option Place) Refused → Action
  Evicts : ℕ → Result Bool Refused → Action
  Fetches : ℕ → Result (Option Place) Refused → Action

-- ---- the words that were stored, by the list of actions alone
-- word i of pointer p, once an owner's event was answered: a store that was made puts its word
abbrev pub stored_by : (ℕ → ℕ → ℕ) → Event → Reply → ℕ → ℕ → ℕ
stored_by f (Store m p i w) Done = λ q k. cond (q == p && k == i) w (f q k)
stored_by f e r = f

-- a new object's words are 0
abbrev pub zeroed_by : (ℕ → ℕ → ℕ) → ℕ → Result Place Refused → ℕ → ℕ → ℕ
zeroed_by f p (Ok place) = λ q k. cond (q == p) 0 (f q k)
zeroed_by f p (Err why) = f

-- no other action puts a word
abbrev pub words_then : (ℕ → ℕ → ℕ) → Action → ℕ → ℕ → ℕ
words_then f (Owns e r) = stored_by f e r
words_then f (Places p len ds r) = zeroed_by f p r
words_then f (Retires p) = f
words_then f Looks = f
words_then f (Steps e) = f
words_then f (Moves p r) = f
words_then f (Evicts p r) = f
words_then f (Fetches p r) = f

abbrev pub words_after : (ℕ → ℕ → ℕ) → List Action → ℕ → ℕ → ℕ
words_after f [] = f
words_after f (d ∷ ds) = words_after (words_then f d) ds

-- word i of pointer p that was stored last since p was placed, and 0 where there is none
abbrev pub last_stored : List Action → ℕ → ℕ → ℕ
last_stored ds = words_after (λ _ _. 0) ds

-- ---- what the actions are, from a state to the next, where nobody else steps the core
-- a new object is placed where room is
pub record DoesPlace (s : State) (p len ds : ℕ) (place : Place) (t : State) : Type 0 where
  pub pointer : p < CELLS * s.mutators
  pub free : s.cell p ≡ 0
  pub some : 0 < len
  pub most : len ≤ LONGEST
  pub structure : ds < 256
  pub found : room s (size_of len) true ≡ Some place
  pub after : t ≡ placed s p len ds place

-- a dropped object is retired
pub record DoesRetire (s : State) (p : ℕ) (t : State) : Type 0 where
  pub pointer : p < CELLS * s.mutators
  pub dropped : is_dropped (read_of (s.cell p)) ≡ true
  pub after : t ≡ retired s p

-- the events that a round is made of, beside the moves of its objects
abbrev pub is_rounds : Event → Bool
is_rounds (ReadEpoch m) = false
is_rounds (Open m) = false
is_rounds (Pin m p) = false
is_rounds (Load m p i) = false
is_rounds (Store m p i w) = false
is_rounds (Soil m p) = false
is_rounds (Close m) = false
is_rounds (Adopt m p) = false
is_rounds (Ask m p k) = false
is_rounds (Put l at w) = false
is_rounds (Name p old new) = false
is_rounds (See p) = false
is_rounds (Offer j p to) = false
is_rounds (PeekJob c j) = false
is_rounds (SeeJob j) = false
is_rounds (Claim c j old) = false
is_rounds (ReadLength c) = false
is_rounds (Read c i) = false
is_rounds (Write c i) = false
is_rounds (Finish c) = false
is_rounds (Collect j old) = false
is_rounds (Mark p) = true
is_rounds (Clear p) = true
is_rounds (Get l at free) = true
is_rounds (Advance logs) = true
is_rounds (Look m) = true

-- EVAC is set or taken, the epoch rises, a scope is looked at, a log is given back
pub record DoesStep (s : State) (e : Event) (t : State) : Type 0 where
  pub rounds : is_rounds e ≡ true
  pub legal : Legal s e
  pub after : t ≡ after s e

-- a quiet near object moves, or stays
pub record DoesMove (s : State) (p : ℕ) (place : Place) (t : State) : Type 0 where
  pub quiet : IsQuietNear s p
  pub alive : is_dropped (read_of (s.cell p)) ≡ false
  pub found : goal s p ≡ Some place
  pub after : t ≡ moved_now s p place

-- one with EVAC goes far
pub record DoesEvict (s : State) (p : ℕ) (t : State) : Type 0 where
  pub pointer : p < CELLS * s.mutators
  pub quiet : IsQuietNear s p
  pub evac : has_evac (read_of (s.cell p)) ≡ true
  pub alive : is_dropped (read_of (s.cell p)) ≡ false
  pub after : t ≡ evicted s p

-- a far object comes near with words of its length: those that were stored, where the far side is honest
pub record DoesFetch (s : State) (p : ℕ) (place : Place) (t : State) : Type 0 where
  pub far : IsFar s p
  pub alive : is_dropped (read_of (s.cell p)) ≡ false
  pub found : room_for s p ≡ Some place
  pub row : ℕ → ℕ
  pub padded : IsStored row (far_len (read_of (s.cell p)))
  pub stored : s.honest ≡ true → Alike row (s.stored p) (words_for (far_len (read_of (s.cell p))))
  pub after : t ≡ fetched s p place row

-- a refused call, and one that only looks, change nothing
abbrev pub Does : State → Action → State → Type 0
Does s (Owns e r) t = (is_owners e ≡ true) × Passes s e r t
Does s (Places p len ds (Ok place)) t = DoesPlace s p len ds place t
Does s (Places p len ds (Err why)) t = t ≡ s
Does s (Retires p) t = DoesRetire s p t
Does s Looks t = t ≡ s
Does s (Steps e) t = DoesStep s e t
Does s (Moves p (Ok (Some place))) t = DoesMove s p place t
Does s (Moves p (Ok None)) t = DoesRetire s p t
Does s (Moves p (Err why)) t = t ≡ s
Does s (Evicts p (Ok true)) t = DoesEvict s p t
Does s (Evicts p (Ok false)) t = DoesRetire s p t
Does s (Evicts p (Err why)) t = t ≡ s
Does s (Fetches p (Ok (Some place))) t = DoesFetch s p place t
Does s (Fetches p (Ok None)) t = DoesRetire s p t
Does s (Fetches p (Err why)) t = t ≡ s

-- action follows action, from s to t
abbrev pub Follows : State → List Action → State → Type 0
Follows s [] t = t ≡ s
Follows s (d ∷ ds) t = (u : State) × Does s d u × Follows u ds t

-- in any run from the start, with an honest far side, a load gives the word that was stored last
abbrev pub LoadsGiveStored : Type 0
LoadsGiveStored = (s t : State) (before then : List Action) (m p i w : ℕ) → Law s → IsAtStart s → s.honest ≡ true →
    Follows s (before ++ Owns (Load m p i) (Word w) ∷ then) t → w ≡ last_stored before p i

-- a legal event of an owner, with its answer, is an action
abbrev pub EventsAreActions : Type 0
EventsAreActions = (s : State) (e : Event) → Law s → Fits e → is_owners e ≡ true → Legal s e → Does s (Owns e (answer s e)) (after s e)
