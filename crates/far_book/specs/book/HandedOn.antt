-- What the book's calls promise that are one call of its hand, each in one record, of the book before and after the call. A word that a call answers is the one that was found.
use Rattle.std.specs.Prelude.{◌≡◌, ◌+◌, ◌^◌, ◌<◌, ℕ, bit_or, Result, IfOk, IfErr}
use Rattle.far_word.specs.declared.mark.Mark.TheVariants.{Evac}
use Rattle.far_word.specs.declared.refused.Refused as refusals
use Rattle.far_word.specs.declared.refused.Refused.TheVariants.{EpochsSpent}
use Rattle.far_word.specs.declared.sizes.TheConstants.{EPOCH_END}
use Rattle.far_word.specs.Mark.{position}
use Rattle.far_events.specs.declared.event.Event.{Event}
use Rattle.far_events.specs.declared.event.Event.TheVariants.{See, Mark, Clear, Advance, Look}
use Rattle.far_events.specs.declared.event.Reply.{Reply}
use Rattle.far_events.specs.declared.event.Reply.TheVariants.{Word, Epoch, Refused}
use Rattle.far_events.specs.events.Step.{after}
use Rattle.far_events.specs.state.State.{State, put}
use Rattle.far_hand.specs.Came.{Came}
use Rattle.far_hand.specs.Cleared.{cleared}
use Rattle.far_hand.specs.Finds.{Finds}
use Rattle.far_hand.specs.Known.{Forgets}
use Rattle.far_hand.specs.Rounds.{IsScopeAt, looked_at}
use Rattle.far_book.specs.book.Actions.{Does, Steps}
use Rattle.far_book.specs.book.BookOf.{BookOf}
use Rattle.far_book.specs.book.Effects.{marked}

module _ {N D : Type 0} (still : Type 0) (view : N → State) (makes : N → Event → Reply → N → Type 0) where
  -- p's cell was looked at
  pub record SeesCell (may_be : N → State → Type 0) (old new : BookOf N D) (p word : ℕ) : Type 0 where
    -- the one call of the hand
    pub made : makes old.near (See p) (Word word) new.near
    pub came : Came makes old.near new.near
    pub found : Finds ((view old.near).cell p) word
    -- the cell is known as it was found; over a hand that is still that is how it was known
    pub kept : view new.near ≡ record (view old.near) { cell = put (view old.near).cell p word }
    pub exact : still → word ≡ (view old.near).cell p
    pub set : still → view new.near ≡ view old.near
    -- a state that the words may be in has that word there
    pub saw : ∥ ((x : State) × may_be new.near x × (x.cell p ≡ word)) ∥₁
    pub order : new.order ≡ old.order
    pub device : new.device ≡ old.device

  -- p's cell got EVAC
  pub record MarksCell (old new : BookOf N D) (p word : ℕ) : Type 0 where
    pub made : makes old.near (Mark p) (Word word) new.near
    pub came : Came makes old.near new.near
    pub found : Finds ((view old.near).cell p) word
    -- the cell is known as it was found, with EVAC; over a hand that is still it was found as it was known
    pub kept : view new.near ≡ record (view old.near) { cell = put (view old.near).cell p (bit_or word (2 ^ position Evac)) }
    pub exact : still → word ≡ (view old.near).cell p
    pub set : still → view new.near ≡ marked (view old.near) p
    -- the action that this is
    pub ran : still → Does (view old.near) (Steps (Mark p)) (view new.near)
    pub order : new.order ≡ old.order
    pub device : new.device ≡ old.device

  -- EVAC was taken from p's cell, and its log left the round
  pub record ClearsCell (old new : BookOf N D) (p word : ℕ) : Type 0 where
    pub made : makes old.near (Clear p) (Word word) new.near
    pub came : Came makes old.near new.near
    pub found : Finds ((view old.near).cell p) word
    -- words may have been forgotten; over a hand that is still none was
    pub kept : view new.near ≡ record (cleared (view old.near) p word) { word = (view new.near).word }
    pub forgot : Forgets (view old.near) (view new.near)
    pub exact : still → word ≡ (view old.near).cell p
    pub set : still → view new.near ≡ after (view old.near) (Clear p)
    -- the action that this is
    pub ran : still → Does (view old.near) (Steps (Clear p)) (view new.near)
    pub order : new.order ≡ old.order
    pub device : new.device ≡ old.device

  -- the scope word of owner m was looked at
  pub record LooksAtScope (may_be : N → State → Type 0) (old new : BookOf N D) (m word : ℕ) : Type 0 where
    pub made : makes old.near (Look m) (Word word) new.near
    pub came : Came makes old.near new.near
    pub scope : IsScopeAt (view old.near).epoch word
    -- the owner is seen clear if the word says so; over a hand that is still it is the owner's scope
    pub kept : view new.near ≡ looked_at (view old.near) m word
    pub exact : still → word ≡ (view old.near).scope m
    pub set : still → view new.near ≡ after (view old.near) (Look m)
    -- a state that the words may be in has that word there
    pub saw : ∥ ((x : State) × may_be new.near x × (x.scope m ≡ word)) ∥₁
    -- the action that this is
    pub ran : still → Does (view old.near) (Steps (Look m)) (view new.near)
    pub order : new.order ≡ old.order
    pub device : new.device ≡ old.device

  -- the epoch rose, and a round of these logs began; or there is no later epoch
  pub record RaisesEpoch (old new : BookOf N D) (logs : ℕ) (result : Result ℕ refusals.Refused) : Type 0 where
    pub came : Came makes old.near new.near
    pub made : IfOk result (λ epoch. makes old.near (Advance logs) (Epoch epoch) new.near)
    pub epoch : IfOk result (λ epoch. (epoch ≡ (view old.near).epoch + 1) × (epoch < EPOCH_END))
    -- words may have been forgotten; over a hand that is still none was
    pub kept : IfOk result (λ _. view new.near ≡ record (after (view old.near) (Advance logs)) { word = (view new.near).word })
    pub forgot : IfOk result (λ _. Forgets (view old.near) (view new.near))
    pub set : still → IfOk result (λ _. view new.near ≡ after (view old.near) (Advance logs))
    -- the action that this is
    pub ran : still → IfOk result (λ _. Does (view old.near) (Steps (Advance logs)) (view new.near))
    -- refused, nothing has changed
    pub refused : IfErr result (λ why. (why ≡ EpochsSpent) × ((view old.near).epoch + 1 ≡ EPOCH_END))
    pub spent : IfErr result (λ _. makes old.near (Advance logs) Refused new.near)
    pub unchanged : IfErr result (λ _. view new.near ≡ view old.near)
    pub order : new.order ≡ old.order
    pub device : new.device ≡ old.device
