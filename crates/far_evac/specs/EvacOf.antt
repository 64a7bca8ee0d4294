-- An evacuator as its callers see it.
use Rattle.std.specs.Prelude.{◌≡◌, ℕ, Bool, List}
use Rattle.far_core.specs.state.CoreState.{core_state}
use Rattle.far_events.specs.state.State.{State}
use Rattle.far_hand.specs.declared.plain.Plain.{Plain}
use Rattle.far_book.specs.book.BookOf.{BookOf}
use Rattle.far_evac.specs.declared.phase.Phase.{Phase}
use Rattle.far_evac.specs.Moment.{Moment}

-- its book, and its round: the phase, and the chosen logs that weren't given back in it, in the order in which they were chosen; and whether it may offer copies to
-- copiers
pub record EvacOf (N D : Type 0) : Type 0 where
  pub book : BookOf N D
  pub phase : Phase
  pub collection : List ℕ
  pub copying : Bool

-- the round of an evacuator stands where it stood
abbrev pub SameRound : {N D : Type 0} → EvacOf N D → EvacOf N D → Type 0
SameRound e f = (f.phase ≡ e.phase) × (f.collection ≡ e.collection) × (f.copying ≡ e.copying)

-- the moment that it stands at, as far as its hand knows the words
abbrev pub moment : {N D : Type 0} → (N → State) → EvacOf N D → Moment
moment view e = record { core = view e.book.near; order = e.book.order; phase = e.phase; collection = e.collection; copying = e.copying }

-- the same over a core of its own, whose words are all known
abbrev pub moment_alone : {D : Type 0} → EvacOf Plain D → Moment
moment_alone e = moment (λ (near : Plain). core_state near.core) e
