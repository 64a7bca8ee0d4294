-- A heap between two commands: all that a command's refusal, effect and reply may hang on.
use Rattle.std.specs.Prelude.{◌≡◌, ℕ, false, Option, Some, []}
use Rattle.far_core.specs.state.CoreState.{core_state}
use Rattle.far_word.specs.declared.pointer.PtrWord.{PtrWord}
use Rattle.far_events.specs.state.Law.{IsStored}
use Rattle.far_events.specs.state.State.{State, put}
use Rattle.far_device.specs.declared.fail_at.FailAt.{FailAt}
use Rattle.far_device.specs.declared.liar.Liar.{Liar}
use Rattle.far_device.specs.declared.mem.MemDevice.{MemDevice}
use Rattle.far_hand.specs.declared.plain.Plain.{Plain}
use Rattle.far_evac.specs.EvacOf.{EvacOf}
use Rattle.far_book.specs.book.FarSide.{kept_len}
pub use Rattle.far_evac.specs.Moment.{Moment, with_core}
use Rattle.far_evac.specs.declared.phase.Phase.TheVariants.{Idle}

-- a core of which no log was ever sealed, in no round; nothing is offered to copiers
abbrev pub moment_of : State → Moment
moment_of s = record { core = s; order = []; phase = Idle; collection = []; copying = false }

-- the far side: a device in memory, of which one call may fail, and one read may be a lie
abbrev pub FarSide : Type 0
FarSide = Liar (FailAt MemDevice)

-- these words may be stored of what a cell names: where the far side is to hold bytes of it, they are as many as it has
abbrev pub KeptBack : (ℕ → ℕ) → Option PtrWord → Type 0
KeptBack row cell = (len : ℕ) → kept_len cell ≡ Some len → IsStored row len

-- all as it was, but that these words are stored of p
abbrev pub with_stored : State → ℕ → (ℕ → ℕ) → State
with_stored s p row = record s { stored = put s.stored p row }

abbrev pub as_if_stored : Moment → ℕ → (ℕ → ℕ) → Moment
as_if_stored now p row = record now { core = with_stored now.core p row }

-- the state of the core that an evacuator's book has in its hand
abbrev pub state_in : EvacOf Plain FarSide → State
state_in evac = core_state evac.book.near.core

-- where an evacuator stands
abbrev pub moment_in : EvacOf Plain FarSide → Moment
moment_in evac = record { core = state_in evac; order = evac.book.order; phase = evac.phase; collection = evac.collection; copying = evac.copying }

-- from one evacuator to another the round stays as it was
abbrev pub KeepsRound : EvacOf Plain FarSide → EvacOf Plain FarSide → Type 0
KeepsRound old new = (new.phase ≡ old.phase) × (new.collection ≡ old.collection) × (new.copying ≡ old.copying)
