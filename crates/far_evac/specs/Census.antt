-- What an audit lists: where each object is that isn't dropped, and what each log is and has.
use Rattle.std.specs.Prelude.{◌≡◌, ℕ, ◌*◌, Bool, cond, Option, Some, None, List, [], ◌∷◌, map}
use Rattle.std.specs.List.{flat_map, range_with_len}
use Rattle.far_word.specs.declared.pointer.PtrWord.{PtrWord}
use Rattle.far_word.specs.declared.sizes.TheConstants.{CELLS}
use Rattle.far_word.specs.Pointer.{read_of}
use Rattle.far_events.specs.declared.event.Event.{Event}
use Rattle.far_events.specs.declared.event.Event.TheVariants.{See}
use Rattle.far_events.specs.declared.event.Kind.{Kind}
use Rattle.far_events.specs.declared.event.Kind.TheVariants as kinds
use Rattle.far_events.specs.events.Naming.{is_dropped}
use Rattle.far_events.specs.state.State.{State}
use Rattle.far_book.specs.declared.home.Home.{Home}
use Rattle.far_book.specs.declared.home.Home.TheVariants.{Near, Far}
use Rattle.far_book.specs.book.Home.{home_of}
use Rattle.far_book.specs.book.Rows.{row_of}
use Rattle.far_evac.specs.declared.census.Housed.{Housed}
use Rattle.far_evac.specs.declared.census.LogKind.{LogKind}
use Rattle.far_evac.specs.declared.census.LogKind.TheVariants.{Free, Open, Sealed, Chosen}
use Rattle.far_evac.specs.declared.census.LogState.{LogState}
use Rattle.far_evac.specs.Moment.{Moment}
use Rattle.far_evac.specs.RoundSteps.{among}

-- a look at a pointer's cell
abbrev pub Sees : Event → Type 0
Sees e = (p : ℕ) × (e ≡ See p)

-- a pointer is listed where its cell is used and hasn't DROP
abbrev pub housed_at : ℕ → Option Home → List Housed
housed_at p None = []
housed_at p (Some home) = record { pointer = p; home = home } ∷ []

abbrev pub housed_in : ℕ → Option PtrWord → List Housed
housed_in p cell = cond (is_dropped cell) [] (housed_at p (home_of cell))

-- all of them, by pointer
abbrev pub homes_of : State → List Housed
homes_of s = flat_map (λ p. housed_in p (read_of (s.cell p))) (range_with_len 0 (CELLS * s.mutators))

-- a sealed log that was chosen and not given back is named so
abbrev pub kind_named : Bool → Kind → LogKind
kind_named chosen kinds.Free = Free
kind_named chosen kinds.Open = Open
kind_named chosen kinds.Sealed = cond chosen Chosen Sealed

abbrev pub kind_in : Moment → ℕ → LogKind
kind_in m l = kind_named (among m.collection l) (m.core.kind l)

-- all logs, by number
abbrev pub logs_of : Moment → List LogState
logs_of m = map (λ l. record { kind = kind_in m l; row = row_of m.core l }) (range_with_len 0 m.core.logs)

-- an object's owner has dropped it
abbrev pub has_drop : Home → Bool
has_drop (Near place marks) = marks.dropped
has_drop (Far marks) = marks.dropped
