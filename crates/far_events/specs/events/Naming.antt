-- The forms of a naming: by what the old and the new word say. Each form stands in its own file.
use Rattle.std.specs.Prelude.{◌≡◌, ◌==◌, ℕ, Bool, true, false, cond, not, ◌||◌, ◌&&◌, Option, Some, None}
use Rattle.far_word.specs.declared.mark.Marks.{Marks}
use Rattle.far_word.specs.declared.pointer.Place.{Place}
use Rattle.far_word.specs.declared.pointer.PtrWord.{PtrWord}
use Rattle.far_word.specs.declared.pointer.PtrWord.TheVariants.{Free, Near, Far}
use Rattle.far_word.specs.Pointer.{IsPtr}
pub use Rattle.far_word.specs.Rows.{no_marks}
use Rattle.far_events.specs.declared.naming.Naming.{Naming}
use Rattle.far_events.specs.declared.naming.Naming.TheVariants.{Places, Retires, Evicts, Stays, Moves, Fetches}
use Rattle.far_events.specs.state.State.{State}
use Rattle.far_events.specs.events.Changes.{Change}
use Rattle.far_events.specs.events.NamingRow.{NamingRow}
use Rattle.far_events.specs.events.namings.Evicts.{evicts_row, evicts_change}
use Rattle.far_events.specs.events.namings.Fetches.{fetches_row, fetches_change}
use Rattle.far_events.specs.events.namings.Moves.{moves_row, moves_change}
use Rattle.far_events.specs.events.namings.Places.{places_row, places_change}
use Rattle.far_events.specs.events.namings.Retires.{retires_row, retires_change}
use Rattle.far_events.specs.events.namings.Stays.{stays_row, stays_change}

-- none of the marks but DIRTY, and that as said
abbrev pub unmarked : Bool → Marks
unmarked dirty = record { hot = false; evac = false; moved = false; dropped = false; dirty = dirty }

abbrev pub is_unmarked : Bool → Marks → Bool
is_unmarked dirty m = not (m.hot || m.evac || m.moved || m.dropped) && cond dirty m.dirty (not m.dirty)

-- a cell whose object its owner dropped
abbrev pub is_dropped : Option PtrWord → Bool
is_dropped None = false
is_dropped (Some Free) = false
is_dropped (Some (Near len ds place m)) = m.dropped
is_dropped (Some (Far len ds m)) = m.dropped

-- two words of one object, that isn't dropped: the same length and data structure, and the new word has no marks
-- but DIRTY, and that as said
abbrev pub is_kept : Bool → Marks → Marks → ℕ → ℕ → ℕ → ℕ → Bool
is_kept dirty m k len n ds d = (len == n) && (ds == d) && not m.dropped && is_unmarked dirty k

-- the object may stay where it lies: its owner has asked for it, and the book doesn't want its log
abbrev pub is_stay : Place → Place → Marks → Bool
is_stay from to m = (from.log == to.log) && (from.at == to.at) && m.moved && not m.evac

-- the form of two near words of one object
abbrev pub near_form : ℕ → ℕ → Place → Place → Marks → Option Naming
near_form len ds from to m = cond (is_stay from to m) (Some Stays) (Some (Moves len ds from to))

-- the form of an old and a new word. A new object has DIRTY, one that stays or moves has it as it had, one that goes far or comes has none
abbrev pub naming_of : Option PtrWord → Option PtrWord → Option Naming
naming_of (Some Free) (Some (Near len ds place m)) = cond (is_unmarked true m) (Some (Places len ds place)) None
naming_of (Some (Near len ds place m)) (Some (Near n d at k)) = cond (is_kept m.dirty m k len n ds d) (near_form len ds place at m) None
naming_of (Some (Far len ds m)) (Some (Near n d at k)) = cond (is_kept false m k len n ds d) (Some (Fetches len ds at)) None
naming_of (Some (Near len ds place m)) (Some Free) = cond m.dropped (Some Retires) None
naming_of (Some (Far len ds m)) (Some Free) = cond m.dropped (Some Retires) None
naming_of (Some (Near len ds place m)) (Some (Far n d k)) = cond (is_kept false m k len n ds d && m.evac) (Some (Evicts len place)) None
naming_of a b = None

-- the same, said of each form: what the old and the new word say
abbrev pub IsNaming : Naming → Option PtrWord → Option PtrWord → Type 0
IsNaming (Places len ds place) a b = (a ≡ Some Free) × (b ≡ Some (Near len ds place (unmarked true)))
IsNaming Retires a b = (is_dropped a ≡ true) × (b ≡ Some Free)
IsNaming (Evicts len place) a b = (ds : ℕ) × (m : Marks) × (a ≡ Some (Near len ds place m)) × (m.dropped ≡ false) × (m.evac ≡ true) × (b ≡ Some (Far len ds no_marks))
IsNaming Stays a b = (len ds : ℕ) × (place : Place) × (m : Marks) × (a ≡ Some (Near len ds place m)) × (m.dropped ≡ false) × (m.moved ≡ true) × (m.evac ≡ false) × (b ≡ Some (Near len ds place (unmarked m.dirty)))
IsNaming (Moves len ds from to) a b = (x : (m : Marks) × (a ≡ Some (Near len ds from m)) × (m.dropped ≡ false) × (is_stay from to m ≡ false)) × (b ≡ Some (Near len ds to (unmarked x.0.dirty)))
IsNaming (Fetches len ds place) a b = ((m : Marks) × (a ≡ Some (Far len ds m)) × (m.dropped ≡ false)) × (b ≡ Some (Near len ds place no_marks))

-- what a form takes from a word on the layout
abbrev pub IsOnLayout : Naming → Type 0
IsOnLayout (Places len ds place) = IsPtr (Near len ds place no_marks)
IsOnLayout Retires = Unit {0}
IsOnLayout (Evicts len place) = Unit {0}
IsOnLayout Stays = Unit {0}
IsOnLayout (Moves len ds from to) = IsPtr (Near len ds from no_marks) × IsPtr (Near len ds to no_marks)
IsOnLayout (Fetches len ds place) = IsPtr (Near len ds place no_marks)

-- what a form is in a state, where the pointer's new word is new
abbrev pub naming_row : State → ℕ → ℕ → Naming → NamingRow
naming_row s p new (Places len ds place) = places_row s p new len ds place
naming_row s p new Retires = retires_row s p new
naming_row s p new (Evicts len place) = evicts_row s p new len place
naming_row s p new Stays = stays_row s p new
naming_row s p new (Moves len ds from to) = moves_row s p new len ds from to
naming_row s p new (Fetches len ds place) = fetches_row s p new len ds place

-- what a form does to the world
abbrev pub naming_change : ℕ → Naming → Change
naming_change p (Places len ds place) = places_change p len ds place
naming_change p Retires = retires_change
naming_change p (Evicts len place) = evicts_change p
naming_change p Stays = stays_change p
naming_change p (Moves len ds from to) = moves_change p to
naming_change p (Fetches len ds place) = fetches_change p place
