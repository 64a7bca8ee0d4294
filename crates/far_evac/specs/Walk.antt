-- Evacuating: the live objects of the collection set are dealt with one after the other, where no word changes but by this.
use Rattle.std.specs.Prelude.{ℕ, ◌+◌, zero, suc, Bool, false, cond, Option, Some, None, List, [], ◌∷◌, if◌then◌else◌}
use Rattle.far_word.specs.declared.pointer.Place.{Place}
use Rattle.far_word.specs.declared.pointer.PtrWord.{PtrWord}
use Rattle.far_word.specs.declared.pointer.PtrWord.TheVariants.{Free, Near, Far}
use Rattle.far_word.specs.Pointer.{read_of}
use Rattle.far_word.specs.Sizes.{size_of}
use Rattle.far_core.specs.state.Room.{room}
use Rattle.far_events.specs.state.State.{State}
use Rattle.far_book.specs.book.Effects.{moved, evicted, with_free_cell}
use Rattle.far_evac.specs.declared.phase.Phase.TheVariants.{Idle}
use Rattle.far_evac.specs.Live.{live_in, live_among, is_empty}
use Rattle.far_evac.specs.Moment.{Moment, Tally, nothing, with_placed, with_released}

-- how an object is dealt with
pub data Way : Type 0 where
  Drops : Way
  Moves : (place : Place) → Way
  Goes : Way

-- a hot object goes to another log, if there is room, else far
abbrev pub hot_way : Option Place → Way
hot_way None = Goes
hot_way (Some place) = Moves place

-- one that its owner dropped is retired; a hot one may take the last free log; any other goes far
abbrev pub way_of : State → Option PtrWord → Way
way_of s None = Drops
way_of s (Some Free) = Drops
way_of s (Some (Near len ds place marks)) = cond marks.dropped Drops (cond marks.hot (hot_way (room s (size_of len) false)) Goes)
way_of s (Some (Far len ds marks)) = Drops

-- where a walk stands, and what it has done so far
pub record Walked : Type 0 where
  pub moment : Moment
  pub tally : Tally

abbrev pub begun : Moment → Walked
begun m = record { moment = m; tally = nothing }

-- an object is dealt with in a way
abbrev pub dealt_so : Walked → ℕ → Way → Walked
dealt_so w p Drops = record { moment = record w.moment { core = with_free_cell w.moment.core p }; tally = record w.tally { dropped = w.tally.dropped + 1 } }
dealt_so w p (Moves place) = record { moment = with_placed w.moment place (moved w.moment.core p place); tally = record w.tally { moved = w.tally.moved + 1 } }
dealt_so w p Goes = record { moment = record w.moment { core = evicted w.moment.core p }; tally = record w.tally { far = w.tally.far + 1 } }

-- the same, as a cell says that was found so
abbrev pub dealt_as : Walked → ℕ → Option PtrWord → Walked
dealt_as w p cell = dealt_so w p (way_of w.moment.core cell)

-- a log is given back
abbrev pub freed : Walked → ℕ → Walked
freed w l = record { moment = with_released w.moment l; tally = record w.tally { freed = w.tally.freed + 1 } }

-- the logs in front that have no live object are given back; these are the collection set then
abbrev pub passed : Walked → List ℕ → Walked
passed w [] = record w { moment = record w.moment { collection = [] } }
passed w (l ∷ ls) = if is_empty (live_in w.moment.core l) then passed (freed w l) ls else record w { moment = record w.moment { collection = l ∷ ls } }

abbrev pub settled : Walked → Walked
settled w = passed w w.moment.collection

-- the objects that are left, and whether no log is
abbrev pub left : Walked → List ℕ
left w = live_among w.moment.core w.moment.collection

abbrev pub is_done : Walked → Bool
is_done w = is_empty w.moment.collection

-- the first of them is dealt with, as its cell says
abbrev pub dealt_first : Walked → List ℕ → Walked
dealt_first w [] = w
dealt_first w (p ∷ ps) = settled (dealt_as w p (read_of (w.moment.core.cell p)))

-- n objects are dealt with, or all
abbrev pub walked : Moment → ℕ → Walked
walked m zero = settled (begun m)
walked m (suc n) = let w = walked m n in dealt_first w (left w)

-- the round is over where each log was given back
abbrev pub ended : Walked → Moment
ended w = if is_done w then record w.moment { phase = Idle } else w.moment
