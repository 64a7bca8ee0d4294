-- Which events a function's calls of its hand are, where all of them are of one kind.
use Rattle.std.specs.Prelude.{◌≡◌, ℕ, Bool, false}
use Rattle.far_word.specs.declared.pointer.Place.{Place}
use Rattle.far_events.specs.declared.event.Event.{Event}
use Rattle.far_events.specs.declared.event.Event.TheVariants.{Get, Put, Name}
use Rattle.far_book.specs.book.Effects.{near_word}

-- a word of this log is read, and the log isn't given back
abbrev pub Reads : ℕ → Event → Type 0
Reads log e = (at : ℕ) × (e ≡ Get log at false)

-- a word of this log is written
abbrev pub Writes : ℕ → Event → Type 0
Writes log e = (at : ℕ) × (word : ℕ) × (e ≡ Put log at word)

-- the cell of this pointer is to get this word, by the word that was found there before
abbrev pub Names : ℕ → ℕ → Event → Type 0
Names p new e = (old : ℕ) × (e ≡ Name p old new)

-- it is to say that its object lies near here, with DIRTY or without
abbrev pub NamesNear : ℕ → ℕ → ℕ → Place → Event → Type 0
NamesNear p len ds place e = (dirty : Bool) × Names p (near_word dirty len ds place) e
