-- Who makes an event.
use Rattle.std.specs.Prelude.{ℕ, Bool, true, false}
use Rattle.far_events.specs.declared.event.Event.{Event}
use Rattle.far_events.specs.declared.event.Event.TheVariants.{ReadEpoch, Open, Pin, Load, Store, Soil, Close, Adopt, Put, Name, See, Mark, Ask, Get, Clear, Advance, Look, Offer, PeekJob, SeeJob, Claim, ReadLength, Read, Write, Finish, Collect}

-- the book, an owner or a copier, by its number
pub data Maker : Type 0 where
  ByBook : Maker
  ByOwner : ℕ → Maker
  ByCopier : ℕ → Maker

abbrev pub maker : Event → Maker
maker (ReadEpoch m) = ByOwner m
maker (Open m) = ByOwner m
maker (Pin m p) = ByOwner m
maker (Load m p i) = ByOwner m
maker (Store m p i w) = ByOwner m
maker (Soil m p) = ByOwner m
maker (Close m) = ByOwner m
maker (Adopt m p) = ByOwner m
maker (Ask m p k) = ByOwner m
maker (Put l at w) = ByBook
maker (Name p old new) = ByBook
maker (See p) = ByBook
maker (Mark p) = ByBook
maker (Clear p) = ByBook
maker (Get l at free) = ByBook
maker (Advance logs) = ByBook
maker (Look m) = ByBook
maker (Offer j p to) = ByBook
maker (SeeJob j) = ByBook
maker (Collect j old) = ByBook
maker (PeekJob c j) = ByCopier c
maker (Claim c j old) = ByCopier c
maker (ReadLength c) = ByCopier c
maker (Read c i) = ByCopier c
maker (Write c i) = ByCopier c
maker (Finish c) = ByCopier c

abbrev pub is_owner : Maker → Bool
is_owner ByBook = false
is_owner (ByOwner m) = true
is_owner (ByCopier c) = false

-- the events of owners
abbrev pub is_owners : Event → Bool
is_owners e = is_owner (maker e)

abbrev pub is_other : Maker → Bool
is_other ByBook = false
is_other (ByOwner m) = true
is_other (ByCopier c) = true

-- the events of owners and copiers: of all but the book
abbrev pub is_others : Event → Bool
is_others e = is_other (maker e)
