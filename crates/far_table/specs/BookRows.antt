-- The book's seat apart from its struct, on which steps in a row are made.
use Rattle.std.specs.Prelude.{◌≡◌, ℕ}
use Rattle.atomic_table.specs.declared.shared.Seat.{Seat}
use Rattle.atomic_table.specs.Seated.{TableId}
use Rattle.far_events.specs.declared.event.Event.{Event}
use Rattle.far_events.specs.declared.event.Reply.{Reply}
use Rattle.far_events.specs.state.State.{State}
use Rattle.far_table.specs.BookTells.{BookMade}
use Rattle.far_table.specs.StateOf.{book_state}
use Rattle.far_table.specs.Stands.{BookOk, Stands, book_of}
use Rattle.far_table.specs.View.{View}

-- what its struct keeps, of a table, and of a heap of this shape at this epoch
pub record PartOk (here : TableId) (logs mutators epoch : ℕ) (s : Seat ℕ View) : Type 0 where
  pub fits : BookOk s.table_id here s.me.0 logs mutators epoch
  pub stands : ∥ Stands (book_of s.me.0) ∥₁

abbrev pub IsPart : TableId → Seat ℕ View → Type 0
IsPart here s = (logs : ℕ) × (mutators : ℕ) × (epoch : ℕ) × PartOk here logs mutators epoch s

-- ---- the part as a hand
abbrev pub part_view : Seat ℕ View → State
part_view s = book_state (book_of s.me.0)

abbrev pub part_makes : TableId → ℕ → ℕ → ℕ → Seat ℕ View → Event → Reply → Seat ℕ View → Type 0
part_makes here logs mutators epoch s e r t = (t.table_id ≡ s.table_id) × BookMade e (book_of s.me.0) r (book_of t.me.0) × PartOk here logs mutators epoch t

-- what is so of its calls, whatever the shape and the epoch of its struct
abbrev pub InPart : TableId → Seat ℕ View → ((Seat ℕ View → Event → Reply → Seat ℕ View → Type 0) → Type 0) → Type 0
InPart here s P = (logs mutators epoch : ℕ) → PartOk here logs mutators epoch s → P (part_makes here logs mutators epoch)

-- from s to t calls led, by which the struct keeps what it does, and words alone change
pub record Leads (here : TableId) (s t : Seat ℕ View) : Type 0 where
  pub ok : (logs mutators epoch : ℕ) → PartOk here logs mutators epoch s → PartOk here logs mutators epoch t
  pub rest : part_view t ≡ record (part_view s) { word = (part_view t).word }
