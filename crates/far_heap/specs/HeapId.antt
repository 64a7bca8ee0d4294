-- What a heap's name names.
use Rattle.std.specs.Prelude.{ℕ, Bool, false, true, []}
use Rattle.atomic_table.specs.Seated.{TableId}
use Rattle.far_table.specs.declared.book.BookSeat.{BookSeat}
use Rattle.far_table.specs.BookSeats.{seat_view, table_of}

-- the table of its words, how many logs and mutators it has, whether its far side is honest, and whether it has copiers
pub record HeapId : Type 0 where
  pub table : TableId
  pub logs : ℕ
  pub mutators : ℕ
  pub honest : Bool
  pub copying : Bool

-- the heap of a book's seat, with copiers or without
abbrev pub heap_of : {D : Type 0} → Bool → BookSeat D → HeapId
heap_of copying s = record { table = table_of s; logs = (seat_view s).logs; mutators = (seat_view s).mutators; honest = (seat_view s).honest; copying = copying }

-- the same heap, begun with copiers
abbrev pub with_copiers : HeapId → HeapId
with_copiers heap = record heap { copying = true }

-- that of nobody
abbrev pub no_table : TableId
no_table = record { words = 0; slots = 0; views_name = 0; atom = 0; block = 0; offset = 0; slot_names = [] }

abbrev pub no_heap : HeapId
no_heap = record { table = no_table; logs = 0; mutators = 0; honest = false; copying = false }
