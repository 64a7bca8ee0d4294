-- What the struct of the book's seat keeps.
use Rattle.std.specs.Prelude.{◌≡◌, ◌≢◌, ◌/◌, ◌^◌, ◌<◌, ◌≤◌, ℕ, Bool, false, Some, None, List, [], ◌∷◌, map}
use Rattle.std.specs.List.{range_with_len}
use Rattle.atomic_table.specs.declared.shared.Seat.{Seat}
use Rattle.atomic_table.specs.Seated.{TableId}
use Rattle.far_word.specs.declared.sizes.TheConstants.{CELLS, EPOCH_END, LEAST_LOGS, LEAST_MUTATORS, MOST_COPIERS, MOST_LOGS, MOST_MUTATORS}
use Rattle.far_table.specs.View.{BookView, CopierView, ObjectView, OtherViews, OwnerView, Role, View, Book, Owner, Copier, seat_of}
use Rattle.far_events.specs.events.Open.{scope_word_of}
use Rattle.far_events.specs.state.State.{State}
use Rattle.far_hand.specs.Known.{unknown}
use Rattle.far_hand.specs.Masked.{masked}
use Rattle.far_table.specs.CopierViews.{words_read, words_written}
use Rattle.far_table.specs.First.{first_copier, first_others, first_owner}
use Rattle.far_table.specs.Layout.{table_words}
use Rattle.far_table.specs.Rows.{over}
use Rattle.far_table.specs.Rule.{Facts, Has}
use Rattle.far_table.specs.Seats.{CopierSeated, Seated}
use Rattle.far_table.specs.StateOf.{book_state, state_of}
use Rattle.far_table.specs.Views.{held_at, nobody, object_at, soiled_at, uses}

-- a view that knows nothing
abbrev pub no_book : BookView
no_book = record {
  mutators = 0;
  logs = 0;
  honest = false;
  epoch = 0;
  cells = [];
  kinds = [];
  tails = [];
  current = 0;
  heads = [];
  known = [];
  chosen = 0;
  round = [];
  clear = [];
  stored = [];
  taken = [];
  retired = [];
  cooled = [];
  stained = [];
  cleaned = [];
  jobs = [];
  since = [];
  named = [];
  rest = [];
}

abbrev pub book_of : View → BookView
book_of (Book b) = b
book_of (Owner o) = no_book
book_of (Copier c) = no_book

-- each row of a word that the view knows has a word; what it doesn't know is the number that stands for that
abbrev pub IsPlain : BookView → Type 0
IsPlain b = (a : ℕ) → 2 ^ 64 ≤ over b.known unknown a → over b.known unknown a ≡ unknown a

-- the seat is of its table, and its view is the book's, of which the struct keeps the shape and the epoch as numbers; all others have their seats
pub record BookOk (id here : TableId) (v : View) (logs mutators epoch : ℕ) : Type 0 where
  pub same : id ≡ here
  pub wide : id.words ≡ table_words logs
  pub is_book : v ≡ Book (book_of v)
  pub logs_are : (book_of v).logs ≡ logs
  pub mutators_are : (book_of v).mutators ≡ mutators
  pub epoch_is : (book_of v).epoch ≡ epoch
  pub two_logs : LEAST_LOGS ≤ logs
  pub few_logs : logs ≤ MOST_LOGS
  pub some_mutators : LEAST_MUTATORS ≤ mutators
  pub few_mutators : mutators ≤ MOST_MUTATORS
  pub epoch_below : epoch < EPOCH_END
  pub dealt : (book_of v).rest ≡ []
  pub plain : IsPlain (book_of v)

-- there are words, and views of all others, with which the rule holds
pub record Stands (b : BookView) : Type 0 where
  pub words : List ℕ
  pub others : OtherViews
  pub facts : Facts words b others

-- ---- seats at the start
-- the book's seat of a table of so many logs, while it gives seats to others
abbrev pub IsDealer : {S : Type 0} → Seat S View → TableId → ℕ → Type 0
IsDealer seat id logs = (seat.table_id ≡ id) × (id.words ≡ table_words logs) × (seat.me.0 ≡ Book (book_of seat.me.0))

-- the seats of so many owners, by number, all of one table
abbrev pub Seats : TableId → (ℕ → OwnerView) → ℕ → List Seated
Seats id owner n = map (λ m. record { table = id; view = owner m }) (range_with_len 0 n)

-- and of so many copiers
abbrev pub CopierSeats : TableId → (ℕ → CopierView) → ℕ → List CopierSeated
CopierSeats id copier n = map (λ c. record { table = id; view = copier c }) (range_with_len 0 n)

-- how the book's view is cut in two: the first of those that have no seat gets one
abbrev pub others_rest : List Role → List Role
others_rest [] = []
others_rest (role ∷ rest) = rest

abbrev pub first_rest : List Role → View
first_rest [] = Owner nobody
first_rest (role ∷ rest) = seat_of role

abbrev pub left_of : View → View
left_of (Book b) = Book (record b { rest = others_rest b.rest })
left_of (Owner o) = Owner o
left_of (Copier c) = Copier c

abbrev pub right_of : View → View
right_of (Book b) = first_rest b.rest
right_of (Owner o) = Owner o
right_of (Copier c) = Copier c

-- an owner's view is what a state says of that owner: its epoch and scope, what it uses, holds and has soiled, and of each object that it uses the bytes
pub record SaysOwner (s : State) (honest : Bool) (m : ℕ) (o : OwnerView) : Type 0 where
  pub number : o.number ≡ m
  pub honesty : o.honest ≡ honest
  pub epoch : o.epoch ≡ s.remembered m
  pub scope : scope_word_of o.open_at ≡ s.scope m
  pub used : (p : ℕ) → p / CELLS ≡ m → uses o p ≡ s.used p
  pub held : (p : ℕ) → p / CELLS ≡ m → held_at o p ≡ s.held p
  pub soiled : (p : ℕ) → p / CELLS ≡ m → soiled_at o p ≡ s.soiled p
  pub objects : (p : ℕ) (x : ObjectView) → p / CELLS ≡ m → object_at o p ≡ Some x → Has (record s { honest = honest }) p x
  pub others : (p : ℕ) → p / CELLS ≢ m → (object_at o p ≡ None) × (held_at o p ≡ None)

-- a copier's view is what a state says of that copier: its job, the length that it has read, and the words that it has read and written
pub record SaysCopier (s : State) (c : ℕ) (v : CopierView) : Type 0 where
  pub number : v.number ≡ c
  pub task : v.task ≡ s.copying.task c
  pub length : v.length ≡ s.copying.length c
  pub read : words_read v ≡ s.copying.read c
  pub written : words_written v ≡ s.copying.written c

-- the start: with some words and all others' views the rule holds, and together they are the core's state, honest as the far side is. The book's view
-- is that state with what its seat can't know masked, all words but headers among it; and each other's is what the core says of it
pub record Starts (s : State) (honest : Bool) (b : BookView) : Type 0 where
  pub words : List ℕ
  pub facts : Facts words b (first_others s honest)
  pub state : state_of words b (first_others s honest) ≡ record s { honest = honest }
  pub book : book_state b ≡ masked (record s { honest = honest }) s.cell (λ _. false) s.copying.word
  pub owners : (m : ℕ) → SaysOwner s honest m (first_owner s honest m)
  pub copiers : (c : ℕ) → c < MOST_COPIERS → SaysCopier s c (first_copier s c)
