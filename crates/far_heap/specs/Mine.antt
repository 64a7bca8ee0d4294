-- A mutator in a heap's own words.
use Rattle.std.specs.Prelude.{◌≡◌, ◌≢◌, ◌⊎◌, ℕ, ◌+◌, ◌*◌, ◌/◌, ◌%◌, ◌<◌, ◌≤◌, ◌==◌, Bool, true, false, ◌&&◌, ◌||◌, nat_lt, nat_le, Option, Some, None, is_some, List, ◌++◌, length, map, take, drop, slice_set, slice_index_or, option_map, replicate, if◌then◌else◌}
use Rattle.std.specs.List.{range_with_len}
use Rattle.atomic_table.specs.Seated.{TableId}
use Rattle.far_word.specs.Bytes.{bytes_of}
use Rattle.far_word.specs.Pointer.{read_of}
use Rattle.far_word.specs.declared.pointer.PtrWord.{PtrWord}
use Rattle.far_word.specs.declared.pointer.PtrWord.TheVariants.{Free, Near, Far}
use Rattle.far_word.specs.declared.refused.Refused.{Refused}
use Rattle.far_word.specs.declared.refused.Refused.TheVariants.{Damaged, Device, Held, Length, Memory, NoPointer, NoRoom, NotHeld, Range}
use Rattle.far_word.specs.declared.sizes.TheConstants.{CELLS, LONGEST, MOST_MUTATORS}
use Rattle.far_table.specs.View.{ObjectView, OwnerView}
use Rattle.far_table.specs.Seats.{Seated}
use Rattle.far_table.specs.Views.{asked_at, ds_of as seat_ds, held_at, len_of as seat_len, object_at, soiled_at, uses as seat_uses, word_of}
use Rattle.far_heap.specs.HeapId.{HeapId}
use Rattle.far_heap.specs.Rows.{RowsOk, row_of, soiled_of}
use Rattle.far_heap.specs.declared.rows.Rows.{Rows}
use Rattle.far_heap.specs.declared.view.Brought.{Brought}
use Rattle.far_heap.specs.declared.view.Brought.TheVariants as brought
use Rattle.far_heap.specs.declared.view.Tried.{Tried}
use Rattle.far_heap.specs.declared.view.Tried.TheVariants.{View as Viewed, Slow}
use Rattle.far_heap.specs.declared.view.View.{View}

-- an object as its mutator knows it: how many bytes it has, of which data structure it is, and which bytes, unless the far side may give others than it was given
pub record Object : Type 0 where
  pub len : ℕ
  pub ds : ℕ
  pub bytes : Option (List ℕ)

-- a mutator: the table that it steps and its number; whether the far side is honest, and whether its scope is open; of each of its pointers, from the lowest
-- on, the object, if it uses the pointer, whether the scope views it and has soiled it, and how often the mutator set MOVE anew in its cell
pub record Mine : Type 0 where
  pub table : TableId
  pub number : ℕ
  pub honest : Bool
  pub opened : Bool
  pub objects : List (Option Object)
  pub viewed : List Bool
  pub soiled : List Bool
  pub asked : List ℕ

-- it is one of a heap's mutators, of its table, and knows what is so of its far side
abbrev pub IsOf : HeapId → Mine → Type 0
IsOf heap m = (m.table ≡ heap.table) × (m.number < heap.mutators) × (m.honest ≡ heap.honest)

-- ---- what it has
abbrev pub owns : Mine → ℕ → Bool
owns m p = p / CELLS == m.number

abbrev pub object_of : Mine → ℕ → Option Object
object_of m p = if owns m p then slice_index_or m.objects (p % CELLS) None else None

abbrev pub uses : Mine → ℕ → Bool
uses m p = is_some (object_of m p)

abbrev pub views : Mine → ℕ → Bool
views m p = if owns m p then slice_index_or m.viewed (p % CELLS) false else false

abbrev pub soils : Mine → ℕ → Bool
soils m p = if owns m p then slice_index_or m.soiled (p % CELLS) false else false

abbrev pub len_of : Option Object → ℕ
len_of None = 0
len_of (Some x) = x.len

abbrev pub ds_of : Option Object → ℕ
ds_of None = 0
ds_of (Some x) = x.ds

abbrev pub known_bytes : Option Object → Option (List ℕ)
known_bytes None = None
known_bytes (Some x) = x.bytes

-- how many bytes the object of a pointer has, and of which data structure it is, 0 where it isn't used; and which bytes, where that is known
abbrev pub len_in : Mine → ℕ → ℕ
len_in m p = len_of (object_of m p)

abbrev pub ds_in : Mine → ℕ → ℕ
ds_in m p = ds_of (object_of m p)

abbrev pub bytes_in : Mine → ℕ → Option (List ℕ)
bytes_in m p = known_bytes (object_of m p)

-- ---- what calls make of it
abbrev pub opening : Mine → Mine
opening m = record m { opened = true }

-- it views nothing, and has soiled nothing
abbrev pub closing : Mine → Mine
closing m = record m { opened = false; viewed = map (λ _. false) m.viewed; soiled = map (λ _. false) m.soiled }

abbrev pub viewing : ℕ → Mine → Mine
viewing p m = record m { viewed = slice_set m.viewed (p % CELLS) true }

-- it has set MOVE anew so many times more; and it has done so before it views the object
abbrev pub asking : ℕ → ℕ → Mine → Mine
asking p n m = record m { asked = slice_set m.asked (p % CELLS) (slice_index_or m.asked (p % CELLS) 0 + n) }

abbrev pub Asks : ℕ → Mine → Mine → Type 0
Asks p m n = (k : ℕ) × (n ≡ asking p k m)

abbrev pub AsksToView : ℕ → Mine → Mine → Type 0
AsksToView p m n = (k : ℕ) × (n ≡ viewing p (asking p k m))

-- bytes with others in the place of those from here on
abbrev pub with_range : List ℕ → ℕ → List ℕ → List ℕ
with_range bytes from new = take from bytes ++ new ++ drop (from + length new) bytes

abbrev pub rewritten : ℕ → List ℕ → Object → Object
rewritten from new x = record { len = x.len; ds = x.ds; bytes = option_map (λ bytes. with_range bytes from new) x.bytes }

-- the scope has soiled what it writes
abbrev pub writing : ℕ → ℕ → List ℕ → Mine → Mine
writing p from new m = record m {
  objects = slice_set m.objects (p % CELLS) (option_map (rewritten from new) (object_of m p));
  soiled = slice_set m.soiled (p % CELLS) true;
}

-- from then on it has soiled that object, and of others those that it had
abbrev pub SoilsOne : ℕ → Mine → Mine → Type 0
SoilsOne p m n = (soils n p ≡ true) × ((q : ℕ) → q ≢ p → soils n q ≡ soils m q)

-- it uses an object more, of so many zeros and a data structure, or one less
abbrev pub zeros_known : Bool → ℕ → Option (List ℕ)
zeros_known true len = Some (replicate len 0)
zeros_known false len = None

abbrev pub adopting : ℕ → ℕ → ℕ → Mine → Mine
adopting p len ds m = record m { objects = slice_set m.objects (p % CELLS) (Some record { len = len; ds = ds; bytes = zeros_known m.honest len }) }

abbrev pub dropping : ℕ → Mine → Mine
dropping p m = record m { objects = slice_set m.objects (p % CELLS) None }

-- ---- when an access is refused: the pointer isn't viewed; or the range is empty, or passes the object's end
abbrev pub is_range : ℕ → ℕ → ℕ → Bool
is_range len from count = nat_lt 0 count && nat_le (from + count) len

abbrev pub access_refusal : Mine → ℕ → ℕ → ℕ → Option Refused
access_refusal m p from count = if views m p then (if is_range (len_in m p) from count then None else Some Range) else Some NotHeld

-- it has a pointer that it doesn't use; or it uses each
abbrev pub HasLeft : Mine → Type 0
HasLeft m = (p : ℕ) × (owns m p ≡ true) × (uses m p ≡ false)

abbrev pub UsesAll : Mine → Type 0
UsesAll m = (p : ℕ) → owns m p ≡ true → uses m p ≡ true

-- ---- when a new object is refused: its length; or its owner uses all its pointers; or there is no room
abbrev pub is_length : ℕ → Bool
is_length len = nat_lt 0 len && nat_le len LONGEST

abbrev pub IsRefusedNew : Bool → Refused → Type 0
IsRefusedNew true why = (why ≡ NoPointer) ⊎ (why ≡ NoRoom)
IsRefusedNew false why = why ≡ Length

abbrev pub IsNoObject : ℕ → Refused → Type 0
IsNoObject len why = IsRefusedNew (is_length len) why

-- ---- when a drop is: the pointer isn't used, or its object is viewed
abbrev pub drop_refusal : Mine → ℕ → Option Refused
drop_refusal m p = if uses m p then (if views m p then Some Held else None) else Some NotHeld

-- ---- when a dereference is that may take the lock: the pointer isn't used; or its object isn't viewed, and can't be brought
abbrev pub IsUnbrought : Refused → Type 0
IsUnbrought why = (why ≡ NoRoom) ⊎ (why ≡ Memory) ⊎ (why ≡ Device) ⊎ (why ≡ Damaged)

abbrev pub IsRefusedView : Bool → Bool → Refused → Type 0
IsRefusedView true true why = ⊥
IsRefusedView true false why = IsUnbrought why
IsRefusedView false viewed why = why ≡ NotHeld

abbrev pub IsNoView : Mine → ℕ → Refused → Type 0
IsNoView m p why = IsRefusedView (uses m p) (views m p) why

-- why an object wasn't brought under the lock
abbrev pub refusal_of : Brought → Option Refused
refusal_of brought.Viewed = None
refusal_of brought.NoRoom = Some NoRoom
refusal_of brought.Memory = Some Memory
refusal_of brought.Device = Some Device
refusal_of brought.Damaged = Some Damaged

-- ---- what a dereference answers
-- a word of an object of this length and data structure on which no view may rest: it is far, or has EVAC or MOVE. It isn't dropped
abbrev pub IsSlow : ℕ → ℕ → Option PtrWord → Type 0
IsSlow len ds None = ⊥
IsSlow len ds (Some Free) = ⊥
IsSlow len ds (Some (Near n t place marks)) = (n ≡ len) × (t ≡ ds) × ((marks.evac || marks.moved) ≡ true) × (marks.dropped ≡ false)
IsSlow len ds (Some (Far n t marks)) = (n ≡ len) × (t ≡ ds) × (marks.dropped ≡ false)

abbrev pub view_of : ℕ → Mine → View
view_of p m = record { pointer = p; len = len_in m p }

-- a view of the object, which is viewed from then on; or such a word, and nothing has changed
abbrev pub TriedSo : ℕ → Mine → Tried → Mine → Type 0
TriedSo p m (Viewed view) n = (view ≡ view_of p m) × (n ≡ viewing p m)
TriedSo p m (Slow word) n = (views m p ≡ false) × (n ≡ m) × IsSlow (len_in m p) (ds_in m p) (read_of word)

-- ---- the mutator of a seat
-- what stands at the numbers of a mutator's pointers
unfoldable pub own_row : {X : Type 0} → (ℕ → X) → ℕ → List X
own_row f number = map (λ k. f (CELLS * number + k)) (range_with_len 0 CELLS)

abbrev pub known : Bool → ObjectView → Option (List ℕ)
known true x = Some (bytes_of (word_of x) x.len)
known false x = None

abbrev pub seen : Bool → Option ObjectView → Option Object
seen honest None = None
seen honest (Some x) = Some record { len = x.len; ds = x.ds; bytes = known honest x }

abbrev pub mine_of : Seated → Mine
mine_of s = record {
  table = s.table;
  number = s.view.number;
  honest = s.view.honest;
  opened = is_some s.view.open_at;
  objects = own_row (λ p. seen s.view.honest (object_at s.view p)) s.view.number;
  viewed = own_row (λ p. is_some (held_at s.view p)) s.view.number;
  soiled = own_row (λ p. soiled_at s.view p) s.view.number;
  asked = own_row (λ p. asked_at s.view p) s.view.number;
}

-- a mutator of a new heap
abbrev pub newcomer : TableId → ℕ → Bool → Mine
newcomer table number honest = record {
  table = table;
  number = number;
  honest = honest;
  opened = false;
  objects = own_row (λ _. None) number;
  viewed = own_row (λ _. false) number;
  soiled = own_row (λ _. false) number;
  asked = own_row (λ _. 0) number;
}

-- what a mutator knows by itself fits its seat: the length of each object that it uses, 0 where it uses none; and by its count of scopes what the open scope views, and
-- what it has soiled. Of pointers of others it knows nothing
pub record OwnOk (s : Seated) (name : TableId) (number : ℕ) (rows : Rows) : Type 0 where
  pub table : s.table ≡ name
  pub number_is : s.view.number ≡ number
  pub few : number < MOST_MUTATORS
  pub rows_ok : RowsOk rows
  pub lens_are : (p : ℕ) → p / CELLS ≡ number → (row_of rows p).len ≡ seat_len (object_at s.view p)
  pub used_are : (p : ℕ) → p / CELLS ≡ number → seat_uses s.view p ≡ nat_lt 0 (seat_len (object_at s.view p))
  pub short : (p : ℕ) → p / CELLS ≡ number → seat_len (object_at s.view p) ≤ LONGEST
  pub views_are : (p : ℕ) → p / CELLS ≡ number → is_some (held_at s.view p) ≡ ((row_of rows p).viewed == rows.scope)
  pub held_used : (p : ℕ) → p / CELLS ≡ number → is_some (held_at s.view p) ≡ true → seat_uses s.view p ≡ true
  pub held_open : (p : ℕ) → p / CELLS ≡ number → is_some (held_at s.view p) ≡ true → is_some s.view.open_at ≡ true
  pub soils_are : (p : ℕ) → p / CELLS ≡ number → soiled_of rows p ≡ rows.scope → soiled_at s.view p ≡ true
  pub other_lens : (p : ℕ) → p / CELLS ≢ number → (row_of rows p).len ≡ 0
  pub other_views : (p : ℕ) → p / CELLS ≢ number → (row_of rows p).viewed ≡ 0

-- so does each data structure, where it uses an object
pub record StructuresOk (o : OwnerView) (number : ℕ) (rows : Rows) : Type 0 where
  pub are : (p : ℕ) → p / CELLS ≡ number → seat_uses o p ≡ true → (row_of rows p).structure ≡ seat_ds (object_at o p)

-- the seat of a mutator of a new heap: it uses nothing, views nothing, has soiled nothing, has asked for nothing, and its scope is closed
pub record IsNew (number : ℕ) (o : OwnerView) : Type 0 where
  pub number_is : o.number ≡ number
  pub closed : o.open_at ≡ None
  pub unused : (p : ℕ) → object_at o p ≡ None
  pub free : (p : ℕ) → held_at o p ≡ None
  pub unsoiled : (p : ℕ) → soiled_at o p ≡ false
  pub unasked : (p : ℕ) → asked_at o p ≡ 0
