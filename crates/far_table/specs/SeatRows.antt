-- Rows of words of an object that an owner's seat holds: what a call on one asks of the seat, and what has come once some words are loaded or stored.
use Rattle.std.specs.Prelude.{◌≡◌, ◌+◌, ◌*◌, ◌%◌, ◌<◌, ◌≤◌, ℕ, true, List, take, slice_index, IsSome}
use Rattle.atomic_table.specs.Seated.{TableId}
use Rattle.far_word.specs.declared.sizes.TheConstants.{CELLS}
use Rattle.far_word.specs.Bytes.{byte_at, packed_word}
use Rattle.far_table.specs.Layout.{table_words}
use Rattle.far_table.specs.Ranges.{Wrote}
use Rattle.far_table.specs.RowTells.{LoadedEach, StoredEach}
use Rattle.far_table.specs.Seats.{HasPlaces}
use Rattle.far_table.specs.Tells.{owner_of}
use Rattle.far_table.specs.View.{OwnerView, View, Owner}
use Rattle.far_table.specs.Views.{held_at, len_of, object_at, soiled_at, word_in_view}

-- a seat of this table is an owner's and holds an object, of which n bytes from word `first` on begin at this address
pub record HoldsRow (id here : TableId) (v : View) (p begin first n : ℕ) : Type 0 where
  pub list : List ℕ
  pub table : (id ≡ here) × (id.words ≡ table_words (owner_of v).logs)
  pub owner : v ≡ Owner (owner_of v)
  pub places : HasPlaces (owner_of v) list
  pub begins : begin ≡ slice_index list (p % CELLS) + first
  pub held : IsSome (held_at (owner_of v) p)
  pub inside : 8 * first + n ≤ len_of (object_at (owner_of v) p)

-- and it has soiled the object
pub record SoiledRow (id here : TableId) (v : View) (p begin first n : ℕ) : Type 0 where
  pub row : HoldsRow id here v p begin first n
  pub soiled : soiled_at (owner_of v) p ≡ true

-- the first n words of a row are loaded: if the far side is honest, their bytes are the object's; each was one event
pub record RowLoaded (p first n : ℕ) (out : List ℕ) (o : OwnerView) : Type 0 where
  pub bytes : o.honest ≡ true → (k : ℕ) → k < 8 * n → slice_index out k ≡ byte_at (word_in_view (object_at o p)) (8 * first + k)
  pub events : LoadedEach p first (packed_word out) n o

-- the first n words of a row were stored, from one view to another: so were their bytes, and each word by one event
pub record RowStored (p first n : ℕ) (bytes : List ℕ) (o o' : OwnerView) : Type 0 where
  pub wrote : Wrote p (8 * first) (take (8 * n) bytes) o o'
  pub events : StoredEach p first (packed_word bytes) n o o'
