-- What an owner's calls ask of its seat's view.
use Rattle.std.specs.Prelude.{◌≡◌, ◌/◌, ◌%◌, ◌<◌, ◌≤◌, ℕ, Bool, false, Option, Some, None, List, is_some, length, slice_index_or}
use Rattle.atomic_table.specs.Seated.{TableId}
use Rattle.far_word.specs.declared.sizes.TheConstants.{CELLS, MOST_MUTATORS}
use Rattle.far_events.specs.declared.shape.Shape.{Shape}
use Rattle.far_events.specs.state.Opening.{opening}
use Rattle.far_table.specs.View.{ObjectView, OwnerView}
use Rattle.far_table.specs.First.{first_owner}
use Rattle.far_table.specs.Seats.{Seated}
use Rattle.far_table.specs.Stands.{Seats}
use Rattle.far_table.specs.Views.{held_at, object_at}

-- the length of an object that is used
abbrev pub len_in : Option ObjectView → Option ℕ
len_in None = None
len_in (Some x) = Some x.len

-- what is known is what the view says
pub record Fits (v : OwnerView) (me : ℕ) (opened read : Bool) (lens : List (Option ℕ)) (held : List Bool) : Type 0 where
  pub number_is : v.number ≡ me
  pub few : me < MOST_MUTATORS
  pub scope : is_some v.open_at ≡ opened
  pub epoch : is_some v.epoch ≡ read
  pub objects : (p : ℕ) → p / CELLS ≡ me → len_in (object_at v p) ≡ slice_index_or lens (p % CELLS) None
  pub places : (p : ℕ) → p / CELLS ≡ me → is_some (held_at v p) ≡ slice_index_or held (p % CELLS) false
  pub all_lens : length lens ≡ CELLS
  pub all_held : length held ≡ CELLS

-- the view of an owner that has done nothing yet
pub record IsNew (v : OwnerView) (me : ℕ) : Type 0 where
  pub number_is : v.number ≡ me
  pub scope : v.open_at ≡ None
  pub epoch : v.epoch ≡ None
  pub objects : (p : ℕ) → p / CELLS ≡ me → object_at v p ≡ None
  pub places : (p : ℕ) → p / CELLS ≡ me → held_at v p ≡ None

-- the seats of the first owners of a new heap
pub record Fresh (seats : List Seated) : Type 0 where
  pub shape : Shape
  pub honest : Bool
  pub table : TableId
  pub few : length seats ≤ MOST_MUTATORS
  pub seats_are : seats ≡ Seats table (first_owner (opening shape honest) honest) (length seats)
