-- What a row of words tells that is loaded or stored by one call: each word was one event.
use Rattle.std.specs.Prelude.{◌≡◌, ◌+◌, ◌<◌, ℕ, zero, suc}
use Rattle.far_events.specs.declared.event.Event.TheVariants.{Load, Store}
use Rattle.far_events.specs.declared.event.Reply.TheVariants.{Done, Word}
use Rattle.far_table.specs.View.{OwnerView}
use Rattle.far_table.specs.Tells.{OwnerMade}
use Rattle.far_table.specs.Views.{stored_view}

-- the first n words of a row were loaded, one event each, of an object from word `first` on
abbrev pub LoadedEach : ℕ → ℕ → (ℕ → ℕ) → ℕ → OwnerView → Type 0
LoadedEach p first row n o = (i : ℕ) → i < n → OwnerMade (Load o.number p (first + i)) o (Word (row i)) o

-- the view once the first n words of a row are stored one after the other
abbrev pub row_view : ℕ → ℕ → (ℕ → ℕ) → ℕ → OwnerView → OwnerView
row_view p first row zero o = o
row_view p first row (suc n) o = stored_view p (first + n) (row n) (row_view p first row n o)

-- the first n words of a row were stored, one event each, from the view that the one before had left; the last left the view o'
pub record StoredEach (p first : ℕ) (row : ℕ → ℕ) (n : ℕ) (o o' : OwnerView) : Type 0 where
  pub each : (i : ℕ) → i < n → OwnerMade (Store o.number p (first + i) (row i)) (row_view p first row i o) Done (row_view p first row (suc i) o)
  pub last : o' ≡ row_view p first row n o
