-- What a naming does to what is stored, by its form.
use Rattle.std.proofs.Common.{◌≡◌, ℕ, Bool, cond, Option, Some, None, sym, ap, subst, inl, inr}
use Rattle.std.proofs.lemmas.Bool.{eq-eqb}
use Rattle.std.specs.Option.{ForSome}
use Rattle.far_word.specs.declared.pointer.Place.{Place}
use Rattle.far_word.specs.Pointer.{read_of}
use Rattle.far_events.specs.declared.event.Event.TheVariants.{Name}
use Rattle.far_events.specs.declared.memory.stored_rows.StoredRows.{StoredRows}
use Rattle.far_events.specs.events.Name.{after_naming}
use Rattle.far_events.specs.events.Naming.{naming_of}
use Rattle.far_events.specs.events.Next.{next_state}
use Rattle.far_events.specs.events.Step.{after}
use Rattle.far_events.specs.state.State.{State}
use Rattle.far_events.specs.state.Stored.{RowsAre}
use Rattle.far_events.proofs.MadeNamings.{ComesNear}

pub name_won : (s : State) (p old new : ℕ) → s.cell p ≡ old → next_state s (Name p old new) ≡ after_naming s p new (naming_of (read_of old) (read_of new))
unfolding next_state
name_won s p old new e = ap (λ (b : Bool). cond b (after_naming s p new (naming_of (read_of old) (read_of new))) s) (eq-eqb (s.cell p) old e)

-- what comes near stores nothing
pub near_stored : (s t : State) (p new : ℕ) (place : Place) → ComesNear s p new place t → t.stored ≡ s.stored
near_stored s t p new place came = elim came.where_to [
  | inl takes ↦ ap (λ (u : State). u.stored) takes.after
  | inr (inl stays) ↦ ap (λ (u : State). u.stored) stays.after
  | inr (inr named) ↦ ap (λ (u : State). u.stored) named.after
]

pub rows_stay : (n : ℕ) (f g : ℕ → ℕ → ℕ) (rows : StoredRows) → g ≡ f → RowsAre n f rows → RowsAre n g rows
rows_stay n f g rows e are = subst (λ h. RowsAre n h rows) (sym e) are

-- and those of an object that a naming sends far were stored
abbrev some_of : StoredRows → Option StoredRows → StoredRows
some_of d None = d
some_of d (Some x) = x

pub some_is : (P : StoredRows → Type 0) (rows : StoredRows) → P rows → ForSome (Some rows) P
some_is P rows are = λ x same. subst P (ap (some_of rows) same) are
