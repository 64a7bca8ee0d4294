-- A DROP was found, and the object is retired.
use Rattle.std.proofs.Common.{◌≡◌, ℕ, true, refl, ap, subst, ◌∙◌}
use Rattle.far_word.specs.Pointer.{read_of}
use Rattle.far_events.specs.events.Naming.{is_dropped}
use Rattle.far_events.specs.state.State.{State}
use Rattle.far_events.proofs.Put.{put_same}
use Rattle.far_hand.specs.Finds.{Finds}
use Rattle.far_hand.specs.Known.{Forgets, IsKnown, KeepsKnown}
use Rattle.far_book.specs.book.Dealing.{FindsDrop, IsRetired, LeavesSpans}
use Rattle.far_book.specs.book.Effects.{retired, with_free_cell}
use Rattle.far_book.specs.book.Renaming.{seen}
use Rattle.far_book.proofs.region.Calls.{put_put}
use Rattle.far_book.proofs.region.Retires.{retired_is}

-- where nothing was written, spans are left too
pub spans_left : (s t : State) → t ≡ record s { word = t.word } → KeepsKnown s t → LeavesSpans s t
spans_left s t is k = record { is = is; known = λ a _ old now. k.known a old now; headers = λ a begun. k.headers a (ap (λ (x : State). x.starts a) is ∙ begun) }

-- in u the word w was found in p's cell; t is u once the cell was freed
module _ (still : Type 0) (s u t : State) (p w : ℕ) (finds : Finds (s.cell p) w) (dropped : is_dropped (read_of w) ≡ true) (left : LeavesSpans (seen s p w) u)
    (kept : t ≡ record (retired u p) { word = t.word }) (forgot : Forgets u t) where
  here : u.cell p ≡ w
  here = ap (λ (x : State). x.cell p) left.is ∙ put_same s.cell p w p refl

  pub free_is : t ≡ record (with_free_cell s p) { word = t.word }
  free_is = kept ∙ ap (λ (x : State). record x { word = t.word }) (retired_is u p (ap (λ v. is_dropped (read_of v)) here ∙ dropped))
      ∙ ap (λ (x : State). record (with_free_cell x p) { word = t.word }) left.is ∙ (λ i. record s { cell = put_put s.cell p w 0 i; word = t.word })

  free_leaves : LeavesSpans (with_free_cell s p) t
  free_leaves = record {
    is = free_is;
    known = λ a inside old now. let same = forgot.known a now in same ∙ left.known a inside old (subst IsKnown same now);
    headers = λ a begun. forgot.headers a (ap (λ (x : State). x.starts a) free_is ∙ begun) ∙ left.headers a begun;
  }

  pub retired_by : (still → is_dropped (read_of (s.cell p)) ≡ true) → (still → t ≡ retired s p) → IsRetired still s t p
  retired_by asked exact = record { word = w; found = finds; dropped = dropped; leaves = free_leaves; asked = asked; exact = exact }

-- the same of a word that stands in the cell
pub gone : (still : Type 0) (s u t : State) (p : ℕ) → FindsDrop s u p → t ≡ record (retired u p) { word = t.word } → Forgets u t → (still → is_dropped (read_of (s.cell p)) ≡ true) → (still → t ≡ retired s p) →
    IsRetired still s t p
gone still s u t p x kept forgot = retired_by still s u t p (u.cell p) x.found x.dropped x.leaves kept forgot
