-- The seats of a new heap.
use Rattle.std.proofs.Common.{◌≡◌, ℕ, ◌+◌, ◌<◌, ◌≤◌, zero, suc, Bool, false, List, [], ◌∷◌, length, map, refl, sym, ap, subst, ◌∙◌, arith}
use Rattle.std.specs.Prelude.{remove, slice_index_or}
use Rattle.std.specs.List.{range_with_len}
use Rattle.std.proofs.lemmas.List.FromFn.{length-map-range_with_len}
use Rattle.atomic_table.specs.Seated.{TableId}
use Rattle.far_word.specs.declared.sizes.TheConstants.{MOST_MUTATORS}
use Rattle.far_events.specs.declared.event.Kind.TheVariants.{Free, Open}
use Rattle.far_events.specs.declared.shape.Shape.{Shape}
use Rattle.far_events.specs.state.Opening.{opening}
use Rattle.far_events.specs.state.State.{State}
use Rattle.far_events.proofs.Put.{put_other}
use Rattle.far_table.specs.First.{first_owner}
use Rattle.far_table.specs.Seats.{Seated}
use Rattle.far_table.specs.Stands.{SaysOwner, Seats}
use Rattle.far_heap.specs.Blanks.{AreNew, IsUnused, NewSeats}
use Rattle.far_heap.specs.Mine.{IsNew}
use Rattle.far_hand.specs.Masked.{masked}
use Rattle.far_hand.specs.ShapeOf.{shape_of}
use Rattle.far_book.specs.book.Own.{HasNoJob, IsAtStart}
use Rattle.far_heap.proofs.Newcomers.{new_owner, none_asked, none_soiled}

-- ---- as they are shared
module _ (table : TableId) (s : State) (honest : Bool) (shape : Shape) (opens : s ≡ opening shape false) (says : (m : ℕ) → SaysOwner s honest m (first_owner s honest m)) where
  one_new : (m : ℕ) → IsNew m (first_owner s honest m)
  one_new m = new_owner shape false honest m (first_owner s honest m) (subst (λ (t : State). SaysOwner t honest m (first_owner s honest m)) opens (says m))
      (λ p. none_soiled s honest m p (ap (λ (t : State). t.soiled p) opens)) (λ p. none_asked s honest m p (ap (λ (t : State). t.cell p) opens))

  all_new : (n first : ℕ) → AreNew table honest first (map (λ m. record { table = table; view = first_owner s honest m }) (range_with_len first n))
  all_new zero first = tt
  all_new (suc n) first = (refl, (says first).honesty, one_new first, all_new n (first + 1))

  long : (seats : List Seated) → seats ≡ Seats table (first_owner s honest) s.mutators → length seats ≡ s.mutators
  long seats is = ap length is ∙ length-map-range_with_len (λ m. record { table = table; view = first_owner s honest m }) 0 s.mutators

  pub new_seats : (logs : ℕ) (seats : List Seated) → s.mutators ≤ MOST_MUTATORS → seats ≡ Seats table (first_owner s honest) s.mutators →
      NewSeats (record { table = table; logs = logs; mutators = s.mutators; honest = honest; copying = false }) seats
  new_seats logs seats few is = record {
    many = long seats is;
    few = subst (λ n. n ≤ MOST_MUTATORS) (sym (long seats is)) few;
    are = subst (AreNew table honest 0) (sym is) (all_new s.mutators 0);
  }

-- ---- the first is taken
pub first_new : (table : TableId) (honest : Bool) (n : ℕ) (seats : List Seated) (x : Seated) → AreNew table honest n seats → 0 < length seats → x ≡ slice_index_or seats 0 x →
    (x.table ≡ table) × (x.view.honest ≡ honest) × IsNew n x.view × AreNew table honest (n + 1) (remove seats 0)
first_new table honest n [] x new some is = absurd (omega (arith, some))
first_new table honest n (y ∷ ys) x new some is = subst (λ (z : Seated). (z.table ≡ table) × (z.view.honest ≡ honest) × IsNew n z.view × AreNew table honest (n + 1) ys) (sym is) new

-- nothing lies where the book's part is as at the start
pub none_used : (v : State) → IsAtStart v → IsUnused v
none_used v start = record {
  cells = λ p. ap (λ (s : State). s.cell p) start;
  first = ap (λ (s : State). s.kind 0) start;
  others = λ l some. ap (λ (s : State). s.kind l) start ∙ put_other (λ _. Free) 0 Open l (λ e. omega arith);
  empty = λ l. ap (λ (s : State). s.tail l) start;
  spans = λ a. ap (λ (s : State). s.starts a) start;
  round = λ l. ap (λ (s : State). s.round l) start;
}

-- what the book's seat knows at the start
abbrev known_at : Bool → State → State
known_at honest s = masked (record s { honest = honest }) s.cell (λ _. false) s.copying.word

pub shape_start : (s v : State) (shape : Shape) (honest : Bool) → s ≡ opening shape false → v ≡ known_at honest s → shape_of v ≡ shape
shape_start s v shape honest e is = ap shape_of (is ∙ ap (known_at honest) e)

pub seat_start : (s v : State) (shape : Shape) (honest : Bool) → s ≡ opening shape false → v ≡ known_at honest s → IsAtStart v
seat_start s v shape honest e is = subst IsAtStart (sym (is ∙ ap (known_at honest) e)) refl

pub jobs_start : (s v : State) (shape : Shape) (honest : Bool) → s ≡ opening shape false → v ≡ known_at honest s → HasNoJob v
jobs_start s v shape honest e is = subst HasNoJob (sym (is ∙ ap (known_at honest) e)) (λ _. refl)
