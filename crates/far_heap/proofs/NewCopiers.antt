-- The copiers of a new heap.
use Rattle.std.proofs.Common.{◌≡◌, ℕ, false, ◌+◌, ◌<◌, zero, suc, None, List, [], ◌∷◌, ◌++◌, length, map, refl, sym, ap, subst, ◌∙◌, arith}
use Rattle.std.specs.Prelude.{remove, slice_index_or}
use Rattle.std.specs.List.{range_with_len}
use Rattle.std.proofs.lemmas.List.FromFn.{length-map-range_with_len}
use Rattle.atomic_table.specs.Seated.{TableId}
use Rattle.far_word.specs.declared.sizes.TheConstants.{MOST_COPIERS}
use Rattle.far_events.specs.declared.shape.Shape.{Shape}
use Rattle.far_events.specs.state.Opening.{opening}
use Rattle.far_events.specs.state.State.{State}
use Rattle.far_table.specs.First.{first_copier}
use Rattle.far_table.specs.Seats.{CopierSeated}
use Rattle.far_table.specs.Stands.{CopierSeats}
use Rattle.far_heap.specs.Copiers.{AreFree}

-- ---- as they are shared
module _ (table : TableId) (s : State) (none : (c : ℕ) → s.copying.task c ≡ None) where
  all_free : (n first : ℕ) → AreFree table first (map (λ c. record { table = table; view = first_copier s c }) (range_with_len first n))
  all_free zero first = tt
  all_free (suc n) first = (refl, refl, none first, all_free n (first + 1))

  pub shared_free : (seats : List CopierSeated) → seats ≡ CopierSeats table (first_copier s) MOST_COPIERS → AreFree table 0 seats
  shared_free seats is = subst (AreFree table 0) (sym is) (all_free MOST_COPIERS 0)

  pub shared_many : (seats : List CopierSeated) → seats ≡ CopierSeats table (first_copier s) MOST_COPIERS → length seats ≡ MOST_COPIERS
  shared_many seats is = ap length is ∙ length-map-range_with_len {X = CopierSeated} (λ c. record { table = table; view = first_copier s c }) 0 MOST_COPIERS

-- no copier of a new core has a job
pub none_at_work : (s : State) (shape : Shape) → s ≡ opening shape false → (c : ℕ) → s.copying.task c ≡ None
none_at_work s shape is c = ap (λ (t : State). t.copying.task c) is

-- ---- the first is taken
pub first_free : (table : TableId) (n : ℕ) (seats : List CopierSeated) (x : CopierSeated) → AreFree table n seats → 0 < length seats → x ≡ slice_index_or seats 0 x →
    (x.table ≡ table) × (x.view.number ≡ n) × (x.view.task ≡ None) × AreFree table (n + 1) (remove seats 0)
first_free table n [] x free some is = absurd (omega (arith, some))
first_free table n (y ∷ ys) x free some is = subst (λ (z : CopierSeated). (z.table ≡ table) × (z.view.number ≡ n) × (z.view.task ≡ None) × AreFree table (n + 1) ys) (sym is) free

-- one more, by the next number
pub one_more : (table : TableId) (first n : ℕ) (xs : List CopierSeated) (x : CopierSeated) → AreFree table first xs → x.table ≡ table → x.view.number ≡ n → n ≡ first + length xs → x.view.task ≡ None →
    AreFree table first (xs ++ x ∷ [])
one_more table first n [] x free here number next none = (here, omega arith, none, tt)
one_more table first n (y ∷ ys) x free here number next none = (free.0, free.1, free.2, one_more table (first + 1) n ys x free.3 here number (omega (arith, next)) none)
