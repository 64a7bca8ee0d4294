-- What an owner's calls keep of what is known.
use Rattle.std.proofs.Common.{◌≡◌, ◌+◌, ◌*◌, ◌≤◌, ℕ, Bool, false, cond, List, length, sym, refl, ap, ◌∙◌, subst, arith, Some, None, take}
use Rattle.std.specs.Prelude.{slice_index_or, map}
use Rattle.std.specs.List.{range_with_len}
use Rattle.std.proofs.lemmas.List.FromFn.{get_or-map-range_with_len, length-map-range_with_len, take-map-range_with_len}
use Rattle.atomic_table.specs.Seated.{TableId}
use Rattle.far_word.specs.declared.sizes.TheConstants.{CELLS, MOST_MUTATORS}
use Rattle.far_events.specs.declared.shape.Shape.{Shape}
use Rattle.far_events.specs.state.Opening.{opening}
use Rattle.far_events.specs.state.State.{State}
use Rattle.far_core.specs.world.WorldOf.{world_of}
use Rattle.far_core.proofs.KeepOwner.{closed_word}
use Rattle.far_hand.specs.Masked.{masked}
use Rattle.far_book.specs.book.Own.{HasNoJob, IsAtStart}
use Rattle.far_table.specs.First.{first_owner, open_epoch, seen_object}
use Rattle.far_table.specs.Seats.{Seated}
use Rattle.far_table.specs.Stands.{Seats}
use Rattle.far_table.proofs.FirstViews.{over_within}
use Rattle.tests_owner.specs.Fits.{Fresh, IsNew}

-- ---- seats of a new heap
new_owner : (shape : Shape) (honest : Bool) (m : ℕ) → IsNew (first_owner (opening shape honest) honest m) m
new_owner shape honest m = record {
  number_is = refl;
  scope = ap open_epoch closed_word;
  epoch = refl;
  objects = λ p own. over_within (λ q. cond ((opening shape honest).used q) (seen_object ((world_of (opening shape honest)).object q)) None) (λ _. None) CELLS (CELLS * m) p (omega arith) (omega arith);
  places = λ p own. over_within (opening shape honest).held (λ _. None) CELLS (CELLS * m) p (omega arith) (omega arith);
}

module _ (xs : List Seated) (r : Fresh xs) (k : ℕ) (one : k + 1 ≡ length xs) where
  abbrev f : ℕ → Seated
  f m = record { table = r.table; view = first_owner (opening r.shape r.honest) r.honest m }

  last_is : (d : Seated) → slice_index_or xs k d ≡ f k
  last_is d = ap (λ (z : List Seated). slice_index_or z k d) r.seats_are ∙ get_or-map-range_with_len f 0 (length xs) k k d (omega arith) (omega arith)

  pub new_last : (n : ℕ) → n ≡ k → (x d : Seated) → Some x ≡ Some (slice_index_or xs k d) → IsNew x.view n
  new_last n at x d e = let same : f k ≡ x = sym (last_is d) ∙ cc in
      subst (λ n'. IsNew x.view n') (sym at) (subst (λ (z : Seated). IsNew z.view k) same (new_owner r.shape r.honest k))

  pub left : (ys : List Seated) → ys ≡ take k xs → Fresh ys
  left ys is =
      let fewer : ys ≡ map f (range_with_len 0 k) = is ∙ (ap (take k) r.seats_are ∙ take-map-range_with_len f 0 (length xs) k (omega arith)) in
      let long : length ys ≡ k = ap length fewer ∙ length-map-range_with_len f 0 k in
      let few = r.few in record {
        shape = r.shape;
        honest = r.honest;
        table = r.table;
        few = omega arith;
        seats_are = fewer ∙ ap (λ n. map f (range_with_len 0 n)) (sym long);
      }

pub fresh_seats : (xs : List Seated) (table : TableId) (shape : Shape) (honest : Bool) (s : State) → s ≡ opening shape honest → s.mutators ≤ MOST_MUTATORS → xs ≡ Seats table (first_owner s honest) s.mutators → Fresh xs
fresh_seats xs table shape honest s e few is =
    let long : length xs ≡ s.mutators = ap length is ∙ length-map-range_with_len (λ m. record { table = table; view = first_owner s honest m }) 0 s.mutators in record {
      shape = shape;
      honest = honest;
      table = table;
      few = omega (arith, long, few);
      seats_are = is ∙ (ap (λ (t : State). Seats table (first_owner t honest) s.mutators) e ∙ ap (λ n. Seats table (first_owner (opening shape honest) honest) n) (sym long));
    }

-- what the book's seat knows at the start
abbrev known_at : Bool → State → State
known_at honest s = masked (record s { honest = honest }) s.cell (λ _. false) s.copying.word

pub seat_start : (s v : State) (shape : Shape) (honest : Bool) → s ≡ opening shape honest → v ≡ known_at honest s → IsAtStart v
seat_start s v shape honest e is = subst IsAtStart (sym (is ∙ ap (known_at honest) e)) refl

pub jobs_start : (s v : State) (shape : Shape) (honest : Bool) → s ≡ opening shape honest → v ≡ known_at honest s → HasNoJob v
jobs_start s v shape honest e is = subst HasNoJob (sym (is ∙ ap (known_at honest) e)) (λ _. refl)
