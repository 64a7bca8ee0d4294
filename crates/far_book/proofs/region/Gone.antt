-- The sealed logs of a list, some of whose logs are gone.
use Rattle.std.proofs.Common.{◌≡◌, ◌∙◌, ℕ, ◌+◌, ◌<◌, ◌≤◌, Bool, true, false, cond, arith, ap, refl, sym, List, [], ◌∷◌, ◌++◌, map, take, length}
use Rattle.std.specs.Prelude.{◌==◌, ◌||◌, not, slice_index_or}
use Rattle.std.proofs.lemmas.List.{append-nil, length-map, length-take-le, take_more, map_push}
use Rattle.std.proofs.lemmas.List.Elements.{filter-append}
use Rattle.std.proofs.lemmas.List.Filters.{length-filter_both}
use Rattle.far_log.specs.declared.row.LogRow.{LogRow}
use Rattle.far_events.specs.state.State.{State}
use Rattle.far_book.specs.declared.number_set.NumberSet.{NumberSet}
use Rattle.far_book.specs.book.NumberSet.{has}
use Rattle.far_book.specs.book.Order.{still_in}
use Rattle.far_book.specs.book.Releasing.{order_without}
use Rattle.far_book.specs.book.Rows.{row_of}

-- where none is gone, all are left
pub all_still : (gone : NumberSet) → ((k : ℕ) → has gone k ≡ false) → (listed : List ℕ) → still_in gone listed ≡ listed
all_still gone none [] = refl
all_still gone none (x ∷ xs) = ap (λ b. cond (not b) (x ∷ still_in gone xs) (still_in gone xs)) (none x) ∙ ap (λ rest. x ∷ rest) (all_still gone none xs)

-- one more is gone
without : (log x : ℕ) (one two : List ℕ) → one ≡ order_without log two → (g l : Bool) → (x == log) ≡ l → cond (not (l || g)) (x ∷ one) one ≡ order_without log (cond (not g) (x ∷ two) two)
without log x one two rest true true e = rest
without log x one two rest true false e = rest
without log x one two rest false true e = rest ∙ sym (ap (λ b. cond (not b) (x ∷ order_without log two) (order_without log two)) e)
without log x one two rest false false e = ap (λ ys. x ∷ ys) rest ∙ sym (ap (λ b. cond (not b) (x ∷ order_without log two) (order_without log two)) e)

pub gone_more : (gone more : NumberSet) (log : ℕ) → ((k : ℕ) → has more k ≡ ((k == log) || has gone k)) → (listed : List ℕ) → still_in more listed ≡ order_without log (still_in gone listed)
gone_more gone more log adds [] = refl
gone_more gone more log adds (x ∷ xs) = ap (λ b. cond (not b) (x ∷ still_in more xs) (still_in more xs)) (adds x)
    ∙ without log x (still_in more xs) (still_in gone xs) (gone_more gone more log adds xs) (has gone x) (x == log) refl

-- those that are left are no more than those that are listed
pub still_few : (gone : NumberSet) (xs : List ℕ) → length (still_in gone xs) ≤ length xs
still_few gone xs = omega (arith, length-filter_both (λ l. not (has gone l)) (λ l. not (not (has gone l))) (λ _. refl) xs)

-- one element more of a list was put behind those before it
pub taken_more : {X : Type 0} (xs : List X) (i : ℕ) (d : X) (old new : List X) → i < length xs → old ≡ take i xs → new ≡ old ++ slice_index_or xs i d ∷ [] → new ≡ take (i + 1) xs
taken_more xs i d old new lt is more = more ∙ ap (λ ys. ys ++ slice_index_or xs i d ∷ []) is ∙ sym (take_more xs i d lt)

-- ---- a row for each that is left
module _ (s : State) (gone : NumberSet) (xs : List ℕ) (i : ℕ) (lt : i < length xs) where
  abbrev x : ℕ
  x = slice_index_or xs i 0

  next : still_in gone (take (i + 1) xs) ≡ still_in gone (take i xs) ++ cond (not (has gone x)) (x ∷ []) []
  next = ap (still_in gone) (take_more xs i 0 lt) ∙ filter-append (λ l. not (has gone l)) (take i xs) (x ∷ [])

  pub rows_kept : has gone x ≡ false → (row : LogRow) → row ≡ row_of s x → map (row_of s) (still_in gone (take i xs)) ++ row ∷ [] ≡ map (row_of s) (still_in gone (take (i + 1) xs))
  rows_kept stays row e = ap (λ r. map (row_of s) (still_in gone (take i xs)) ++ r ∷ []) e
      ∙ sym (ap (map (row_of s)) (next ∙ ap (λ b. still_in gone (take i xs) ++ cond (not b) (x ∷ []) []) stays) ∙ map_push (row_of s) (still_in gone (take i xs)) x)

  pub rows_gone : has gone x ≡ true → map (row_of s) (still_in gone (take i xs)) ≡ map (row_of s) (still_in gone (take (i + 1) xs))
  rows_gone away = ap (map (row_of s)) (sym (next ∙ ap (λ b. still_in gone (take i xs) ++ cond (not b) (x ∷ []) []) away ∙ append-nil (still_in gone (take i xs))))

  pub rows_few : length (map (row_of s) (still_in gone (take i xs))) ≤ i
  rows_few = omega (arith, length-map (still_in gone (take i xs)) (row_of s), still_few gone (take i xs), length-take-le i xs (omega (arith, lt)))
