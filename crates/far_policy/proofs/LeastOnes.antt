-- The rows of least live bytes: sorted rows begin with them, and they are one list.
use Rattle.std.proofs.Common.{◌≡◌, ◌≢◌, ℕ, suc, ◌<◌, ◌==◌, ◌&&◌, ◌||◌, true, false, nat_lt, eqb, List, [], ◌∷◌, length, take, min, get_or, refl, ap, sym, subst, ◌∙◌, arith, inl, inr, ◌⊎◌, AllPairs, Contains, IsPermutation, IsSortedByKey}
use Rattle.std.specs.List.{IsDistinct, AllByRecursion}
use Rattle.std.specs.Ordering.{is_lt, nat_cmp, ordering_then}
use Rattle.std.proofs.lemmas.Bool.{cond_both, eqb-false}
use Rattle.std.proofs.lemmas.Bool.Decides.{nat_tests}
use Rattle.std.proofs.lemmas.Cmp.{nat_cmp_total, then_total, on_total, nat_eq_equiv}
use Rattle.std.proofs.lemmas.List.{length-take, length-map, get_or-map}
use Rattle.std.proofs.lemmas.List.Sorted.{length_permutation, Contains-permutation, IsPermutation-sym, IsPermutation-map, ranks_by, sorted_far}
use Rattle.std.proofs.lemmas.Map.Keys.{apart_from_distinct, IsDistinct-IsPermutation, IsDistinct-head, IsDistinct-tail}
use Rattle.far_log.proofs.Members.{here, there, split, none_in}
use Rattle.far_log.specs.declared.row.LogRow.{LogRow}
use Rattle.far_policy.proofs.Ranking.{IsLeast, ordered_head, ordered_tail, ordered_more, front_least, least_same}
use Rattle.far_policy.specs.LeastLive.{GoesBefore, TakesLeast, goes_before, with_row, ranked, least_live}
use Rattle.far_policy.specs.Logs.{logs_of, AreRows}

-- ---- the order
never_before : (r : LogRow) → GoesBefore r r → ⊥
never_before r (inl less) = omega arith
never_before r (inr same) = omega (arith, same.1)

before_through : (r s t : LogRow) → GoesBefore r s → GoesBefore s t → GoesBefore r t
before_through r s t (inl a) (inl b) = inl (omega arith)
before_through r s t (inl a) (inr b) = inl (omega (arith, b.0))
before_through r s t (inr a) (inl b) = inl (omega (arith, a.0))
before_through r s t (inr a) (inr b) = inr (a.0 ∙ b.0, omega (arith, a.1, b.1))

-- the test says it
tested_before : (a b c d : ℕ) → (nat_lt a b || ((a == b) && nat_lt c d)) ≡ true → (a < b) ⊎ ((a ≡ b) × (c < d))
tested_before a b c d h = grind (arith, nat_tests)

tested_behind : (a b c d : ℕ) → (nat_lt a b || ((a == b) && nat_lt c d)) ≡ false → c ≢ d → (b < a) ⊎ ((b ≡ a) × (d < c))
tested_behind a b c d h ne = grind (arith, nat_tests)

-- a row that isn't below another by live bytes and then by number
not_below : (a b c d : ℕ) → is_lt (ordering_then (nat_cmp a b) (nat_cmp c d)) ≡ false → c ≢ d → (b < a) ⊎ ((b ≡ a) × (d < c))
not_below a b c d h ne = grind (arith, nat_tests)

-- ---- the list of the order is the least list

least_from_takes : (rows taken : List LogRow) (most : ℕ) → TakesLeast rows most taken → IsLeast GoesBefore (Contains rows) taken
least_from_takes rows taken most takes = record { ordered = takes.ordered; members = takes.members; least = takes.least }

-- there is one
pub least_is_one_lem : (rows : List LogRow) (most : ℕ) (taken others : List LogRow) → TakesLeast rows most taken → TakesLeast rows most others → taken ≡ others
least_is_one_lem rows most taken others one other =
    least_same GoesBefore never_before before_through (Contains rows) taken others (one.count ∙ sym other.count) (least_from_takes rows taken most one) (least_from_takes rows others most other)

-- the front of rows that are in order, where these are the rows
front_takes : (rows sorted : List LogRow) (most : ℕ) → AllPairs GoesBefore sorted → length sorted ≡ length rows → ((row : LogRow) → Contains sorted row → Contains rows row) → ((row : LogRow) → Contains rows row → Contains sorted row) → TakesLeast rows most (take most sorted)
front_takes rows sorted most ordered long to from =
    let front : IsLeast GoesBefore (Contains sorted) (take most sorted) = front_least GoesBefore most sorted ordered in
    record {
      count = length-take most sorted ∙ ap (min most) long;
      ordered = front.ordered;
      members = λ row h. to row (front.members row h);
      least = λ row h. front.least row (from row h);
    }

-- ---- rows that a sort has put in order

-- different logs, by places
logs_differ : (rows : List LogRow) → IsDistinct eqb (logs_of rows) → (i j : ℕ) (d : LogRow) → i < j → j < length rows → (get_or rows i d).log ≢ (get_or rows j d).log
logs_differ rows once i j d lt le =
    let log = λ (row : LogRow). row.log in
    let long = length-map rows log in
    let apart : eqb (get_or (logs_of rows) i 0) (get_or (logs_of rows) j 0) ≡ false = apart_from_distinct eqb (logs_of rows) i j 0 once lt (omega arith) in
    let first : get_or (logs_of rows) i 0 ≡ (get_or rows i d).log = get_or-map log rows i d 0 (omega arith) in
    let second : get_or (logs_of rows) j 0 ≡ (get_or rows j d).log = get_or-map log rows j d 0 le in
    λ same. eqb-false _ _ apart (first ∙ same ∙ sym second)

pub sorted_takes : (rows sorted : List LogRow) (most : ℕ) → AreRows rows → IsPermutation rows sorted → IsSortedByKey (λ (row : LogRow). (row.live, row.log)) (λ (x y : ℕ × ℕ). ordering_then (nat_cmp x.0 y.0) (nat_cmp x.1 y.1)) sorted → TakesLeast rows most (take most sorted)
sorted_takes rows sorted most are moved up =
    let log = λ (row : LogRow). row.log in
    let once : IsDistinct eqb (logs_of sorted) = IsDistinct-IsPermutation eqb nat_eq_equiv.symm (logs_of rows) (logs_of sorted) (IsPermutation-map log rows sorted moved) are.once in
    let ordered : AllPairs GoesBefore sorted = λ i j d lt le.
    not_below (get_or sorted j d).live (get_or sorted i d).live (get_or sorted j d).log (get_or sorted i d).log
    (sorted_far _ (ranks_by (then_total (on_total (λ (x : ℕ × ℕ). x.0) nat_cmp_total) (on_total (λ (x : ℕ × ℕ). x.1) nat_cmp_total)) (λ (row : LogRow). (row.live, row.log))) sorted up i j d (omega arith) le)
    (λ same. logs_differ sorted once i j d lt le (sym same)) in
    front_takes rows sorted most ordered (length_permutation rows sorted moved) (λ row h. Contains-permutation sorted rows row (IsPermutation-sym rows sorted moved) h) (λ row h. Contains-permutation rows sorted row moved h)

-- ---- rows that are put in order one by one
length_more : (row : LogRow) (rows : List LogRow) → length (with_row row rows) ≡ suc (length rows)
length_more row [] = refl
length_more row (other ∷ rows) = cond_both (goes_before row other) (row ∷ other ∷ rows) (other ∷ with_row row rows) (λ (xs : List LogRow). length xs ≡ suc (suc (length rows))) (λ _. refl) (λ _. ap suc (length_more row rows))

long_ranked : (rows : List LogRow) → length (ranked rows) ≡ length rows
long_ranked [] = refl
long_ranked (row ∷ rows) = length_more row (ranked rows) ∙ ap suc (long_ranked rows)

out_of_more : (row : LogRow) (rows : List LogRow) (x : LogRow) → Contains (with_row row rows) x → (row ≡ x) ⊎ Contains rows x
out_of_more row [] x = λ h. split x row [] h
out_of_more row (other ∷ rows) x = cond_both (goes_before row other) (row ∷ other ∷ rows) (other ∷ with_row row rows) (λ (xs : List LogRow). Contains xs x → (row ≡ x) ⊎ Contains (other ∷ rows) x)
    (λ _ h. split x row (other ∷ rows) h)
    (λ _ h. elim (split x other (with_row row rows) h) [
      | inl same ↦ inr (subst (Contains (other ∷ rows)) same (here other rows))
      | inr later ↦ elim (out_of_more row rows x later) [ inl new ↦ inl new | inr old ↦ inr (there x other rows old) ]
    ])

new_in_more : (row : LogRow) (rows : List LogRow) → Contains (with_row row rows) row
new_in_more row [] = here row []
new_in_more row (other ∷ rows) = cond_both (goes_before row other) (row ∷ other ∷ rows) (other ∷ with_row row rows) (λ (xs : List LogRow). Contains xs row)
    (λ _. here row (other ∷ rows)) (λ _. there row other (with_row row rows) (new_in_more row rows))

old_in_more : (row : LogRow) (rows : List LogRow) (x : LogRow) → Contains rows x → Contains (with_row row rows) x
old_in_more row [] x h = absurd (none_in x h)
old_in_more row (other ∷ rows) x h = cond_both (goes_before row other) (row ∷ other ∷ rows) (other ∷ with_row row rows) (λ (xs : List LogRow). Contains xs x)
    (λ _. there x row (other ∷ rows) h)
    (λ _. elim (split x other rows h) [
      | inl same ↦ subst (Contains (other ∷ with_row row rows)) same (here other (with_row row rows))
      | inr later ↦ there x other (with_row row rows) (old_in_more row rows x later)
    ])

from_ranked : (rows : List LogRow) (x : LogRow) → Contains (ranked rows) x → Contains rows x
from_ranked [] x h = h
from_ranked (row ∷ rows) x h = elim (out_of_more row (ranked rows) x h) [
  | inl same ↦ subst (Contains (row ∷ rows)) same (here row rows)
  | inr old ↦ there x row rows (from_ranked rows x old)
]

to_ranked : (rows : List LogRow) (x : LogRow) → Contains rows x → Contains (ranked rows) x
to_ranked [] x h = h
to_ranked (row ∷ rows) x h = elim (split x row rows h) [
  | inl same ↦ subst (Contains (with_row row (ranked rows))) same (new_in_more row (ranked rows))
  | inr later ↦ old_in_more row (ranked rows) x (to_ranked rows x later)
]

-- a row of another log keeps the order
ordered_with : (row : LogRow) (rows : List LogRow) → ((x : LogRow) → Contains rows x → row.log ≢ x.log) → AllPairs GoesBefore rows → AllPairs GoesBefore (with_row row rows)
ordered_with row [] apart ordered = ordered_more GoesBefore row [] (λ z h. absurd (none_in z h)) ordered
ordered_with row (other ∷ rows) apart ordered = cond_both (goes_before row other) (row ∷ other ∷ rows) (other ∷ with_row row rows) (AllPairs GoesBefore)
    (λ says. let first : GoesBefore row other = tested_before row.live other.live row.log other.log says in
    ordered_more GoesBefore row (other ∷ rows) (λ z h. elim (split z other rows h) [
      | inl same ↦ subst (GoesBefore row) same first
      | inr later ↦ before_through row other z first (ordered_head GoesBefore other rows ordered z later)
    ]) ordered)
    (λ says. let first : GoesBefore other row = tested_behind row.live other.live row.log other.log says (apart other (here other rows)) in
    ordered_more GoesBefore other (with_row row rows) (λ z h. elim (out_of_more row rows z h) [
      | inl same ↦ subst (GoesBefore other) same first
      | inr old ↦ ordered_head GoesBefore other rows ordered z old
    ]) (ordered_with row rows (λ x h. apart x (there x other rows h)) (ordered_tail GoesBefore other rows ordered)))

-- no row has a log that no key is equal to
apart_logs : (l : ℕ) (rows : List LogRow) → AllByRecursion (λ y. eqb l y ≡ false) (logs_of rows) → (x : LogRow) → Contains rows x → l ≢ x.log
apart_logs l [] apart x h = absurd (none_in x h)
apart_logs l (row ∷ rows) apart x h = elim (split x row rows h) [
  | inl same ↦ subst (λ (z : LogRow). l ≢ z.log) same (eqb-false l row.log apart.0)
  | inr later ↦ apart_logs l rows apart.1 x later
]

ordered_ranked : (rows : List LogRow) → IsDistinct eqb (logs_of rows) → AllPairs GoesBefore (ranked rows)
ordered_ranked [] once = λ i j d lt le. absurd (omega arith)
ordered_ranked (row ∷ rows) once = ordered_with row (ranked rows)
    (λ x h. apart_logs row.log rows (IsDistinct-head eqb row.log (logs_of rows) once) x (from_ranked rows x h))
    (ordered_ranked rows (IsDistinct-tail eqb row.log (logs_of rows) once))

pub least_is_there : (rows : List LogRow) (most : ℕ) → AreRows rows → TakesLeast rows most (least_live rows most)
least_is_there rows most are = front_takes rows (ranked rows) most (ordered_ranked rows are.once) (long_ranked rows) (from_ranked rows) (to_ranked rows)
