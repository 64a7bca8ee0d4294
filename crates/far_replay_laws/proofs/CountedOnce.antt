-- How many of a list, in which each is once, have a property.
use Rattle.std.proofs.Common.{◌≡◌, ◌≢◌, ℕ, zero, suc, ◌<◌, arith, Bool, true, sym, refl, ap, subst, ◌∙◌, List, [], ◌∷◌, length, filter, take, drop, eqb, inl, inr}
use Rattle.std.specs.Prelude.{◌⊎◌, Contains, count_by}
use Rattle.std.specs.List.{AllByRecursion}
use Rattle.std.proofs.lemmas.Bool.{cond_both, cases_eq, eqb-true, eq-eqb}
use Rattle.std.proofs.lemmas.List.Sums.{length-filter}
use Rattle.far_log.proofs.Members.{here, there, split, none_in}
use Rattle.far_evac.specs.LiveLaws.{IsInTurn}
use Rattle.far_evac.specs.RoundSteps.{among}
use Rattle.far_evac.proofs.Bools.{or_left, or_right}
use Rattle.far_evac.proofs.Fronts.{kept_in}
use Rattle.far_evac.proofs.Lacking.{Once}
use Rattle.far_evac.proofs.Counted.{distinct_of}
pub use Rattle.far_evac.proofs.Lacking.{all_at, once_filter}
use Rattle.far_evac.proofs.Marks.{all_filter, all_take}
use Rattle.far_evac.proofs.Onward.{or_split}
use Rattle.far_replay_laws.specs.HowMany.{IsHowMany}

-- ---- who is in a list
pub member_or_apart : (k : ℕ) (xs : List ℕ) → Contains xs k ⊎ AllByRecursion (λ q. q ≢ k) xs
member_or_apart k [] = inr tt
member_or_apart k (x ∷ xs) = elim (cases_eq x k) [
  | inl e ↦ inl (subst (λ y. Contains (y ∷ xs) k) (sym e) (here k xs))
  | inr ne ↦ elim (member_or_apart k xs) [ inl c ↦ inl (there k x xs c) | inr apart ↦ inr (ne, apart) ]
]

pub among_in : (l : ℕ) (ls : List ℕ) → among ls l ≡ true → Contains ls l
among_in l [] h = absurd cc
among_in l (k ∷ ks) h = elim (or_split (eqb l k) (among ks l) h) [
  | inl e ↦ subst (λ j. Contains (j ∷ ks) l) (eqb-true l k e) (here l ks)
  | inr more ↦ there l k ks (among_in l ks more)
]

pub in_among : (l : ℕ) (ls : List ℕ) → Contains ls l → among ls l ≡ true
in_among l [] h = absurd (none_in l h)
in_among l (k ∷ ks) h = elim (split l k ks h) [
  | inl e ↦ or_left (eqb l k) (among ks l) (eq-eqb l k (sym e))
  | inr more ↦ or_right (eqb l k) (among ks l) (in_among l ks more)
]

pub front_or_rest : (n k : ℕ) (xs : List ℕ) → Contains xs k → Contains (take n xs) k ⊎ Contains (drop n xs) k
front_or_rest zero k xs h = inr h
front_or_rest (suc n) k [] h = absurd (none_in k h)
front_or_rest (suc n) k (x ∷ xs) h = elim (split k x xs h) [
  | inl e ↦ inl (subst (λ y. Contains (y ∷ take n xs) k) (sym e) (here k (take n xs)))
  | inr more ↦ elim (front_or_rest n k xs more) [ inl c ↦ inl (there k x (take n xs) c) | inr c ↦ inr c ]
]

pub in_front : (n k : ℕ) (xs : List ℕ) → Contains (take n xs) k → Contains xs k
in_front zero k xs h = absurd (none_in k h)
in_front (suc n) k [] h = h
in_front (suc n) k (x ∷ xs) h = elim (split k x (take n xs) h) [
  | inl e ↦ subst (λ y. Contains (y ∷ xs) k) (sym e) (here k xs)
  | inr more ↦ there k x xs (in_front n k xs more)
]

pub in_rest : (n k : ℕ) (xs : List ℕ) → Contains (drop n xs) k → Contains xs k
in_rest zero k xs h = h
in_rest (suc n) k [] h = h
in_rest (suc n) k (x ∷ xs) h = there k x xs (in_rest n k xs h)

pub filtered : (f : ℕ → Bool) (xs : List ℕ) (k : ℕ) → Contains (filter f xs) k → Contains xs k × (f k ≡ true)
filtered f [] k c = absurd (none_in k c)
filtered f (x ∷ xs) k c = cond_both (f x) (x ∷ filter f xs) (filter f xs) (λ (ys : List ℕ). Contains ys k → Contains (x ∷ xs) k × (f k ≡ true))
    (λ yes h. elim (split k x (filter f xs) h) [
      | inl e ↦ (subst (λ y. Contains (y ∷ xs) k) (sym e) (here k xs), ap f (sym e) ∙ yes)
      | inr more ↦ let rest = filtered f xs k more in (there k x xs rest.0, rest.1)
    ])
    (λ _ h. let rest = filtered f xs k h in (there k x xs rest.0, rest.1)) c

-- ---- lists in which each is once
pub once_take : (n : ℕ) (xs : List ℕ) → Once xs → Once (take n xs)
once_take zero xs h = tt
once_take (suc n) [] h = tt
once_take (suc n) (x ∷ xs) h = (all_take (λ q. q ≢ x) n xs h.0, once_take n xs h.1)

-- of more than n there is one that isn't among the first n
pub beyond : (n : ℕ) (xs : List ℕ) → n < length xs → Once xs → (p : ℕ) × Contains xs p × AllByRecursion (λ q. q ≢ p) (take n xs)
beyond zero [] lt h = absurd (omega (arith, lt))
beyond zero (x ∷ xs) lt h = (x, here x xs, tt)
beyond (suc n) [] lt h = absurd (omega (arith, lt))
beyond (suc n) (x ∷ xs) lt h =
    let (p, member, apart) = beyond n xs (omega (arith, lt)) h.1 in
    let other : p ≢ x = all_at (λ q. q ≢ x) p xs h.0 member in
    (p, there p x xs member, ((λ e. other (sym e)), apart))

-- ---- counts
pub how_many_in : (P : ℕ → Type 0) (xs : List ℕ) → Once xs → ((k : ℕ) → Contains xs k → P k) → ((k : ℕ) → P k → Contains xs k) → IsHowMany P (length xs)
how_many_in P xs once sound whole = (xs, refl, distinct_of xs once, λ k. (sound k, whole k))

pub how_many_of : (P : ℕ → Type 0) (f : ℕ → Bool) (xs : List ℕ) → Once xs → ((k : ℕ) → Contains xs k → f k ≡ true → P k) → ((k : ℕ) → P k → Contains xs k × (f k ≡ true)) → IsHowMany P (count_by f xs)
how_many_of P f xs once sound whole = (
  filter f xs,
  length-filter f xs,
  distinct_of (filter f xs) (once_filter f xs once),
  λ k. ((λ c. let h = filtered f xs k c in sound k h.0 h.1), (λ h. let x = whole k h in kept_in f k xs x.1 x.0)),
)

-- ---- lists in which each comes before those after it
pub turn_filter : (First : ℕ → ℕ → Type 0) (f : ℕ → Bool) (xs : List ℕ) → IsInTurn First xs → IsInTurn First (filter f xs)
turn_filter First f [] h = tt
turn_filter First f (x ∷ xs) h = cond_both (f x) (x ∷ filter f xs) (filter f xs) (IsInTurn First) (λ _. (all_filter (First x) f xs h.0, turn_filter First f xs h.1)) (λ _. turn_filter First f xs h.1)

-- the first n come before all others
pub turn_split : (First : ℕ → ℕ → Type 0) (n : ℕ) (xs : List ℕ) (p q : ℕ) → IsInTurn First xs → Contains (take n xs) p → Contains (drop n xs) q → First p q
turn_split First zero xs p q h front rest = absurd (none_in p front)
turn_split First (suc n) [] p q h front rest = absurd (none_in p front)
turn_split First (suc n) (x ∷ xs) p q h front rest = elim (split p x (take n xs) front) [
  | inl e ↦ subst (λ y. First y q) e (all_at (First x) q xs h.0 (in_rest n q xs rest))
  | inr more ↦ turn_split First n xs p q h.1 more rest
]
