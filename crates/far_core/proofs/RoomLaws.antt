-- Room: the first of the free logs, and what is left behind it.
use Rattle.std.proofs.Common.{◌≢◌, ◌≡◌, ℕ, zero, suc, ◌+◌, ◌-◌, ◌<◌, ◌≤◌, Bool, true, false, nat_le, arith, sym, refl, ap, subst, ◌∙◌, Some, List, [], ◌∷◌, filter, inl, inr}
use Rattle.std.specs.List.{range_with_len}
use Rattle.std.proofs.lemmas.Bool.{cond_both, false≢true, cases_lt}
use Rattle.std.proofs.lemmas.Bool.Decides.{nat_tests}
use Rattle.far_word.specs.declared.sizes.TheConstants.{LOG_WORDS}
use Rattle.far_events.specs.declared.event.Kind.{Kind}
use Rattle.far_events.specs.declared.event.Kind.TheVariants.{Free, Open, Sealed}
use Rattle.far_events.specs.state.Law.{Law}
use Rattle.far_core.specs.state.Room.{is_free, free_logs, lowest}
use Rattle.far_core.specs.laws.Rooms.{IsFull, RoomIs, RoomIsRight}
use Rattle.far_events.specs.state.State.{State}

-- of numbers in a row that pass a test: there is none, or the first and then those behind it
abbrev First : (ℕ → Bool) → ℕ → ℕ → List ℕ → Type 0
First f a n [] = (i : ℕ) → i < n → f (a + i) ≡ false
First f a n (l ∷ ls) = (k : ℕ) × (k < n) × (l ≡ a + k) × (f l ≡ true) × ((i : ℕ) → i < k → f (a + i) ≡ false) × (ls ≡ filter f (range_with_len (a + (k + 1)) (n - (k + 1))))

step_down : (f : ℕ → Bool) (a : ℕ) → f a ≡ false → (k : ℕ) → ((i : ℕ) → i < k → f (a + 1 + i) ≡ false) → (i : ℕ) → i < suc k → f (a + i) ≡ false
step_down f a fail k h zero lt = let e : a ≡ a + 0 = omega arith in ap f (sym e) ∙ fail
step_down f a fail k h (suc i) lt = let e : a + suc i ≡ a + 1 + i = omega arith in ap f e ∙ h i (omega arith)

behind : (f : ℕ → Bool) (a n : ℕ) → f a ≡ false → (xs : List ℕ) → First f (a + 1) n xs → First f a (suc n) xs
behind f a n fail [] h = step_down f a fail n h
behind f a n fail (l ∷ ls) (k, lt, at, pass, below, rest) =
    let start : a + 1 + (k + 1) ≡ a + (suc k + 1) = omega arith in
    let many : n - (k + 1) ≡ suc n - (suc k + 1) = omega arith in
    (suc k, omega arith, omega arith, pass, step_down f a fail k below, rest ∙ ap (λ x. filter f (range_with_len x (n - (k + 1)))) start ∙ ap (λ x. filter f (range_with_len (a + (suc k + 1)) x)) many)

first_of : (f : ℕ → Bool) (a n : ℕ) → First f a n (filter f (range_with_len a n))
first_of f a zero = λ i lt. absurd (omega arith)
first_of f a (suc n) = cond_both (f a) (a ∷ filter f (range_with_len (a + 1) n)) (filter f (range_with_len (a + 1) n)) (First f a (suc n))
    (λ pass. let start : a + 1 ≡ a + (0 + 1) = omega arith in let many : n ≡ suc n - (0 + 1) = omega arith in (
      0,
      omega arith,
      omega arith,
      pass,
      λ i lt. absurd (omega arith),
      ap (λ x. filter f (range_with_len x n)) start ∙ ap (λ x. filter f (range_with_len (a + (0 + 1)) x)) many,
    ))
    (λ fail. behind f a n fail _ (first_of f (a + 1) n))

le_true : (a b : ℕ) → nat_le a b ≡ true → a ≤ b
le_true a b h = grind (arith, nat_tests)

lt_false : (a b : ℕ) → nat_le a b ≡ false → b < a
lt_false a b h = grind (arith, nat_tests)

free_is : (k : Kind) → is_free k ≡ true → k ≡ Free
free_is Free h = refl
free_is Open h = absurd (false≢true h)
free_is Sealed h = absurd (false≢true h)

not_free : (k : Kind) → is_free k ≡ false → k ≢ Free
not_free Free h e = absurd (false≢true (sym h))
not_free Open h e = cc
not_free Sealed h e = cc

module _ (s : State) (law : Law s) (size : ℕ) (short : size ≤ LOG_WORDS) (full : IsFull s size) where
  abbrev free : ℕ → Bool
  free l = is_free (s.kind l)

  none_free : (n a : ℕ) → First free a n [] → (l : ℕ) → a ≤ l → l < a + n → s.kind l ≢ Free
  none_free n a h l low lt = let e : a + (l - a) ≡ l = omega arith in not_free (s.kind l) (ap free (sym e) ∙ h (l - a) (omega arith))

  lowest_right : (reserve : Bool) (xs : List ℕ) → First free 0 s.logs xs → RoomIs s size reserve (lowest reserve xs)
  lowest_right true [] h = record { full = full; one = λ k l lt a b. none_free s.logs 0 h k (omega arith) (omega (arith, a.0)) a.1; none = λ e. absurd (false≢true (sym e)) }
  lowest_right false [] h = record { full = full; one = λ k l lt a b. none_free s.logs 0 h k (omega arith) (omega (arith, a.0)) a.1; none = λ e l a. none_free s.logs 0 h l (omega arith) (omega (arith, a.0)) a.1 }
  lowest_right true (l ∷ []) (k, lt, at, pass, below, rest) = record {
    full = full;
    one = λ a b less x y. elim (cases_lt a l) [
      | inl low ↦ not_free (s.kind a) (let e : 0 + a ≡ a = omega arith in ap free (sym e) ∙ below a (omega arith)) x.1
      | inr up ↦ none_free (s.logs - (k + 1)) (0 + (k + 1)) (subst_first rest) b (omega arith) (omega (arith, y.0)) y.1
    ];
    none = λ e. absurd (false≢true (sym e));
  } where
    subst_first : [] ≡ filter free (range_with_len (0 + (k + 1)) (s.logs - (k + 1))) → First free (0 + (k + 1)) (s.logs - (k + 1)) []
    subst_first e = subst (First free (0 + (k + 1)) (s.logs - (k + 1))) (sym e) (first_of free (0 + (k + 1)) (s.logs - (k + 1)))
  lowest_right true (l ∷ j ∷ ls) (k, lt, at, pass, below, rest) =
      let more = subst (First free (0 + (k + 1)) (s.logs - (k + 1))) (sym rest) (first_of free (0 + (k + 1)) (s.logs - (k + 1))) in
      record {
        next = (omega arith, inr (free_is (s.kind l) pass, refl));
        fits = omega arith;
        full = λ _. full;
        lowest = λ _ i low. not_free (s.kind i) (let e : 0 + i ≡ i = omega arith in ap free (sym e) ∙ below i (omega arith));
        left = λ _ _. (j, omega (arith, more.2, more.1), (omega (arith, more.2, more.1), free_is (s.kind j) more.3));
      }
  lowest_right false (l ∷ ls) (k, lt, at, pass, below, rest) = record {
    next = (omega arith, inr (free_is (s.kind l) pass, refl));
    fits = omega arith;
    full = λ _. full;
    lowest = λ _ i low. not_free (s.kind i) (let e : 0 + i ≡ i = omega arith in ap free (sym e) ∙ below i (omega arith));
    left = λ _ e. absurd (false≢true e);
  }

pub room_right : (s : State) → Law s → RoomIsRight s
room_right s law size reserve short =
    let inside : s.current < s.logs = law.logs.log_range s.current (λ free. let odd : Open ≡ Free = sym law.logs.is_open ∙ free in cc) in
    let no : s.kind s.current ≢ Free = (λ free. let odd : Open ≡ Free = sym law.logs.is_open ∙ free in cc) in
    cond_both (nat_le (s.tail s.current + size) LOG_WORDS) (Some record { log = s.current; at = s.tail s.current }) (lowest reserve (free_logs s)) (RoomIs s size reserve)
    (λ fit. record {
      next = (inside, inl (law.logs.is_open, refl));
      fits = le_true (s.tail s.current + size) LOG_WORDS fit;
      full = λ free. absurd (no free);
      lowest = λ free. absurd (no free);
      left = λ free. absurd (no free);
    })
    (λ past. lowest_right s law size short (λ le. let over : LOG_WORDS < s.tail s.current + size = lt_false (s.tail s.current + size) LOG_WORDS past in omega arith) reserve (free_logs s) (first_of (λ l. is_free (s.kind l)) 0 s.logs))
