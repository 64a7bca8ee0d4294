-- The lowest free cell of a mutator.
use Rattle.std.proofs.Common.{◌≡◌, ◌≢◌, ℕ, zero, suc, ◌+◌, ◌*◌, ◌<◌, ◌≤◌, false, nat_eq, arith, refl, sym, ap, subst, inl, inr, Some, None, find}
use Rattle.std.specs.List.{range_with_len}
use Rattle.std.specs.Prelude.{Option}
use Rattle.std.proofs.lemmas.Bool.{cases_lt, cases_eq, cond_both}
use Rattle.std.proofs.lemmas.Bool.Decides.{nat_tests}
use Rattle.far_word.specs.declared.sizes.TheConstants.{CELLS}
use Rattle.far_events.specs.state.State.{State}
use Rattle.far_book.specs.book.Ledger.{IsLowestFree}
use Rattle.far_alone.specs.Objects.{lowest_cell}

-- ---- what the search for a number at which f is 0 finds, and what it passes over
busy_cell : (c : ℕ) → nat_eq c 0 ≡ false → c ≢ 0
busy_cell c test z = grind (arith, nat_tests)

-- it finds the first
pub lowest_found : (f : ℕ → ℕ) (a n p : ℕ) → find (λ q. nat_eq (f q) 0) (range_with_len a n) ≡ Some p →
    (a ≤ p) × (p < a + n) × (f p ≡ 0) × ((q : ℕ) → a ≤ q → q < p → f q ≢ 0)
lowest_found f a zero p e = absurd cc
lowest_found f a (suc n) p e = cond_both (nat_eq (f a) 0) (Some a) (find (λ q. nat_eq (f q) 0) (range_with_len (a + 1) n))
    (λ (x : Option ℕ). x ≡ Some p → (a ≤ p) × (p < a + suc n) × (f p ≡ 0) × ((q : ℕ) → a ≤ q → q < p → f q ≢ 0))
    (λ here e. let same : a ≡ p = cc in let free : f a ≡ 0 = grind (arith, nat_tests) in
    (omega (arith, same), omega (arith, same), subst (λ q. f q ≡ 0) same free, (λ q low high. absurd (omega (arith, same)))))
    (λ taken e. let rest = lowest_found f (a + 1) n p e in let busy : f a ≢ 0 = λ z. absurd (busy_cell (f a) taken z) in (
      omega (arith, rest.0),
      omega (arith, rest.1),
      rest.2,
      (λ q low high. elim (cases_eq q a) [
        | inl at ↦ subst (λ k. f k ≢ 0) (sym at) busy
        | inr other ↦ rest.3 q (omega arith) high
      ]),
    ))
    e

-- it finds none where there is none
pub none_found : (f : ℕ → ℕ) (a n : ℕ) → find (λ q. nat_eq (f q) 0) (range_with_len a n) ≡ None → (q : ℕ) → a ≤ q → q < a + n → f q ≢ 0
none_found f a zero e q low high = absurd (omega arith)
none_found f a (suc n) e q low high = cond_both (nat_eq (f a) 0) (Some a) (find (λ q. nat_eq (f q) 0) (range_with_len (a + 1) n)) (λ (x : Option ℕ). x ≡ None → f q ≢ 0)
    (λ here e. absurd cc)
    (λ taken e. elim (cases_eq q a) [
      | inl at ↦ subst (λ k. f k ≢ 0) (sym at) (λ z. busy_cell (f a) taken z)
      | inr other ↦ none_found f (a + 1) n e q (omega arith) (omega arith)
    ]) e

-- the lowest free cell is the mutator's, and free, and those before it aren't
pub lowest_cell_is : (s : State) (m p : ℕ) → lowest_cell s m ≡ Some p → (m * CELLS ≤ p) × (p < m * CELLS + CELLS) × (s.cell p ≡ 0) × ((q : ℕ) → m * CELLS ≤ q → q < p → s.cell q ≢ 0)
unfolding lowest_cell
lowest_cell_is s m p e = lowest_found s.cell (m * CELLS) CELLS p e

-- where no cell is free it finds none, and only there
pub no_cell_is : (s : State) (m : ℕ) → lowest_cell s m ≡ None → (q : ℕ) → m * CELLS ≤ q → q < m * CELLS + CELLS → s.cell q ≢ 0
unfolding lowest_cell
no_cell_is s m e = none_found s.cell (m * CELLS) CELLS e

-- the lowest of a mutator's free cells, if there is one, is what is found
pub lowest_agrees : (s : State) (m : ℕ) (o : Option ℕ) → IsLowestFree s m o → lowest_cell s m ≡ o
lowest_agrees s m o h = at (lowest_cell s m) o refl h where
  at : (x o : Option ℕ) → lowest_cell s m ≡ x → IsLowestFree s m o → x ≡ o
  at None None e h = refl
  at None (Some p) e h = absurd (no_cell_is s m e p (omega (arith, h.0)) (omega (arith, h.0)) h.1)
  at (Some q) None e h = let x = lowest_cell_is s m q e in absurd (h q (omega (arith, x.0, x.1)) x.2)
  at (Some q) (Some p) e h =
      let x = lowest_cell_is s m q e in
      elim (cases_lt p q) [
        | inl lt ↦ absurd (x.3 p (omega (arith, h.0)) lt h.1)
        | inr le ↦ elim (cases_eq p q) [
          | inl same ↦ ap Some (sym same)
          | inr ne ↦ absurd (h.2 q (omega (arith, x.0, x.1)) (omega arith) x.2)
        ]
      ]
