-- A census has exactly the objects that aren't dropped.
use Rattle.std.proofs.Common.{◌≡◌, ℕ, zero, suc, ◌+◌, ◌*◌, ◌<◌, ◌≤◌, ◌↔◌, false, cond, Option, Some, None, List, [], ◌∷◌, inl, inr, arith, ap, sym, refl, ◌∙◌, subst}
use Rattle.std.specs.Prelude.{Contains}
use Rattle.std.specs.List.{flat_map, range_with_len}
use Rattle.std.proofs.lemmas.Bool.{cases_lt, cond_both}
use Rattle.std.proofs.lemmas.List.Elements.{Contains-append_cases, Contains-append_left, Contains-append_right}
use Rattle.far_word.specs.declared.pointer.PtrWord.{PtrWord}
use Rattle.far_word.specs.declared.sizes.TheConstants.{CELLS}
use Rattle.far_word.specs.Pointer.{read_of}
use Rattle.far_events.specs.events.Naming.{is_dropped}
use Rattle.far_events.specs.state.State.{State}
use Rattle.far_book.specs.declared.home.Home.{Home}
use Rattle.far_book.specs.book.Home.{home_of}
use Rattle.far_evac.specs.declared.census.Housed.{Housed}
use Rattle.far_evac.specs.Census.{homes_of, housed_at, housed_in}

abbrev entry : ℕ → Home → Housed
entry p home = record { pointer = p; home = home }

none_in : {X : Type 0} (x : X) → Contains [] x → ⊥
none_in x (k, lt, e) = omega (arith, lt)

one_in : {X : Type 0} (x y : X) → Contains (x ∷ []) y → x ≡ y
one_in x y (zero, lt, e) = e
one_in x y (suc k, lt, e) = let odd : ⊥ = omega (arith, lt) in absurd odd

-- ---- what one pointer gives
at_home : (q p : ℕ) (home : Home) (o : Option Home) → Contains (housed_at q o) (entry p home) → (p ≡ q) × (o ≡ Some home)
at_home q p home None h = absurd (none_in (entry p home) h)
at_home q p home (Some x) h =
    let same : entry q x ≡ entry p home = one_in (entry q x) (entry p home) h in
    (ap (λ (e : Housed). e.pointer) (sym same), ap (λ (e : Housed). Some e.home) same)

at_cell : (q p : ℕ) (home : Home) (cell : Option PtrWord) → Contains (housed_in q cell) (entry p home) → (p ≡ q) × (home_of cell ≡ Some home) × (is_dropped cell ≡ false)
at_cell q p home cell = cond_both (is_dropped cell) [] (housed_at q (home_of cell)) (λ (xs : List Housed). Contains xs (entry p home) → (p ≡ q) × (home_of cell ≡ Some home) × (is_dropped cell ≡ false))
    (λ _ h. absurd (none_in (entry p home) h))
    (λ alive h. let x = at_home q p home (home_of cell) h in (x.0, x.1, alive))

from_cell : (p : ℕ) (home : Home) (cell : Option PtrWord) → home_of cell ≡ Some home → is_dropped cell ≡ false → Contains (housed_in p cell) (entry p home)
from_cell p home cell is alive =
    let one : housed_in p cell ≡ entry p home ∷ [] = ap (λ b. cond b [] (housed_at p (home_of cell))) alive ∙ ap (housed_at p) is in
    subst (λ xs. Contains xs (entry p home)) (sym one) (0, omega arith, refl)

-- ---- all of them
module _ (s : State) (p : ℕ) (home : Home) where
  abbrev given : ℕ → List Housed
  given q = housed_in q (read_of (s.cell q))

  abbrev IsHome : Type 0
  IsHome = (home_of (read_of (s.cell p)) ≡ Some home) × (is_dropped (read_of (s.cell p)) ≡ false)

  there : (a n : ℕ) → a ≤ p → p < a + n → IsHome → Contains (flat_map given (range_with_len a n)) (entry p home)
  there a zero from to h = let odd : ⊥ = omega (arith, from, to) in absurd odd
  there a (suc n) from to h = elim (cases_lt a p) [
    | inl past ↦ Contains-append_right (given a) (flat_map given (range_with_len (a + 1) n)) (entry p home) (there (a + 1) n (omega (arith, past)) (omega (arith, to)) h)
    | inr le ↦
        let same : p ≡ a = omega (arith, from, le) in
        Contains-append_left (given a) (flat_map given (range_with_len (a + 1) n)) (entry p home)
        (subst (λ q. Contains (given q) (entry p home)) same (from_cell p home (read_of (s.cell p)) h.0 h.1))
  ]

  back : (a n : ℕ) → Contains (flat_map given (range_with_len a n)) (entry p home) → (p < a + n) × IsHome
  back a zero h = absurd (none_in (entry p home) h)
  back a (suc n) h = elim (Contains-append_cases (given a) (flat_map given (range_with_len (a + 1) n)) (entry p home) h) [
    | inl here ↦
        let x = at_cell a p home (read_of (s.cell a)) here in
        let is : (home_of (read_of (s.cell a)) ≡ Some home) × (is_dropped (read_of (s.cell a)) ≡ false) = (x.1, x.2) in
        (omega (arith, x.0), subst (λ q. (home_of (read_of (s.cell q)) ≡ Some home) × (is_dropped (read_of (s.cell q)) ≡ false)) (sym x.0) is)
    | inr later ↦ let x = back (a + 1) n later in (omega (arith, x.0), x.1)
  ]

pub census_is : (s : State) (p : ℕ) (home : Home) → Contains (homes_of s) record { pointer = p; home = home } ↔
    ((p < CELLS * s.mutators) × (home_of (read_of (s.cell p)) ≡ Some home) × (is_dropped (read_of (s.cell p)) ≡ false))
census_is s p home = (
  λ h. let x = back s p home 0 (CELLS * s.mutators) h in (omega (arith, x.0), x.1.0, x.1.1),
  λ h. there s p home 0 (CELLS * s.mutators) (omega arith) (omega (arith, h.0)) (h.1, h.2),
)
