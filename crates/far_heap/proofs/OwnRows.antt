-- What stands at the numbers of a mutator's own pointers.
use Rattle.std.proofs.Common.{◌≡◌, ◌≢◌, ℕ, ◌+◌, ◌*◌, ◌/◌, ◌%◌, ◌<◌, length, map, get_or, set, sym, ap, ◌∙◌, arith, inl, inr}
use Rattle.std.specs.Prelude.{slice_index_or, slice_set}
use Rattle.std.proofs.lemmas.Bool.{cases_eq}
use Rattle.std.proofs.lemmas.Grind.{get_or-set_at}
use Rattle.std.proofs.lemmas.List.{ext_get_or, get_or-map, get_or-set_other, length-set}
use Rattle.std.proofs.lemmas.List.{length-map}
use Rattle.std.proofs.lemmas.List.FromFn.{get_or-map-range_with_len, length-map-range_with_len}
use Rattle.far_word.specs.declared.sizes.TheConstants.{CELLS}
use Rattle.far_heap.specs.Mine.{own_row}

module _ {X : Type 0} where
  pub length-own_row : (f : ℕ → X) (n : ℕ) → length (own_row f n) ≡ CELLS
  unfolding own_row
  length-own_row f n = length-map-range_with_len (λ k. f (CELLS * n + k)) 0 CELLS

  row_at : (f : ℕ → X) (n k : ℕ) (d : X) → k < CELLS → get_or (own_row f n) k d ≡ f (CELLS * n + k)
  unfolding own_row
  row_at f n k d lt = get_or-map-range_with_len (λ i. f (CELLS * n + i)) 0 CELLS k k d lt (omega arith)

  pub own_row-get : (f : ℕ → X) (n p : ℕ) (d : X) → p / CELLS ≡ n → slice_index_or (own_row f n) (p % CELLS) d ≡ f p
  own_row-get f n p d own = let at : CELLS * n + p % CELLS ≡ p = omega arith in row_at f n (p % CELLS) d (omega arith) ∙ ap f at

  -- they are others at one pointer alone
  pub own_row-one : (f g : ℕ → X) (n p : ℕ) (v : X) → p / CELLS ≡ n → ((q : ℕ) → q ≢ p → g q ≡ f q) → g p ≡ v → own_row g n ≡ slice_set (own_row f n) (p % CELLS) v
  own_row-one f g n p v own others here =
      let at : CELLS * n + p % CELLS ≡ p = omega arith in
      ext_get_or v (own_row g n) (set (own_row f n) (p % CELLS) v) (length-own_row g n ∙ sym (length-set (own_row f n) (p % CELLS) v ∙ length-own_row f n)) (λ k lt.
      let fits : k < CELLS = omega (arith, length-own_row g n) in
      row_at g n k v fits ∙ elim (cases_eq k (p % CELLS)) [
        | inl e ↦ (let same : CELLS * n + k ≡ p = omega arith in ap g same ∙ here ∙ sym (get_or-set_at (own_row f n) (p % CELLS) k v v e (omega (arith, length-own_row f n))))
        | inr ne ↦ others (CELLS * n + k) (λ e. ne (omega arith)) ∙ sym (get_or-set_other (own_row f n) (p % CELLS) k v v ne ∙ row_at f n k v fits)
      ])

-- they are all the same
pub own_row-const : {X Y : Type 0} (f : ℕ → X) (g : ℕ → Y) (n : ℕ) (c : Y) → ((q : ℕ) → g q ≡ c) → own_row g n ≡ map (λ _. c) (own_row f n)
own_row-const {X = X} {Y = Y} f g n c all =
    ext_get_or c (own_row g n) (map (λ _. c) (own_row f n)) (length-own_row g n ∙ sym (length-map (own_row f n) (λ _. c) ∙ length-own_row f n)) (λ k lt.
    row_at g n k c (omega (arith, length-own_row g n)) ∙ all (CELLS * n + k) ∙ sym (get_or-map (λ _. c) (own_row f n) k (f 0) c (omega (arith, length-own_row g n, length-own_row f n))))
