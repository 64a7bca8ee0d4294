-- Counts and sums over numbers in a row, one number more.
use Rattle.std.proofs.Common.{◌≡◌, ℕ, zero, suc, ◌+◌, Bool, true, false, filter, [], ◌∷◌, ◌++◌, length, refl, ap, ◌∙◌, arith}
use Rattle.std.specs.Prelude.{sum, map}
use Rattle.std.specs.List.{range_with_len}
use Rattle.std.proofs.lemmas.List.{length-append}
use Rattle.std.proofs.lemmas.List.Elements.{filter-append}
use Rattle.std.proofs.lemmas.List.FromFn.{sum_by-map-range_with_len_more}
use mir.Val.{bool_byte}

row_more : (a n j : ℕ) → a + n ≡ j → range_with_len a (n + 1) ≡ range_with_len a n ++ j ∷ []
row_more a zero j e = let at : a ≡ j = omega arith in ap (λ k. k ∷ []) at
row_more a (suc n) j e = let more : suc n + 1 ≡ suc (n + 1) = omega arith in ap (range_with_len a) more ∙ ap (λ xs. a ∷ xs) (row_more (a + 1) n j (omega arith))

one_counted : (f : ℕ → Bool) (j : ℕ) (b : Bool) → f j ≡ b → length (filter f (j ∷ [])) ≡ bool_byte b
one_counted f j true e = rw e refl
one_counted f j false e = rw e refl

-- how many of the first numbers pass a test
pub counted_more : (f : ℕ → Bool) (n : ℕ) → length (filter f (range_with_len 0 (n + 1))) ≡ length (filter f (range_with_len 0 n)) + bool_byte (f n)
counted_more f n =
    ap (λ xs. length (filter f xs)) (row_more 0 n n (omega arith)) ∙ ap length (filter-append f (range_with_len 0 n) (n ∷ []))
    ∙ length-append (filter f (range_with_len 0 n)) (filter f (n ∷ [])) ∙ ap (λ k. length (filter f (range_with_len 0 n)) + k) (one_counted f n (f n) refl)

-- the sum of what a function gives for the first numbers
pub summed_more : (f : ℕ → ℕ) (n : ℕ) → sum (map f (range_with_len 0 (n + 1))) ≡ sum (map f (range_with_len 0 n)) + f n
summed_more f n = sum_by-map-range_with_len_more (λ x. x) f 0 n n (omega arith)
