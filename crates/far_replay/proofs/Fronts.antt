-- Parts of lists of bytes.
use Rattle.std.proofs.Common.{◌≡◌, ℕ, ◌+◌, ◌-◌, ◌<◌, ◌≤◌, List, ◌++◌, length, take, drop, get_or, ap, sym, ◌∙◌, arith, length-take-le, length-drop}
use Rattle.std.specs.Prelude.{slice_range}
use Rattle.std.proofs.lemmas.List.{ext_get_or, take-append-le}
use Rattle.std.proofs.Math.Seq.{take-length}
use Rattle.far_text.proofs.Parts.{range_get}

pub range_length : (xs : List ℕ) (from count : ℕ) → from + count ≤ length xs → length (slice_range xs from (from + count)) ≡ count
range_length xs from count fits = length-take-le (from + count - from) (drop from xs) (omega (arith, length-drop from xs)) ∙ omega arith

-- two parts are one where their bytes are
pub ranges_same : (xs ys : List ℕ) (a b count : ℕ) → a + count ≤ length xs → b + count ≤ length ys → ((k : ℕ) → k < count → get_or xs (a + k) 0 ≡ get_or ys (b + k) 0) →
    slice_range xs a (a + count) ≡ slice_range ys b (b + count)
ranges_same xs ys a b count fx fy h = ext_get_or 0 _ _ (range_length xs a count fx ∙ sym (range_length ys b count fy))
    (λ k lt. let below : k < count = omega (arith, range_length xs a count fx) in range_get xs a count k below ∙ h k below ∙ sym (range_get ys b count k below))

-- a part that was read into the front of a buffer
pub read_front : (all new rest : List ℕ) (from count n : ℕ) → n ≡ count → from + count ≤ length all → new ≡ slice_range all from (from + n) →
    slice_range (new ++ rest) 0 (0 + count) ≡ slice_range all from (from + count)
read_front all new rest from count n same inside is =
    let read : new ≡ slice_range all from (from + count) = is ∙ ap (λ m. slice_range all from (from + m)) same in
    let long : length new ≡ count = ap length read ∙ range_length all from count inside in
    let whole : 0 + count - 0 ≡ length new = omega (arith, long) in
    ap (λ m. take m (new ++ rest)) whole ∙ take-append-le (length new) new rest (omega arith) ∙ take-length new ∙ read
