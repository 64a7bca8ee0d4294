-- Bytes into which others were put.
use Rattle.std.proofs.Common.{◌≡◌, ◌∙◌, ◌+◌, ◌-◌, ◌<◌, ◌≤◌, inl, inr, ap, sym, ℕ, List, length, take, drop, ◌++◌, slice_index, arith}
use Rattle.std.proofs.lemmas.List.{length-append, length-drop, length-take-le, get_or_append_left, get_or-append-add, get_or-take, get_or-drop}
use Rattle.far_file.specs.Positions.{HoldsAt, KeepsOutside}
use Rattle.far_file.proofs.Fetched.{refilled}

-- a part of the row replaced, and the row after its buffer was filled with that
abbrev pub replaced : ℕ → ℕ → List ℕ → List ℕ → List ℕ
replaced at m row bytes = take at row ++ (bytes ++ drop m (drop at row))

abbrev pub after_put : ℕ → ℕ → ℕ → List ℕ → List ℕ → List ℕ → List ℕ
after_put n at m old row bytes = take n (replaced at m row bytes ++ drop (length (replaced at m row bytes)) old)

module _ (n at m : ℕ) (old row bytes : List ℕ) (long : length row ≡ n) (as_many : m ≡ length bytes) (fits : at + m ≤ n) where
  before : length (take at row) ≡ at
  before = length-take-le at row (omega arith)

  as_long : length (replaced at m row bytes) ≡ n
  as_long = omega (arith, before, length-append (take at row) (bytes ++ drop m (drop at row)), length-append bytes (drop m (drop at row)), length-drop m (drop at row), length-drop at row)

  whole : after_put n at m old row bytes ≡ replaced at m row bytes
  whole = refilled n old (replaced at m row bytes) as_long

  -- there they are
  pub put_here : HoldsAt (slice_index (after_put n at m old row bytes)) at bytes
  put_here k below =
      ap (λ all. slice_index all (at + k)) whole ∙ ap (λ front. slice_index (replaced at m row bytes) (front + k)) (sym before)
      ∙ get_or-append-add (take at row) (bytes ++ drop m (drop at row)) k 0 ∙ get_or_append_left bytes (drop m (drop at row)) 0 k below

  behind : (j : ℕ) → slice_index (replaced at m row bytes) (at + (m + j)) ≡ slice_index row (at + (m + j))
  behind j =
      ap (λ front. slice_index (replaced at m row bytes) (front + (m + j))) (sym before) ∙ get_or-append-add (take at row) (bytes ++ drop m (drop at row)) (m + j) 0
      ∙ ap (λ many. slice_index (bytes ++ drop m (drop at row)) (many + j)) as_many ∙ get_or-append-add bytes (drop m (drop at row)) j 0
      ∙ get_or-drop m (drop at row) j 0 ∙ get_or-drop at row (m + j) 0

  -- elsewhere all is as before
  pub put_beside : KeepsOutside (slice_index row) (slice_index (after_put n at m old row bytes)) at (length bytes)
  put_beside k (inl first) = let in_front : k < length (take at row) = omega (arith, before) in ap (λ all. slice_index all k) whole ∙ get_or_append_left (take at row) (bytes ++ drop m (drop at row)) 0 k in_front ∙ get_or-take at row k 0 first
  put_beside k (inr last) =
      let there : k ≡ at + (m + (k - (at + m))) = omega arith in
      ap (λ all. slice_index all k) whole ∙ ap (λ i. slice_index (replaced at m row bytes) i) there ∙ behind (k - (at + m)) ∙ ap (λ i. slice_index row i) (sym there)
