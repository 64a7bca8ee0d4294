-- Bytes with others in the place of some: what stands where.
use Rattle.std.proofs.Common.{◌≡◌, ℕ, ◌+◌, ◌-◌, ◌<◌, ◌≤◌, Bool, true, false, arith, ap, sym, refl, ◌∙◌, List, ◌++◌, length, get_or, take, drop, inl, inr, Option, Some, None}
use Rattle.std.specs.Prelude.{IfSome, slice_range}
use Rattle.std.proofs.lemmas.Bool.{cases_lt}
use Rattle.std.proofs.lemmas.List.{ext_get_or, get_or-take, get_or-drop, get_or_append_left, get_or-append_right, length-take-le, length-append, length-drop}
use Rattle.far_word.specs.Bytes.{byte_at, bytes_of}
use Rattle.far_word.proofs.ByteLaws.{bytes_of-get, length-bytes_of}
use Rattle.far_table.specs.View.{ObjectView}
use Rattle.far_table.specs.Views.{len_of as seat_len, word_in_view, word_of}
use Rattle.far_heap.specs.Mine.{known_bytes, seen, with_range}
use Rattle.far_table.specs.Ranges.{HasBytes}

-- ---- some bytes in the place of others
module _ (bytes : List ℕ) (from : ℕ) (new : List ℕ) (fits : from + length new ≤ length bytes) where
  front : length (take from bytes) ≡ from
  front = length-take-le from bytes (omega arith)

  fore : length (take from bytes ++ new) ≡ from + length new
  fore = omega (arith, length-append (take from bytes) new, front)

  -- they are as many
  pub length-with_range : length (with_range bytes from new) ≡ length bytes
  length-with_range = omega (arith, length-append (take from bytes ++ new) (drop (from + length new) bytes), fore, length-drop (from + length new) bytes)

  -- those before stay
  pub with_range_before : (k : ℕ) → k < from → get_or (with_range bytes from new) k 0 ≡ get_or bytes k 0
  with_range_before k lt = get_or_append_left (take from bytes ++ new) (drop (from + length new) bytes) 0 k (omega (arith, fore))
      ∙ get_or_append_left (take from bytes) new 0 k (omega (arith, front)) ∙ get_or-take from bytes k 0 lt

  -- then come the new ones
  pub with_range_inside : (k : ℕ) → from ≤ k → k < from + length new → get_or (with_range bytes from new) k 0 ≡ get_or new (k - from) 0
  with_range_inside k le lt = get_or_append_left (take from bytes ++ new) (drop (from + length new) bytes) 0 k (omega (arith, fore))
      ∙ get_or-append_right (take from bytes) new from k 0 front le

  -- those behind stay
  pub with_range_after : (k : ℕ) → from + length new ≤ k → get_or (with_range bytes from new) k 0 ≡ get_or bytes k 0
  with_range_after k le =
      let at : from + length new + (k - (from + length new)) ≡ k = omega arith in
      get_or-append_right (take from bytes ++ new) (drop (from + length new) bytes) (from + length new) k 0 fore le
      ∙ get_or-drop (from + length new) bytes (k - (from + length new)) 0 ∙ ap (λ q. get_or bytes q 0) at

-- ---- a row of words with some bytes in the place of others
pub bytes_wrote : (f g : ℕ → ℕ) (len from : ℕ) (bytes : List ℕ) → from + length bytes ≤ len → HasBytes g from bytes → ((k : ℕ) → k < from → byte_at g k ≡ byte_at f k) →
    ((k : ℕ) → from + length bytes ≤ k → k < len → byte_at g k ≡ byte_at f k) → bytes_of g len ≡ with_range (bytes_of f len) from bytes
bytes_wrote f g len from bytes fits inside before after =
    let old : List ℕ = bytes_of f len in
    let long : length old ≡ len = length-bytes_of f len in
    let room : from + length bytes ≤ length old = omega arith in
    ext_get_or 0 (bytes_of g len) (with_range old from bytes) (length-bytes_of g len ∙ sym (length-with_range old from bytes room ∙ long)) (λ k lt.
    let below : k < len = omega (arith, length-bytes_of g len) in
    bytes_of-get g len k below ∙ elim (cases_lt k from) [
      | inl low ↦ before k low ∙ sym (with_range_before old from bytes room k low ∙ bytes_of-get f len k below)
      | inr le ↦ elim (cases_lt k (from + length bytes)) [
        | inl mid ↦ (let at : from + (k - from) ≡ k = omega arith in
            ap (byte_at g) (sym at) ∙ sym (inside (k - from) (omega arith)) ∙ sym (with_range_inside old from bytes room k le mid))
        | inr high ↦ after k high below ∙ sym (with_range_after old from bytes room k high ∙ bytes_of-get f len k below)
      ]
    ])

-- bytes that were read are the range of the object's
range_read : (f : ℕ → ℕ) (len from n : ℕ) (out : List ℕ) → length out ≡ n → from + n ≤ len → HasBytes f from out → out ≡ slice_range (bytes_of f len) from (from + n)
range_read f len from n out long fits has =
    let bytes : List ℕ = bytes_of f len in
    let wide : length bytes ≡ len = length-bytes_of f len in
    let more : length (drop from bytes) ≡ length bytes - from = length-drop from bytes in
    ext_get_or 0 out (take (from + n - from) (drop from bytes)) (long ∙ sym (length-take-le (from + n - from) (drop from bytes) (omega arith) ∙ omega arith)) (λ k lt.
    has k lt ∙ sym (get_or-take (from + n - from) (drop from bytes) k 0 (omega arith) ∙ get_or-drop from bytes k 0 ∙ bytes_of-get f len (from + k) (omega arith)))

pub read_so : (h : Bool) (x : Option ObjectView) (out : List ℕ) (from n : ℕ) → length out ≡ n → from + n ≤ seat_len x → (h ≡ true → HasBytes (word_in_view x) from out) →
    IfSome (known_bytes (seen h x)) (λ bytes. out ≡ slice_range bytes from (from + n))
read_so h None out from n long fits has = tt
read_so false (Some x) out from n long fits has = tt
read_so true (Some x) out from n long fits has = range_read (word_of x) x.len from n out long fits (has refl)
