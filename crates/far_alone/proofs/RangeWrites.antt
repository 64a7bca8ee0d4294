-- The words that a write stores are those of the object with the new bytes in place.
use Rattle.std.proofs.Common.{◌≡◌, ℕ, ◌+◌, ◌-◌, ◌*◌, ◌/◌, ◌%◌, ◌^◌, ◌<◌, ◌≤◌, List, length, get_or, refl, ap, sym, ◌∙◌, arith, inl, inr, subst, Option, Some}
use Rattle.std.specs.Prelude.{map}
use Rattle.std.specs.List.{range_with_len}
use Rattle.std.proofs.lemmas.Bool.{cases_lt}
use Rattle.std.proofs.lemmas.List.{ext_get_or, get_or_past}
use Rattle.std.proofs.lemmas.List.FromFn.{length-map-range_with_len, get_or-map-range_with_len}
use native.Mathlib.Nat.{div-eq_of_lt}
use lib.Pow.{pow_mono}
use Rattle.far_word.specs.Bytes.{bytes_of, byte_at, packed_word}
use Rattle.far_word.specs.Sizes.{words_for}
use Rattle.far_word.proofs.ByteLaws.{bytes_of-get, length-bytes_of}
use Rattle.far_word.specs.declared.pointer.PtrWord.{PtrWord}
use Rattle.far_word.specs.declared.pointer.PtrWord.TheVariants.{Near}
use Rattle.far_word.specs.Pointer.{read_of}
use Rattle.far_events.specs.state.Law.{Law, head_len}
use Rattle.far_events.specs.state.State.{State, addr}
use Rattle.far_events.specs.events.Step.{near_len, near_data, data_len}
use Rattle.far_events.specs.state.Words.{with_bytes}
use Rattle.far_events.specs.events.Ranges.{with_row}
use Rattle.far_events.proofs.Bounds.{span_len}
use Rattle.far_events.proofs.Rows.{row_in, row_out}
use Rattle.far_events.proofs.Words.{word_same}
use Rattle.far_alone.specs.Objects.{with_range}
use Rattle.far_alone.proofs.Spliced.{with_range_before, with_range_inside, with_range_after}

-- a byte behind the last one of padded words is 0
pub padded_byte : (f : ℕ → ℕ) (len k : ℕ) → f (k / 8) < 2 ^ (8 * (len - 8 * (k / 8))) → len ≤ k → byte_at f k ≡ 0
padded_byte f len k pad past =
    let more : 2 ^ (8 * (len - 8 * (k / 8))) ≤ 2 ^ (8 * (k % 8)) = (let h : 8 * (len - 8 * (k / 8)) ≤ 8 * (k % 8) = omega arith in pow_mono h) in
    let none : f (k / 8) / 2 ^ (8 * (k % 8)) ≡ 0 = (let h : f (k / 8) < 2 ^ (8 * (k % 8)) = omega arith in div-eq_of_lt h) in
    ap (λ x. x % 256) none

-- ---- the words of a write
module _ (f : ℕ → ℕ) (len from : ℕ) (new : List ℕ) (inside : from + length new ≤ len) (pads : (i : ℕ) → i < words_for len → f i < 2 ^ (8 * (len - 8 * i))) where
  abbrev old : List ℕ
  old = bytes_of f len

  -- the range is a part of the object
  within : from + length new ≤ length old
  within = omega (arith, inside, length-bytes_of f len)

  -- a byte of the object, or of its padding
  old_byte : (q : ℕ) → q / 8 < words_for len → byte_at f q ≡ get_or old q 0
  old_byte q lt = elim (cases_lt q len) [
    | inl below ↦ sym (bytes_of-get f len q below)
    | inr past ↦ (padded_byte f len q (pads (q / 8) lt) past ∙ sym (get_or_past old q 0 (omega (arith, length-bytes_of f len))))
  ]

  -- each byte of the words with the new ones in place is the object's with the new ones in place
  new_byte : (q : ℕ) → q / 8 < words_for len → with_row (byte_at f) from (length new) (λ k. get_or new k 0) q ≡ get_or (with_range old from new) q 0
  new_byte q lt = elim (cases_lt q from) [
    | inl low ↦ row_out (byte_at f) from (length new) (λ k. get_or new k 0) q (inl low) ∙ old_byte q lt ∙ sym (with_range_before old from new within q low)
    | inr le ↦ elim (cases_lt q (from + length new)) [
      | inl here ↦ row_in (byte_at f) from (length new) (λ k. get_or new k 0) q le here ∙ sym (with_range_inside old from new within q le here)
      | inr past ↦ row_out (byte_at f) from (length new) (λ k. get_or new k 0) q (inr past) ∙ old_byte q lt ∙ sym (with_range_after old from new within q past)
    ]
  ]

  -- the words that are written are the object's with the new bytes in place
  pub written_word : (i : ℕ) → i < words_for len → with_bytes f from new i ≡ packed_word (with_range old from new) i
  written_word i lt = word_same (with_row (byte_at f) from (length new) (λ k. get_or new k 0)) (λ k. get_or (with_range old from new) k 0) i i
      (λ j small. let word : (8 * i + j) / 8 < words_for len = omega (arith, lt, small) in new_byte (8 * i + j) word)

-- two rows are one where what stands in them is
pub rows_same : {X : Type 0} (d : X) (f g : ℕ → X) (a b n : ℕ) → ((i : ℕ) → i < n → f (a + i) ≡ g (b + i)) → map f (range_with_len a n) ≡ map g (range_with_len b n)
rows_same d f g a b n h = ext_get_or d _ _ (length-map-range_with_len f a n ∙ sym (length-map-range_with_len g b n))
    (λ k lt. let below : k < n = omega (arith, length-map-range_with_len f a n) in
    get_or-map-range_with_len f a n k (a + k) d below refl ∙ h k below ∙ sym (get_or-map-range_with_len g b n k (b + k) d below refl))

-- ---- the object's own words
at_cell : (s : State) → Law s → (p : ℕ) (o : Option PtrWord) → read_of (s.cell p) ≡ o → (i : ℕ) → i < words_for (near_len o) → s.word (near_data o + i) < 2 ^ (8 * (near_len o - 8 * i))
at_cell s law p (Some (Near len ds place m)) e i lt =
    let long : head_len (s.word (addr place)) ≡ len = rw (span_len s law p len ds place m e) refl in
    let pads = law.spans.span_padding (addr place) (law.cells.cell_near p len ds place m e).placed i (omega (arith, long)) in
    subst (λ n. s.word (addr place + 1 + i) < 2 ^ (8 * (n - 8 * i))) long pads
at_cell s law p _ e i lt = absurd (omega arith)

-- the words of an object have zeros behind its last byte
pub object_padded : (s : State) → Law s → (p i : ℕ) → i < words_for (data_len s p) → s.word (near_data (read_of (s.cell p)) + i) < 2 ^ (8 * (data_len s p - 8 * i))
object_padded s law p i lt = at_cell s law p (read_of (s.cell p)) refl i lt
