-- The bytes of an object that is held.
use Rattle.std.proofs.Common.{◌≡◌, ℕ, ◌+◌, ◌-◌, ◌*◌, ◌/◌, ◌^◌, ◌<◌, ◌≤◌, ◌⊎◌, ◌∙◌, arith, inl, inr, ap, sym, refl, subst, List, Some, None, Option, length, get_or}
use Rattle.std.specs.Prelude.{IsSome}
use Rattle.std.proofs.lemmas.Bool.{false≢true}
use Rattle.far_word.specs.Bytes.{bytes_of}
use Rattle.far_word.specs.Pointer.{read_of}
use Rattle.far_word.specs.Sizes.{words_for}
use Rattle.far_word.specs.declared.pointer.Place.{Place}
use Rattle.far_events.specs.events.Ranges.{with_row}
use Rattle.far_events.specs.events.Step.{data_len, data_word, near_data, near_len}
use Rattle.far_events.specs.state.Law.{Law, head_len}
use Rattle.far_events.specs.state.State.{State, addr}
use Rattle.far_events.specs.state.Words.{with_bytes}
use Rattle.far_events.specs.events.Written.{spliced, written_words}
use Rattle.far_events.proofs.Bounds.{span_len}
use Rattle.far_events.proofs.Calls.{word_behind}
use Rattle.far_events.proofs.Cells.{held_near}
use Rattle.far_core.proofs.Ranges.{stored_beside}
use Rattle.far_events.proofs.Splices.{written_bytes, written_get, written_long, written_padded, written_row}

some_place : (o : Option Place) → IsSome o → (place : Place) × (o ≡ Some place)
some_place None h = absurd (false≢true h)
some_place (Some place) h = (place, refl)

-- its data words have zeros after the last byte
pub data_padded : (s : State) → Law s → (p : ℕ) → IsSome (s.held p) → (i : ℕ) → i < words_for (data_len s p) → s.word (data_word s p i) < 2 ^ (8 * (data_len s p - 8 * i))
data_padded s law p holds i lt =
    let some = some_place (s.held p) holds in
    let place : Place = some.0 in
    let near = held_near _ place (law.views.held_names p place some.1) in
    let len : data_len s p ≡ near.len = ap near_len near.near in
    let long : head_len (s.word (addr place)) ≡ near.len = rw (span_len s law p near.len near.ds place near.marks near.near) refl in
    let heads = law.cells.cell_near p near.len near.ds place near.marks near.near in
    let pads : s.word (addr place + 1 + i) < 2 ^ (8 * (head_len (s.word (addr place)) - 8 * i)) = law.spans.span_padding (addr place) heads.placed i (omega (arith, lt, len, long)) in
    subst (λ n. s.word (data_word s p i) < 2 ^ (8 * (n - 8 * i))) (long ∙ sym len)
    (subst (λ a. s.word a < 2 ^ (8 * (head_len (s.word (addr place)) - 8 * i))) (sym (word_behind s law p i place some.1)) pads)

-- bytes are written into it
module _ (s : State) (law : Law s) (p : ℕ) (holds : IsSome (s.held p)) (from : ℕ) (bs : List ℕ) (inside : from + length bs ≤ data_len s p) where
  abbrev pub data_written : List ℕ
  data_written = written_words (λ i. s.word (data_word s p i)) from bs

  pub written_inside : from / 8 + length data_written ≤ words_for (data_len s p)
  written_inside = omega (arith, written_long (λ i. s.word (data_word s p i)) from bs, inside)

  pub written_pad : ((k : ℕ) → get_or bs k 0 < 256) → (k : ℕ) → k < length data_written → get_or data_written k 0 < 2 ^ (8 * (data_len s p - 8 * (from / 8 + k)))
  written_pad small k lt =
      let word : ℕ → ℕ = λ i. s.word (data_word s p i) in
      let long : length data_written ≡ words_for (from + length bs) - from / 8 = written_long word from bs in
      subst (λ x. x < 2 ^ (8 * (data_len s p - 8 * (from / 8 + k)))) (sym (written_get word from bs k (omega (arith, long, lt))))
      (written_padded word from bs (data_len s p) (from / 8 + k) small inside (data_padded s law p holds (from / 8 + k) (omega (arith, long, lt, inside))))

  -- the state after it
  module _ (small : (k : ℕ) → get_or bs k 0 < 256) (t : State) (is : t ≡ record s { word = with_row s.word (data_word s p (from / 8)) (length data_written) (λ k. get_or data_written k 0) }) where
    words_are : t.word ≡ with_bytes s.word (8 * near_data (read_of (s.cell p)) + from) bs
    words_are = ap (λ (u : State). u.word) is ∙ sym (written_row s.word (near_data (read_of (s.cell p))) from bs law.spans.word_fits)

    pub bytes_after : bytes_of (λ i. t.word (data_word s p i)) (data_len s p) ≡ spliced (bytes_of (λ i. s.word (data_word s p i)) (data_len s p)) from bs
    bytes_after = ap (λ (f : ℕ → ℕ). bytes_of (λ i. f (data_word s p i)) (data_len s p)) words_are
        ∙ written_bytes s.word (near_data (read_of (s.cell p))) from bs (data_len s p) small inside

    pub others_after : (place : Place) → s.held p ≡ Some place → (a : ℕ) → (a < addr place + 1 + from / 8) ⊎ (addr place + 1 + words_for (from + length bs) ≤ a) → t.word a ≡ s.word a
    others_after place held a out = stored_beside s law p (from / 8) (length data_written) (λ k. get_or data_written k 0) t is place held a (past out) where
      past : (a < addr place + 1 + from / 8) ⊎ (addr place + 1 + words_for (from + length bs) ≤ a) → (a < addr place + 1 + from / 8) ⊎ (addr place + 1 + from / 8 + length data_written ≤ a)
      past (inl low) = inl low
      past (inr high) = inr (omega (arith, high, written_long (λ i. s.word (data_word s p i)) from bs))
