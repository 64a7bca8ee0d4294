-- The stores of a write.
use Rattle.std.proofs.Common.{◌≡◌, ℕ, ◌+◌, ◌/◌, ◌<◌, ◌≤◌, true, List, length, get_or, refl, ap, ◌∙◌, arith}
use Rattle.std.specs.Prelude.{slice_index, map}
use Rattle.std.specs.List.{range_with_len}
use Rattle.std.proofs.lemmas.Bool.{eq-eqb}
use Rattle.far_word.specs.Bytes.{packed_word}
use Rattle.far_word.specs.declared.sizes.TheConstants.{CELLS}
use Rattle.far_events.specs.declared.event.Event.{Event}
use Rattle.far_events.specs.declared.event.Event.TheVariants.{Load as Loads, Store as Stores}
use Rattle.far_events.specs.events.Ranges.{stores}
use Rattle.far_events.specs.events.Step.{data_len, data_word}
use Rattle.far_events.specs.events.Written.{written_words}
use Rattle.far_events.specs.state.Law.{Law}
use Rattle.far_events.specs.state.State.{State}
use Rattle.far_events.proofs.Splices.{written_get, written_long}
use Rattle.far_alone.specs.Events.{first_word, store_events, words_touched}
use Rattle.far_alone.specs.Objects.{data_of, uses, with_range}
use Rattle.far_alone.proofs.RangeWrites.{object_padded, rows_same, written_word}

pub uses_own : (s : State) (m p : ℕ) → p / CELLS ≡ m → s.used p ≡ true → uses s m p ≡ true
uses_own s m p own used = rw (eq-eqb (p / CELLS) m own, used) refl

module _ (t : State) (law : Law t) (m p from : ℕ) (new : List ℕ) (inside : from + length new ≤ data_len t p) where
  abbrev word : ℕ → ℕ
  word i = t.word (data_word t p i)

  abbrev after : List ℕ
  after = with_range (data_of t p) from new

  abbrev row : ℕ → List Event
  row n = map (λ i. Stores m p (first_word from + i) (slice_index (written_words word from new) i)) (range_with_len 0 n)

  -- a word that is written is the object's with the new bytes in place
  word_made : (i : ℕ) → i < words_touched from (length new) → get_or (written_words word from new) i 0 ≡ packed_word after (first_word from + i)
  word_made i lt =
      written_get word from new i (omega (arith, lt))
      ∙ written_word word (data_len t p) from new inside (object_padded t law p) (first_word from + i) (omega (arith, lt, inside))

  -- the stores of the words that are written are those of the new bytes
  pub stores_made : stores m p (first_word from) (written_words word from new) ≡ store_events m p (first_word from) (words_touched from (length new)) after
  stores_made =
      ap row (written_long word from new)
      ∙ rows_same (Loads 0 0 0) (λ i. Stores m p (first_word from + i) (slice_index (written_words word from new) i)) (λ i. Stores m p i (packed_word after i)) 0 (first_word from) (words_touched from (length new))
      (λ i lt. let here : 0 + i ≡ i = omega arith in
      ap (λ k. Stores m p (first_word from + k) (slice_index (written_words word from new) k)) here ∙ ap (Stores m p (first_word from + i)) (word_made i lt))
