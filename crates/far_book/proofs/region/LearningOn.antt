-- An object is read word by word: what is known of its words then.
use Rattle.std.proofs.Common.{◌≡◌, ℕ, ◌+◌, ◌*◌, ◌<◌, ◌≤◌, ◌∙◌, ap, arith, refl, sym, List, take, inl, inr}
use Rattle.std.proofs.lemmas.Bool.{cases_eq}
use Rattle.far_word.specs.declared.pointer.Place.{Place}
use Rattle.far_word.specs.declared.sizes.TheConstants.{LOG_WORDS}
use Rattle.far_word.specs.Bytes.{bytes_of}
use Rattle.far_word.specs.Sizes.{words_for}
use Rattle.far_word.proofs.ByteLaws.{bytes_of-same}
use Rattle.far_events.specs.declared.event.Event.{Event}
use Rattle.far_events.specs.declared.event.Reply.{Reply}
use Rattle.far_events.specs.events.Copies.{data_at}
use Rattle.far_events.specs.state.State.{State, addr, put}
use Rattle.far_events.proofs.Put.{put_other, put_same}
use Rattle.far_hand.specs.Came.{Came, only}
use Rattle.far_hand.specs.Ranges.{ReadsRow, ReadsWord}
use Rattle.far_hand.proofs.Closure.{first_call}
use Rattle.far_hand.proofs.Ranges.{turns_came, turns_keep, turns_lead}
use Rattle.far_book.specs.book.Evicting.{IsQuietData, Learns}
use Rattle.far_book.specs.book.Only.{Reads}
use Rattle.far_book.proofs.region.Learning.{learned_more, learns_none, quiet_now}

-- from s to t the first k words behind a place were read alone: they are known, and those of a row
pub record Known (s t : State) (place : Place) (row : ℕ → ℕ) (k : ℕ) : Type 0 where
  pub kept : t ≡ record s { word = t.word }
  pub learned : Learns s t.word place k
  pub words : (j : ℕ) → j < k → t.word (addr place + 1 + j) ≡ row j

module _ {S : Type 0} (still : Type 0) (view : S → State) (makes : S → Event → Reply → S → Type 0) (place : Place) (row : ℕ → ℕ) where
  abbrev step : ℕ → S → S → Type 0
  step i = ReadsWord still view makes place.log (place.at + 1 + i) (row i)

  known_none : (s : State) → Known s s place row 0
  known_none s = record { kept = refl; learned = learns_none s place; words = λ j lt. absurd (omega arith) }

  known_more : (s : State) (len k i : ℕ) (u v : S) → IsQuietData s len place → k < words_for len → i ≡ k → step i u v → Known s (view u) place row k → Known s (view v) place row (k + 1)
  known_more s len k i u v object lt same h b =
      let a : ℕ = place.log * LOG_WORDS + (place.at + 1 + i) in
      let here : a ≡ addr place + 1 + k = omega (arith, same) in
      let read = h.gets.read refl (quiet_now s (view u) (view v) len place k a (row i) object b.kept b.learned lt here) in
      let word_is : (view v).word ≡ put (view u).word a (row i) = ap (λ (x : State). x.word) read in record {
        kept = h.gets.rest ∙ ap (λ (x : State). record x { word = (view v).word }) b.kept;
        learned = learned_more s (view u) (view v) len place k a (row i) object b.kept b.learned lt here read h.fits h.gets.known h.gets.padding;
        words = λ j low. elim (cases_eq j k) [
          | inl e ↦ (let last : i ≡ j = omega (arith, same, e) in
              ap (λ f. f (addr place + 1 + j)) word_is ∙ put_same (view u).word a (row i) (addr place + 1 + j) (omega (arith, here, e)) ∙ ap row last)
          | inr ne ↦ ap (λ f. f (addr place + 1 + j)) word_is ∙ put_other (view u).word a (row i) (addr place + 1 + j) (λ e. ne (omega (arith, here, e))) ∙ b.words j (omega (arith, low, ne))
        ];
      }

  module _ (n : ℕ) (s t : S) (h : ReadsRow still view makes place.log (place.at + 1) row 0 n s t) where
    pub row_known : (len : ℕ) → IsQuietData (view s) len place → n ≤ words_for len → Known (view s) (view t) place row n
    row_known len object few = turns_lead step (λ k x. Known (view s) (view x) place row k) 0 n (λ k u v lt w before. known_more (view s) len k (0 + k) u v object (omega (arith, lt, few)) (omega arith) w before) s t h (known_none (view s))

    pub row_same : still → view t ≡ view s
    row_same on = turns_keep step (λ x. view x ≡ view s) (λ i u v w e. w.same on ∙ e) 0 n s t h refl

    pub row_reads : Came (only (Reads place.log) makes) s t
    row_reads = turns_came step {makes = only (Reads place.log) makes} (λ i u v w. first_call _ _ ((_, refl), w.made)) 0 n s t h

-- so are the bytes in front of a row
pub bytes_known : (s t : State) (place : Place) (row : ℕ → ℕ) (n : ℕ) (xs : List ℕ) → Known s t place row n → take (8 * n) xs ≡ bytes_of row (8 * n) → take (8 * n) xs ≡ bytes_of (data_at t.word place) (8 * n)
bytes_known s t place row n xs h front = front ∙ bytes_of-same row (data_at t.word place) (8 * n) (λ j lt. sym (h.words j (omega (arith, lt))))
