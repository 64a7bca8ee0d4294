-- Words behind words are one row of them.
use Rattle.std.proofs.Common.{◌≡◌, ℕ, ◌+◌, ◌*◌, ◌∙◌, ap, arith, refl}
use Rattle.far_word.specs.declared.pointer.Place.{Place}
use Rattle.far_word.specs.declared.sizes.TheConstants.{LOG_WORDS}
use Rattle.far_word.specs.Header.{head_word}
use Rattle.far_word.specs.Sizes.{words_for}
use Rattle.far_events.specs.declared.event.Event.{Event}
use Rattle.far_events.specs.declared.event.Reply.{Reply}
use Rattle.far_events.specs.events.Ranges.{with_row}
use Rattle.far_events.specs.state.State.{State, addr, put}
use Rattle.far_events.proofs.Rows.{row_last, row_none}
use Rattle.far_hand.specs.Came.{Came, only}
use Rattle.far_hand.specs.Ranges.{WritesRow, WritesWord}
use Rattle.far_hand.proofs.Closure.{first_call}
use Rattle.far_hand.proofs.Ranges.{turns_came, turns_lead}
use Rattle.far_book.specs.book.Effects.{with_written_span}
use Rattle.far_book.specs.book.Only.{Writes}

-- these words are those of a row
abbrev pub with_words : State → ℕ → ℕ → ℕ → (ℕ → ℕ) → State
with_words s l at count row = record s { word = with_row s.word (l * LOG_WORDS + at) count row }

-- a word goes on where they end
pub word_then : (s t u : State) (l at n a w : ℕ) (row : ℕ → ℕ) → t ≡ with_words s l at n row → a ≡ l * LOG_WORDS + at + n → w ≡ row n → u ≡ record t { word = put t.word a w } → u ≡ with_words s l at (n + 1) row
word_then s t u l at n a w row first here is then =
    let begin : ℕ = l * LOG_WORDS + at in
    let more : put (with_row s.word begin n row) a w ≡ with_row s.word begin (n + 1) row = row_last s.word begin n row a w here is in
    then ∙ ap (λ (x : State). record x { word = put x.word a w }) first ∙ (λ i. record s { word = more i })

pub words_none : (s : State) (l at : ℕ) (row : ℕ → ℕ) → s ≡ with_words s l at 0 row
words_none s l at row = ap (λ (f : ℕ → ℕ). record s { word = f }) (row_none s.word (l * LOG_WORDS + at) row)

-- a row of words that are written one after the other
module _ {S : Type 0} (still : Type 0) (view : S → State) (makes : S → Event → Reply → S → Type 0) (l at : ℕ) (row : ℕ → ℕ) (n : ℕ) (s t : S) (h : WritesRow still view makes l at row 0 n s t) where
  abbrev step : ℕ → S → S → Type 0
  step i = WritesWord still view makes l (at + i) (row i)

  pub row_set : view t ≡ with_words (view s) l at n row
  row_set = turns_lead step (λ k x. view x ≡ with_words (view s) l at k row) 0 n
      (λ k u v lt w before. let e : 0 + k ≡ k = omega arith in
      word_then (view s) (view u) (view v) l at k (l * LOG_WORDS + (at + (0 + k))) (row (0 + k)) row before (omega arith) (ap row e) w.set)
      s t h (words_none (view s) l at row)

  pub row_puts : Came (only (Writes l) makes) s t
  row_puts = turns_came step {makes = only (Writes l) makes} (λ i u v w. first_call _ _ ((_, _, refl), w.made)) 0 n s t h

-- a header, and a row behind it
pub span_set : (s t u : State) (p len ds w n : ℕ) (place : Place) (row : ℕ → ℕ) → t ≡ record s { word = put s.word (addr place) w } → w ≡ head_word p len ds → n ≡ words_for len →
    u ≡ with_words t place.log (place.at + 1) n row → u ≡ with_written_span s p len ds place row
span_set s t u p len ds w n place row first head all then =
    let e : place.log * LOG_WORDS + (place.at + 1) ≡ addr place + 1 = omega arith in
    then ∙ ap (λ (x : State). with_words x place.log (place.at + 1) n row) first ∙ (λ i. record s { word = with_row (put s.word (addr place) (head i)) (e i) (all i) row })
