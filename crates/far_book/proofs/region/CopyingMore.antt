-- The words of an object that are copied one after the other.
use Rattle.std.proofs.Common.{◌≡◌, ℕ, ◌+◌, ◌*◌, ◌<◌, ◌∙◌, ap, arith, refl, sym, subst}
use Rattle.far_word.specs.declared.pointer.Place.{Place}
use Rattle.far_word.specs.declared.sizes.TheConstants.{LOG_WORDS}
use Rattle.far_word.specs.Header.{head_word}
use Rattle.far_word.specs.Sizes.{words_for}
use Rattle.far_events.specs.declared.event.Event.{Event}
use Rattle.far_events.specs.declared.event.Reply.{Reply}
use Rattle.far_events.specs.events.Copies.{data_at}
use Rattle.far_events.specs.state.State.{State, addr, put}
use Rattle.far_events.proofs.Rows.{row_none}
use Rattle.far_hand.specs.Came.{Came}
use Rattle.far_hand.specs.Ranges.{CopiesRow, CopiesWord, IsPast, IsWithin}
use Rattle.far_hand.proofs.Closure.{first_call, then_call}
use Rattle.far_hand.proofs.Ranges.{turns_came, turns_lead}
use Rattle.far_book.specs.book.Moving.{Copying, MayCopy, with_copied}
use Rattle.far_book.proofs.region.Copying.{copying_more, copying_none, exact_more, from_fits, from_inside, put_legal, quiet_word}

module _ {S : Type 0} (still : Type 0) (view : S → State) (makes : S → Event → Reply → S → Type 0) (from to : Place) where
  abbrev step : ℕ → S → S → Type 0
  step = CopiesWord still view makes from to

  module _ (s : State) (p len ds : ℕ) (may : MayCopy s p len ds from to) where
    word_copied : (k : ℕ) (u v : S) → k < words_for len → step k u v → Copying s (view u) p len ds from to k → Copying s (view v) p len ds from to (k + 1)
    word_copied k u v lt h c =
        let quiet = quiet_word s p len ds from to may (view u) (view h.middle) (view v) k h.word lt c in
        copying_more s p len ds from to may (view u) (view h.middle) (view v) k h.word lt c (h.read.gets.read refl quiet) h.read.gets.padding h.read.gets.known h.wrote.set

    word_only : still → (k : ℕ) (u v : S) → k < words_for len → step k u v → view u ≡ with_copied s p len ds from to k → view v ≡ with_copied s p len ds from to (k + 1)
    word_only on k u v lt h is =
        let target : ℕ = to.log * LOG_WORDS + (to.at + 1 + k) in
        h.wrote.set ∙ ap (λ (x : State). record x { word = put x.word target h.word }) (h.read.same on ∙ is)
        ∙ ap (λ f. record s { word = f }) (exact_more s p len ds from to may k target h.word lt (omega arith) (h.read.exact on ∙ ap (λ (x : State). x.word (from.log * LOG_WORDS + (from.at + 1 + k))) is))

    module _ (u v : S) (row : CopiesRow still view makes from to 0 (words_for len) u v) (head : view u ≡ record s { word = put s.word (addr to) (head_word p len ds) }) where
      first : (k : ℕ) (x y : S) → step (0 + k) x y → step k x y
      first k x y h = let e : 0 + k ≡ k = omega arith in subst (λ q. step q x y) e h

      pub row_copied : Copying s (view v) p len ds from to (words_for len)
      row_copied = turns_lead step (λ k x. Copying s (view x) p len ds from to k) 0 (words_for len) (λ k x y lt h before. word_copied k x y lt (first k x y h) before) u v row
          (copying_none s p len ds from to may (view u) head)

      pub row_only : still → view v ≡ with_copied s p len ds from to (words_for len)
      row_only on = turns_lead step (λ k x. view x ≡ with_copied s p len ds from to k) 0 (words_for len) (λ k x y lt h before. word_only on k x y lt (first k x y h) before) u v row
          (head ∙ ap (λ (f : ℕ → ℕ). record s { word = f }) (row_none (put s.word (addr to) (head_word p len ds)) (addr to + 1) (data_at s.word from)))

    -- what is asked of the hand
    module _ (t : State) (is : t ≡ record s { word = t.word }) where
      pub may_read : IsWithin t from.log (from.at + 1) (words_for len)
      may_read = (subst (λ (x : State). from.log < x.logs) (sym is) (from_inside s p len ds from to may), omega (arith, from_fits s p len ds from to may))

      pub may_write : IsPast t to.log (to.at + 1) (words_for len)
      may_write = let legal = put_legal s p len ds from to may t is to.at 0 (omega arith) (omega (arith, may.fits)) in (legal.0, legal.1, omega (arith, legal.2), omega (arith, may.fits))

  pub row_came : (n : ℕ) (u v : S) → CopiesRow still view makes from to 0 n u v → Came makes u v
  row_came n u v row = turns_came step {makes = makes} (λ i x y h. then_call _ _ (first_call _ _ h.read.made) h.wrote.made) 0 n u v row
