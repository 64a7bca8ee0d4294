-- What a view says of a span that a call begins: its header is known, as each one before.
use Rattle.std.proofs.Common.{◌≡◌, ℕ, ◌*◌, ◌^◌, ◌<◌, Bool, true, Some, sym, ap, ◌∙◌, subst, arith}
use Rattle.std.specs.Prelude.{◌||◌}
use Rattle.far_word.specs.declared.mark.Marks.{Marks}
use Rattle.far_word.specs.declared.pointer.Place.{Place}
use Rattle.far_word.specs.declared.pointer.PtrWord.TheVariants.{Near}
use Rattle.far_word.specs.declared.sizes.TheConstants.{CELLS}
use Rattle.far_word.specs.Header.{head_word}
use Rattle.far_word.specs.Pointer.{read_of}
use Rattle.far_word.proofs.HeaderLaws.{head_fits}
use Rattle.far_word.proofs.PointerLaws.{read_says}
use Rattle.far_events.specs.state.Law.{Law}
use Rattle.far_events.specs.state.State.{State, put}
use Rattle.far_events.proofs.Bounds.{header}
use Rattle.far_events.proofs.Put.{put_both}
use Rattle.far_hand.specs.Known.{IsKnown}
use Rattle.far_hand.specs.Masked.{masked}
use Rattle.far_hand.proofs.Reading.{known_word, header_known}

-- a header fits a word
pub header_small : (s : State) → Law s → (v p len ds : ℕ) (place : Place) (m : Marks) → p < CELLS * s.mutators → v < 2 ^ 64 → read_of v ≡ Some (Near len ds place m) → head_word p len ds < 2 ^ 64
header_small s law v p len ds place m small fits e =
    let says = read_says v (Near len ds place m) fits e in
    head_fits (header p len ds) (record { some = omega (arith, says.0); most = omega (arith, says.0); structure = omega (arith, says.0); cell = omega (arith, small, law.shape.few_mutators) })

module _ (s : State) (found : ℕ → ℕ) (counted : ℕ → Bool) (jobs : ℕ → ℕ) where
  abbrev o : State
  o = masked s found counted jobs

  -- a word of the view that is a word, is the word itself
  pub word_is : (a w : ℕ) → w < 2 ^ 64 → o.word a ≡ w → s.word a ≡ w
  word_is a w lt e = sym (known_word (s.starts a || counted a) (s.word a) a (subst IsKnown (sym e) lt)) ∙ e

  -- each header is known: those that were, and that of a new span
  pub new_headers : (at head : ℕ) → head < 2 ^ 64 → o.word at ≡ head → (a : ℕ) → put s.starts at true a ≡ true → s.word a ≡ o.word a
  new_headers at head small is a = put_both (λ b. b ≡ true → s.word a ≡ o.word a) s.starts at true a
      (λ e _. ap s.word e ∙ ((word_is at head small is ∙ sym is) ∙ ap o.word (sym e)))
      (λ _ begun. sym (header_known s.word s.starts counted a begun))
