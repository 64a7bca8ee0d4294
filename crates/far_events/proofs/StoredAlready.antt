-- What is stored of an object that wasn't written since it came.
use Rattle.std.proofs.Common.{◌≡◌, ℕ, ◌+◌, inl, inr, Bool, true, false, cond, sym, ◌∙◌, ap, refl}
use Rattle.std.specs.Prelude.{not}
use Rattle.std.proofs.lemmas.Bool.{cases_lt, lt-ltb, le-ltb}
use mathlib.Core.Path.{fun_ext}
use Rattle.far_word.specs.declared.pointer.Place.{Place}
use Rattle.far_word.specs.Sizes.{words_for}
use Rattle.far_events.specs.state.State.{State, addr, put}
use Rattle.far_events.specs.state.Law.{Law}
use Rattle.far_events.specs.events.namings.Evicts.{with_kept, IsAt}
use Rattle.far_events.proofs.Put.{put_old}

pub clean_is : (dirty : Bool) → not dirty ≡ true → dirty ≡ false
clean_is true h = absurd cc
clean_is false h = refl

-- if the far side is honest, to store the words of a clean object changes nothing
pub stored_already : (s : State) → Law s → (p len : ℕ) (place : Place) (near : IsAt s p len place) → s.honest ≡ true → near.1.dirty ≡ false
    → s ≡ record s { stored = put s.stored p (with_kept s.word s.stored p (addr place + 1) (words_for len)) }
stored_already s law p len place near honest clean =
    let same = (law.cleans p).same honest len near.0 place near.1 near.2 clean in
    let kept : s.stored p ≡ with_kept s.word s.stored p (addr place + 1) (words_for len) = fun_ext (λ i. elim (cases_lt i (words_for len)) [
      | inl lt ↦ same i lt ∙ sym (ap (λ b. cond b (s.word (addr place + 1 + i)) (s.stored p i)) (lt-ltb i (words_for len) lt))
      | inr le ↦ sym (ap (λ b. cond b (s.word (addr place + 1 + i)) (s.stored p i)) (le-ltb i (words_for len) le))
    ]) in
    ap (λ f. record s { stored = f }) (sym (put_old s.stored p (with_kept s.word s.stored p (addr place + 1) (words_for len)) kept))
