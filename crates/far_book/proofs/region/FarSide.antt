-- What a book's device holds of far objects, and of clean ones, stays right.
use Rattle.std.proofs.Common.{◌≡◌, ℕ, sym, ap, ◌∙◌, subst, Option, Some, List}
use Rattle.far_word.specs.Bytes.{bytes_of}
use Rattle.far_word.specs.Pointer.{read_of}
use Rattle.far_events.specs.state.State.{State, put}
use Rattle.far_events.proofs.Put.{put_both}
use Rattle.far_hand.specs.Finds.{Finds}
use Rattle.far_hand.specs.Others.{OthersChange}
use Rattle.far_book.specs.book.FarSide.{HoldsFar, kept_len}
use Rattle.far_book.proofs.region.FarHeld.{kept_found}

module _ (s : State) (held : ℕ → Option (List ℕ)) (far : HoldsFar s held) where
  found_len : (p w : ℕ) → Finds (s.cell p) w → (q len : ℕ) → kept_len (read_of (put s.cell p w q)) ≡ Some len → kept_len (read_of (s.cell q)) ≡ Some len
  found_len p w f q len = put_both (λ c. kept_len (read_of c) ≡ Some len → kept_len (read_of (s.cell q)) ≡ Some len) s.cell p w q
      (λ e h. kept_found (s.cell q) w (subst (λ k. Finds (s.cell k) w) (sym e) f) len h) (λ _ h. h)

  -- a word is found in a cell
  pub far_found : (p w : ℕ) → Finds (s.cell p) w → HoldsFar (record s { cell = put s.cell p w }) held
  far_found p w f = record {
    long = λ q len h. far.long q len (found_len p w f q len h);
    same = λ honest q len h. far.same honest q len (found_len p w f q len h);
  }

  -- owners are at work
  pub far_owned : (t : State) → OthersChange s t → HoldsFar t held
  far_owned t change = record {
    long = λ q len h. far.long q len (kept_found (s.cell q) (t.cell q) (change.cells q) len h);
    same = λ honest q len h. far.same (sym (ap (λ (u : State). u.honest) change.rest) ∙ honest) q len (kept_found (s.cell q) (t.cell q) (change.cells q) len h)
        ∙ ap (λ (u : State). Some (bytes_of (u.stored q) len)) (sym change.rest);
  }
