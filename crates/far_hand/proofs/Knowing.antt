-- What a beset hand's view says of copies, quiet objects and stored words is so.
use Rattle.std.proofs.Common.{◌≡◌, ℕ, ◌-◌, ◌*◌, ◌^◌, ◌<◌, ◌≤◌, Bool, true, false, cond, Option, Some, None, inl, inr, refl, sym, ap, ◌∙◌, arith}
use Rattle.std.specs.Prelude.{◌||◌}
use Rattle.std.proofs.lemmas.Bool.{false≢true}
use lib.Pow.{pow_mono}
use Rattle.far_word.specs.declared.pointer.Place.{Place}
use Rattle.far_word.specs.declared.pointer.PtrWord.{PtrWord}
use Rattle.far_word.specs.declared.pointer.PtrWord.TheVariants.{Free, Near, Far}
use Rattle.far_word.specs.Pointer.{read_of}
use Rattle.far_word.specs.Sizes.{words_for}
use Rattle.far_events.specs.declared.naming.Naming.TheVariants.{Evicts}
use Rattle.far_events.specs.events.Naming.{IsNaming, no_marks}
use Rattle.far_events.specs.events.namings.Fetches.{words_stored}
use Rattle.far_events.specs.events.Quiet.{has_move, IsQuiet}
use Rattle.far_events.proofs.Cells.{unused}
use Rattle.far_events.specs.state.Law.{Law}
use Rattle.far_events.specs.state.State.{State}
use Rattle.far_hand.specs.Finds.{Finds, body_of, marks_in}
use Rattle.far_hand.specs.Known.{unknown}
use Rattle.far_hand.specs.Masked.{masked}
use Rattle.far_hand.proofs.Finding.{near_found}

-- ---- words that a view says are the same
both_same : (b c : Bool) (v w x y : ℕ) → v < 2 ^ 64 → w < 2 ^ 64 → (x ≡ y → v ≡ w) → cond b v (unknown x) ≡ cond c w (unknown y) → v ≡ w
both_same true true v w x y f g one e = e
both_same true false v w x y f g one e = absurd (omega arith)
both_same false true v w x y f g one e = absurd (omega arith)
both_same false false v w x y f g one e = one (omega arith)

module _ (s : State) (found : ℕ → ℕ) (counted : ℕ → Bool) (jobs : ℕ → ℕ) where
  abbrev o : State
  o = masked s found counted jobs

  pub alike_words : Law s → (a b : ℕ) → o.word a ≡ o.word b → s.word a ≡ s.word b
  alike_words law a b e = both_same (s.starts a || counted a) (s.starts b || counted b) (s.word a) (s.word b) a b (law.spans.word_fits a) (law.spans.word_fits b) (ap s.word) e

  -- ---- what was found quiet is quiet
  pub quiet_too : (p : ℕ) → Finds (found p) (s.cell p) → IsQuiet o p → IsQuiet s p
  quiet_too p finds (inl moved) = inl (from_marks (read_of (s.cell p)) (finds.moved (to_marks (read_of (found p)) moved))) where
    to_marks : (c : Option PtrWord) → has_move c ≡ true → (marks_in c).moved ≡ true
    to_marks None h = absurd (false≢true h)
    to_marks (Some Free) h = absurd (false≢true h)
    to_marks (Some (Near len ds place m)) h = h
    to_marks (Some (Far len ds m)) h = h

    from_marks : (c : Option PtrWord) → (marks_in c).moved ≡ true → has_move c ≡ true
    from_marks None h = h
    from_marks (Some Free) h = h
    from_marks (Some (Near len ds place m)) h = h
    from_marks (Some (Far len ds m)) h = h
  quiet_too p finds (inr (len, ds, place, m, near, evac, round, clear)) =
      let x = near_found (found p) (s.cell p) finds len ds place m near in
      inr (len, ds, place, x.marks, x.near, x.same ∙ evac, round, clear)

-- ---- as many words are stored of what is found as of what was known
stored_body : (c : Option PtrWord) → words_stored (body_of c) ≡ words_stored c
stored_body None = refl
stored_body (Some Free) = refl
stored_body (Some (Near len ds place m)) = refl
stored_body (Some (Far len ds m)) = refl

pub stored_too : (v w : ℕ) → Finds v w → (n : ℕ) → words_stored (read_of v) ≡ n → words_stored (read_of w) ≡ n
stored_too v w finds n e = sym (stored_body (read_of w)) ∙ ap words_stored finds.body ∙ stored_body (read_of v) ∙ e

-- stored words are words
pub stored_fits : (s : State) → Law s → (p n : ℕ) → words_stored (read_of (s.cell p)) ≡ n → (i : ℕ) → i < n → s.stored p i < 2 ^ 64
stored_fits s law p n e i lt = at (read_of (s.cell p)) refl e where
  at : (c : Option PtrWord) → read_of (s.cell p) ≡ c → words_stored c ≡ n → s.stored p i < 2 ^ 64
  at None is h = omega arith
  at (Some Free) is h = omega arith
  at (Some (Near len ds place m)) is h = omega arith
  at (Some (Far len ds m)) is h = (law.cells.cell_far p len ds m is i (omega arith)).0

-- a last word has 64 bits at most
pub few_bits : (len : ℕ) → 0 < len → 2 ^ (8 * (len - 8 * (words_for len - 1))) ≤ 2 ^ 64
few_bits len some = let h : 8 * (len - 8 * (words_for len - 1)) ≤ 64 = omega arith in pow_mono h

-- ---- what sends nothing far
pub not_from_free : (new len : ℕ) (place : Place) → IsNaming (Evicts len place) (read_of 0) (read_of new) → ⊥
not_from_free new len place n = let odd : Some Free ≡ Some (Near len n.0 place n.1) = sym unused ∙ n.2 in cc

pub not_to_free : (old len : ℕ) (place : Place) → IsNaming (Evicts len place) (read_of old) (read_of 0) → ⊥
not_to_free old len place n = let odd : Some Free ≡ Some (Far len n.0 no_marks) = sym unused ∙ n.5 in cc
