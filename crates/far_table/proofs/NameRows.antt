-- What an exchange of a cell makes of the rows of the book's view, form by form.
use Rattle.std.proofs.Common.{◌≡◌, ◌+◌, ◌<◌, ℕ, Bool, true, false, cond, nat_lt, inl, inr, List, [], ◌∷◌, ◌++◌, Option, Some, sym, refl, ap, ◌∙◌, arith}
use Rattle.std.specs.Prelude.{is_some, ◌==◌}
use Rattle.std.proofs.lemmas.Bool.{cases_lt, le-ltb, lt-ltb, ltb-true}
use mathlib.Core.Path.{fun_ext}
use Rattle.far_word.specs.declared.pointer.Place.{Place}
use Rattle.far_word.specs.Sizes.{words_for}
use Rattle.far_events.specs.events.namings.Evicts.{with_kept}
use Rattle.far_events.specs.state.State.{addr, put}
use Rattle.far_table.specs.View.{BookView}
use Rattle.far_table.specs.First.{rows_from}
use Rattle.far_table.specs.NameViews.{stored_rows}
use Rattle.far_table.specs.Rows.{over}
use Rattle.far_table.specs.StateOf.{stored_word}
use Rattle.far_table.proofs.FirstViews.{over_beside, over_within}

-- rows before others
over_append : {X : Type 0} (xs ys : List (ℕ × X)) (g : ℕ → X) → over (xs ++ ys) g ≡ over xs (over ys g)
over_append [] ys g = refl
over_append (x ∷ xs) ys g = ap (λ f. put f x.0 x.1) (over_append xs ys g)

-- ---- spans that begin, once one more does
pub begins_put : {X : Type 0} (f : ℕ → Option X) (a : ℕ) (h : X) → (λ q. is_some (put f a (Some h) q)) ≡ put (λ q. is_some (f q)) a true
begins_put f a h = fun_ext (λ q. both (q == a) (f q)) where
  both : (t : Bool) (x : Option _) → is_some (cond t (Some h) x) ≡ cond t true (is_some x)
  both true x = refl
  both false x = refl

-- ---- the words that are stored of an object that goes far
kept_rows : (n : ℕ) (w : ℕ → ℕ) (old : List (ℕ × ℕ)) (g : ℕ → ℕ) → over (rows_from 0 n w ++ old) g ≡ (λ i. cond (nat_lt i n) (w i) (over old g i))
kept_rows n w old g = over_append (rows_from 0 n w) old g ∙ fun_ext (λ i. elim (cases_lt i n) [
  | inl lt ↦ over_within w (over old g) n 0 i (omega arith) (omega arith) ∙ sym (ap (λ t. cond t (w i) (over old g i)) (lt-ltb i n lt))
  | inr le ↦ over_beside w (over old g) n 0 i (λ a b. omega arith) ∙ sym (ap (λ t. cond t (w i) (over old g i)) (le-ltb i n le))
])

stored_put : (b : BookView) (p : ℕ) (rows : List (ℕ × ℕ)) → (λ q. over (put (over b.stored (λ _. [])) p rows q) (λ _. 0)) ≡ put (stored_word b) p (over rows (λ _. 0))
stored_put b p rows = fun_ext (λ q. both (q == p) (over b.stored (λ _. []) q)) where
  both : (t : Bool) (x : List (ℕ × ℕ)) → over (cond t rows x) (λ _. 0) ≡ cond t (over rows (λ _. 0)) (over x (λ _. 0))
  both true x = refl
  both false x = refl

-- what is stored is what stands there, or a word that is the same
pub stored_after : (b : BookView) (p len : ℕ) (place : Place) (word row : ℕ → ℕ) → ((i : ℕ) → i < words_for len → word (addr place + 1 + i) ≡ row (addr place + 1 + i)) →
    put (stored_word b) p (with_kept word (stored_word b) p (addr place + 1) (words_for len)) ≡ (λ q. over (put (over b.stored (λ _. [])) p (stored_rows row p len place b) q) (λ _. 0))
stored_after b p len place word row known =
    ap (put (stored_word b) p) (fun_ext (λ i. same (nat_lt i (words_for len)) i refl) ∙ sym (kept_rows (words_for len) (λ i. row (addr place + 1 + i)) (over b.stored (λ _. []) p) (λ _. 0)))
    ∙ sym (stored_put b p (stored_rows row p len place b)) where
      same : (t : Bool) (i : ℕ) → nat_lt i (words_for len) ≡ t → cond t (word (addr place + 1 + i)) (stored_word b p i) ≡ cond t (row (addr place + 1 + i)) (stored_word b p i)
      same true i e = known i (ltb-true i (words_for len) e)
      same false i e = refl
