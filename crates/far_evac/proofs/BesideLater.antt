-- What is left to be met in a log, behind an object that was dealt with there.
use Rattle.std.proofs.Common.{◌≡◌, ◌≢◌, ◌<◌, ◌≤◌, ◌&&◌, ◌==◌, ℕ, Bool, true, false, nat_le, Option, Some, filter, inl, inr, arith, ap, sym, refl, ◌∙◌}
use Rattle.std.proofs.lemmas.Bool.{cases_eq, ne_eqb}
use Rattle.std.proofs.lemmas.Bool.Decides.{nat_tests}
use mathlib.Core.Path.{fun_ext}
use Rattle.far_word.specs.declared.mark.Marks.{Marks}
use Rattle.far_word.specs.declared.pointer.Place.{Place}
use Rattle.far_word.specs.declared.pointer.PtrWord.{PtrWord}
use Rattle.far_word.specs.declared.pointer.PtrWord.TheVariants.{Near}
use Rattle.far_word.specs.Pointer.{read_of}
use Rattle.far_log.specs.declared.span.Span.{Span}
use Rattle.far_events.specs.state.Spans.{spans_of, is_live, names_place}
use Rattle.far_events.specs.state.State.{State}
use Rattle.far_book.specs.book.NextLive.{live_from}

and_off : (a b : Bool) → (a && false) ≡ (b && false)
and_off true true = refl
and_off true false = refl
and_off false true = refl
and_off false false = refl

module _ (s t : State) (p l at : ℕ) (spans : spans_of t l ≡ spans_of s l) (others : (q : ℕ) → q ≢ p → t.cell q ≡ s.cell q)
    (was : (k : ℕ) → at ≤ k → names_place (read_of (s.cell p)) l k ≡ false) (is : (k : ℕ) → at ≤ k → names_place (read_of (t.cell p)) l k ≡ false) where
  still_named : (x : Span) → at ≤ x.at → is_live t l x ≡ is_live s l x
  still_named x le = elim (cases_eq x.p p) [
    | inl e ↦ ap (λ q. names_place (read_of (t.cell q)) l x.at) e ∙ is x.at le ∙ sym (ap (λ q. names_place (read_of (s.cell q)) l x.at) e ∙ was x.at le)
    | inr ne ↦ ap (λ w. names_place (read_of w) l x.at) (others x.p ne)
  ]

  same_test : (x : Span) → (is_live t l x && nat_le at x.at) ≡ (is_live s l x && nat_le at x.at)
  same_test x = by_place (nat_le at x.at) refl where
    by_place : (b : Bool) → nat_le at x.at ≡ b → (is_live t l x && b) ≡ (is_live s l x && b)
    by_place true le = ap (λ a. a && true) (still_named x (grind (arith, nat_tests, le)))
    by_place false le = and_off (is_live t l x) (is_live s l x)

  pub from_dealt : live_from t l at ≡ live_from s l at
  from_dealt =
      ap (λ test. filter test (spans_of t l)) (fun_ext (λ (x : Span). same_test x))
      ∙ ap (λ spans. filter (λ (x : Span). is_live s l x && nat_le at x.at) spans) spans

-- ---- an object that lies in front names no place behind
not_same : (a b : Bool) → b ≡ false → (a && b) ≡ false
not_same true b e = e
not_same false b e = refl

pub in_front : (o : Option PtrWord) (len ds : ℕ) (place : Place) (m : Marks) → o ≡ Some (Near len ds place m) → (l at : ℕ) → place.at < at → (k : ℕ) → at ≤ k → names_place o l k ≡ false
in_front o len ds place m near l at lt k le = ap (λ o. names_place o l k) near ∙ not_same (place.log == l) (place.at == k) (ne_eqb place.at k (λ e. omega (arith, e, lt, le)))
