-- Lists of live objects: what is found in cells leaves them; an object that leaves its place leaves them alone.
use Rattle.std.proofs.Common.{◌≡◌, ◌≢◌, ℕ, zero, suc, ◌+◌, ◌<◌, Bool, true, false, cond, not, ◌&&◌, ◌==◌, nat_eq, nat_lt, Option, Some, List, [], ◌∷◌, filter, arith, ap, sym, refl, ◌∙◌}
use Rattle.std.proofs.lemmas.Bool.{cond_both}
use Rattle.std.proofs.lemmas.Bool.Decides.{nat_tests}
use mathlib.Core.Path.{fun_ext}
use Rattle.far_word.specs.declared.pointer.PtrWord.{PtrWord}
use Rattle.far_word.specs.declared.pointer.PtrWord.TheVariants.{Free}
use Rattle.far_word.specs.Pointer.{read_of}
use Rattle.far_word.specs.Sizes.{size_of}
use Rattle.far_log.specs.declared.span.Span.{Span}
use Rattle.far_log.specs.Spans.{head_len, span_at, spans_from, spans_in}
use Rattle.far_events.specs.state.Spans.{spans_of, is_live, names_place, word_in}
use Rattle.far_events.specs.state.State.{State, put}
use Rattle.far_events.proofs.Put.{put_other}
use Rattle.far_hand.specs.Finds.{Finds, body_of}
use Rattle.far_evac.specs.AnyHand.{Knows}
use Rattle.far_evac.specs.Live.{live_in, pointers_of}
use Rattle.far_book.specs.book.Releasing.{released}

-- ---- a word that was found names the place that was known
pub names_body : (cell : Option PtrWord) (l at : ℕ) → names_place cell l at ≡ names_place (body_of cell) l at
names_body (Some Free) l at = refl
names_body _ l at = refl

pub finds_place : (known found : ℕ) → Finds known found → (l at : ℕ) → names_place (read_of found) l at ≡ names_place (read_of known) l at
finds_place known found finds l at = names_body (read_of found) l at ∙ ap (λ cell. names_place cell l at) finds.body ∙ sym (names_body (read_of known) l at)

-- so what is known of a state says which objects are live
pub knows_live : (s t : State) → Knows s t → (l : ℕ) → live_in t l ≡ live_in s l
unfolding live_in
knows_live s t known l =
    ap (λ test. pointers_of (filter test (spans_of t l))) (fun_ext (λ (span : Span). finds_place (s.cell span.p) (t.cell span.p) (known.found span.p) l span.at))
    ∙ ap (λ spans. pointers_of (filter (is_live s l) spans)) (known.spans l)

-- ---- an object whose cell no longer names the log leaves its list, and no other does
module _ (s : State) (p new l : ℕ) (gone : (at : ℕ) → names_place (read_of new) l at ≡ false) where
  live_both : (span : Span) → is_live (record s { cell = put s.cell p new }) l span ≡ (not (span.p == p) && is_live s l span)
  live_both span = cond_both (nat_eq span.p p) new (s.cell span.p) (λ w. names_place (read_of w) l span.at ≡ (not (nat_eq span.p p) && is_live s l span))
      (λ e. gone span.at ∙ ap (λ b. not b && is_live s l span) (sym e))
      (λ e. ap (λ b. not b && is_live s l span) (sym e))

  -- one span: whether it is live now and was before, and whether it is p's
  one : (span : Span) (now before : List Span) → pointers_of now ≡ filter (λ q. not (q == p)) (pointers_of before) →
      (was its is : Bool) → nat_eq span.p p ≡ its → is ≡ (not its && was) →
      pointers_of (cond is (span ∷ now) now) ≡ filter (λ q. not (q == p)) (pointers_of (cond was (span ∷ before) before))
  one span now before rest false true is e h = ap (λ b. pointers_of (cond b (span ∷ now) now)) h ∙ rest
  one span now before rest false false is e h = ap (λ b. pointers_of (cond b (span ∷ now) now)) h ∙ rest
  one span now before rest true true is e h = ap (λ b. pointers_of (cond b (span ∷ now) now)) h ∙ rest
      ∙ ap (λ b. cond (not b) (span.p ∷ filter (λ q. not (q == p)) (pointers_of before)) (filter (λ q. not (q == p)) (pointers_of before))) (sym e)
  one span now before rest true false is e h = ap (λ b. pointers_of (cond b (span ∷ now) now)) h ∙ ap (λ qs. span.p ∷ qs) rest
      ∙ ap (λ b. cond (not b) (span.p ∷ filter (λ q. not (q == p)) (pointers_of before)) (filter (λ q. not (q == p)) (pointers_of before))) (sym e)

  all : (spans : List Span) → pointers_of (filter (is_live (record s { cell = put s.cell p new }) l) spans) ≡ filter (λ q. not (q == p)) (pointers_of (filter (is_live s l) spans))
  all [] = refl
  all (span ∷ spans) =
      one span (filter (is_live (record s { cell = put s.cell p new }) l) spans) (filter (is_live s l) spans) (all spans) (is_live s l span)
      (nat_eq span.p p) (is_live (record s { cell = put s.cell p new }) l span) refl (live_both span)

  pub live_left : live_in (record s { cell = put s.cell p new }) l ≡ filter (λ q. not (q == p)) (live_in s l)
  unfolding live_in spans_of
  live_left = all (spans_of s l)

-- ---- the spans of a log are read of the words below its tail
pub same_spans : (word other : ℕ → ℕ) (tail at fuel : ℕ) → ((i : ℕ) → i < tail → other i ≡ word i) → spans_from other tail at fuel ≡ spans_from word tail at fuel
same_spans word other tail at zero same = refl
same_spans word other tail at (suc fuel) same =
    cond_both (nat_lt at tail) (span_at other at ∷ spans_from other tail (at + size_of (head_len (other at))) fuel) [] (λ spans. spans ≡ spans_from word tail at (suc fuel))
    (λ (h : nat_lt at tail ≡ true).
    let e : other at ≡ word at = same at (grind (arith, nat_tests)) in
    ap (λ w. span_at (λ _. w) at ∷ spans_from other tail (at + size_of (head_len w)) fuel) e
    ∙ ap (λ spans. span_at word at ∷ spans) (same_spans word other tail (at + size_of (head_len (word at))) fuel same)
    ∙ ap (λ b. cond b (span_at word at ∷ spans_from word tail (at + size_of (head_len (word at))) fuel) []) (sym h))
    (λ (h : nat_lt at tail ≡ false). ap (λ b. cond b (span_at word at ∷ spans_from word tail (at + size_of (head_len (word at))) fuel) []) (sym h))

-- a log that is given back leaves the live objects of the others
pub live_released : (s : State) (k l : ℕ) → l ≢ k → live_in (released s k) l ≡ live_in s l
unfolding live_in spans_of
live_released s k l other =
    ap (λ tail. pointers_of (filter (is_live s l) (spans_in (word_in s l) tail))) (put_other s.tail k 0 l other)
