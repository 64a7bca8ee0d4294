-- Which objects turns deal with, one after the other: those that stood first when they began. Under other keys the device has what it had.
use Rattle.std.proofs.Common.{◌≡◌, ◌≢◌, ℕ, ◌+◌, false, Option, List, [], ◌∷◌, ◌++◌, filter, take, drop, arith, ap, sym, refl, ◌∙◌, subst}
use Rattle.std.proofs.lemmas.List.{drop-drop}
use Rattle.std.proofs.Math.Seq.{take-add}
use Rattle.std.specs.List.{AllByRecursion}
use mathlib.Core.Path.{fun_ext}
use Rattle.far_word.specs.Pointer.{read_of}
use Rattle.far_log.specs.declared.span.Span.{Span}
use Rattle.far_events.specs.state.Spans.{is_live, names_place, spans_of}
use Rattle.far_events.specs.state.State.{State}
use Rattle.far_evac.specs.AnyHand.{KnowsMoment}
use Rattle.far_evac.specs.Asked.{KeepsKeys, first_live}
use Rattle.far_evac.specs.Live.{live_among, live_in, pointers_of}
use Rattle.far_evac.specs.Marking.{after_marking}
use Rattle.far_evac.specs.Moment.{Moment, Tally, objects_in, plus}
use Rattle.far_evac.specs.MomentLaw.{has_risen}
use Rattle.far_evac.specs.RoundSteps.{with_clear_below}
use Rattle.far_evac.proofs.InOrder.{in_order}
use Rattle.far_evac.proofs.SmallSteps.{left_known}
use Rattle.far_evac.proofs.Readiness.{risen_is_ready}
use Rattle.far_evac.proofs.RoomTaken.{Alike, names_spot}
use Rattle.far_evac.proofs.RoomTurns.{clear_alike, marking_alike, marking_held}
use Rattle.far_evac.proofs.TurnSteps.{Alone, KeepsTurns, keeps_alone}

-- ---- lists in two parts
both_parts : (P : ℕ → Type 0) (xs ys : List ℕ) → AllByRecursion P (xs ++ ys) → AllByRecursion P xs × AllByRecursion P ys
both_parts P [] ys h = (tt, h)
both_parts P (x ∷ xs) ys h = let rest = both_parts P xs ys h.1 in ((h.0, rest.0), rest.1)

keys_join : (xs ys : List ℕ) (a b c : ℕ → Option (List ℕ)) → KeepsKeys xs a b → KeepsKeys ys b c → KeepsKeys (xs ++ ys) a c
keys_join xs ys a b c first then p none = let parts = both_parts (λ q. q ≢ p) xs ys none in then p parts.1 ∙ first p parts.0

-- ---- what leaves places alone leaves the live objects
module _ (s t : State) (alike : Alike s t) where
  same_place : (p l at : ℕ) → names_place (read_of (t.cell p)) l at ≡ names_place (read_of (s.cell p)) l at
  same_place p l at = names_spot (read_of (t.cell p)) l at ∙ ap (λ cell. names_place cell l at) (alike.spots p) ∙ sym (names_spot (read_of (s.cell p)) l at)

  same_in : (l : ℕ) → live_in t l ≡ live_in s l
  unfolding live_in
  same_in l =
      ap (λ test. pointers_of (filter test (spans_of t l))) (fun_ext (λ (span : Span). same_place span.p l span.at))
      ∙ ap (λ spans. pointers_of (filter (is_live s l) spans)) (alike.spans l)

  pub same_live : (ls : List ℕ) → live_among t ls ≡ live_among s ls
  same_live [] = refl
  same_live (l ∷ ls) = ap (λ live. live ++ live_among t ls) (same_in l) ∙ ap (λ more. live_in s l ++ more) (same_live ls)

known_live : (m t : Moment) → KnowsMoment m t → live_among t.core t.collection ≡ live_among m.core m.collection
known_live m t known = ap (live_among t.core) (ap (λ (x : Moment). x.collection) known.rest) ∙ left_known m.core t.core known.core m.collection

-- ---- all but those that were counted are left
abbrev pub LeftOf : Moment → Moment → Tally → Type 0
LeftOf m t tally = live_among t.core t.collection ≡ drop (objects_in tally) (live_among m.core m.collection)

pub keeps_left : (m : Moment) → KeepsTurns false (Alone (LeftOf m))
keeps_left m = keeps_alone (LeftOf m) record {
  learns = λ u t tally known h. known_live u t known ∙ h;
  marks = λ u n tally lawful is h.
      ap (live_among (after_marking u n).core) (marking_held u n) ∙ same_live u.core (after_marking u n).core (marking_alike u n (λ p. (lawful.0.cells.cell_read p).0)) u.collection ∙ h;
  looks = λ u k phase tally lawful is h. same_live u.core (with_clear_below u.core k) (clear_alike u.core k) u.collection ∙ h;
  walks = λ u k w tally lawful is walks h.
      let order = in_order u k w (risen_is_ready u lawful.0 lawful.1 (ap has_risen is)) walks in
      let sum : objects_in tally + k ≡ objects_in (plus tally w.tally) = omega (arith, order.counted) in
      order.left ∙ ap (drop k) h ∙ drop-drop k (objects_in tally) (live_among m.core m.collection) ∙ ap (λ n. drop n (live_among m.core m.collection)) sum;
  ends = λ u tally h. h;
}

-- ---- after turns that dealt with so many, one turn more
module _ (m u : Moment) (before : Tally) (stood : live_among u.core u.collection ≡ drop (objects_in before) (live_among m.core m.collection)) where
  first_on : (k n : ℕ) → n ≡ objects_in before + k → first_live m (objects_in before) ++ first_live u k ≡ first_live m n
  first_on k n sum =
      ap (λ xs. first_live m (objects_in before) ++ take k xs) stood ∙ sym (take-add (objects_in before) k (live_among m.core m.collection)) ∙ ap (λ x. take x (live_among m.core m.collection)) (sym sum)

  module _ (a b c : ℕ → Option (List ℕ)) (keys : KeepsKeys (first_live m (objects_in before)) a b) (tally : Tally) where
    pub keys_on : KeepsKeys (first_live u (objects_in tally)) b c → KeepsKeys (first_live m (objects_in (plus before tally))) a c
    keys_on then =
        let sum : objects_in (plus before tally) ≡ objects_in before + objects_in tally = omega arith in
        subst (λ xs. KeepsKeys xs a c) (first_on (objects_in tally) (objects_in (plus before tally)) sum)
        (keys_join (first_live m (objects_in before)) (first_live u (objects_in tally)) a b c keys then)

    pub keys_stop : KeepsKeys (first_live u (objects_in tally + 1)) b c → KeepsKeys (first_live m (objects_in (plus before tally) + 1)) a c
    keys_stop then =
        let sum : objects_in (plus before tally) + 1 ≡ objects_in before + (objects_in tally + 1) = omega arith in
        subst (λ xs. KeepsKeys xs a c) (first_on (objects_in tally + 1) (objects_in (plus before tally) + 1) sum)
        (keys_join (first_live m (objects_in before)) (first_live u (objects_in tally + 1)) a b c keys then)
