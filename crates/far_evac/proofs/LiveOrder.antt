-- The live objects of some logs, in their order.
use Rattle.std.proofs.Common.{◌≡◌, ℕ, zero, suc, ◌+◌, ◌<◌, ◌≤◌, true, eqb, nat_lt, Option, Some, inl, inr, List, [], ◌∷◌, ◌++◌, filter, arith, ap, sym, refl, ◌∙◌}
use Rattle.std.specs.List.{AllByRecursion}
use Rattle.std.proofs.lemmas.Bool.{cond_both, eq-eqb}
use Rattle.std.proofs.lemmas.List.{append_assoc}
use Rattle.far_word.specs.declared.mark.Marks.{Marks}
use Rattle.far_word.specs.declared.pointer.Place.{Place}
use Rattle.far_word.specs.declared.pointer.PtrWord.{PtrWord}
use Rattle.far_word.specs.declared.pointer.PtrWord.TheVariants.{Near}
use Rattle.far_word.specs.Pointer.{read_of}
use Rattle.far_word.specs.Sizes.{size_of}
use Rattle.far_log.specs.declared.span.Span.{Span}
use Rattle.far_log.specs.Spans.{head_len, span_at, spans_from, spans_in}
use Rattle.far_events.specs.state.Spans.{spans_of, is_live, names_place, word_in}
use Rattle.far_events.specs.state.State.{State}
use Rattle.far_evac.specs.Live.{live_among, live_in, pointers_of}
use Rattle.far_evac.specs.LiveLaws.{ComesFirst, IsInTurn, IsNearIn, LiveIsInOrder}
use Rattle.far_evac.specs.RoundSteps.{among}
use Rattle.far_evac.proofs.Bools.{or_left, or_right}
use Rattle.far_evac.proofs.Counted.{distinct_of}
use Rattle.far_evac.proofs.Lacking.{all_at, in_among, in_live, once_among}
use Rattle.far_evac.proofs.LiveOnce.{LivesIn, all_append, behind, each_map, live_named, near_at}

-- what a cell says that names a place
pub place_named : (o : Option PtrWord) (l at len ds : ℕ) (place : Place) (marks : Marks) → names_place o l at ≡ true → o ≡ Some (Near len ds place marks) → (place.log ≡ l) × (place.at ≡ at)
place_named o l at len ds place marks h e =
    let x = near_at o l at h in
    let same : Some (Near len ds place marks) ≡ Some (Near x.len x.ds x.place x.marks) = sym e ∙ x.near in
    let places : place ≡ x.place = cc in
    (ap (λ (p : Place). p.log) places ∙ x.log, ap (λ (p : Place). p.at) places ∙ x.here)

turn_append : (First : ℕ → ℕ → Type 0) (xs ys : List ℕ) → IsInTurn First xs → IsInTurn First ys → AllByRecursion (λ x. AllByRecursion (First x) ys) xs → IsInTurn First (xs ++ ys)
turn_append First [] ys f g h = g
turn_append First (x ∷ xs) ys f g h = (all_append (First x) xs ys f.0 h.0, turn_append First xs ys f.1 g h.1)

module _ (s : State) (logs : List ℕ) where
  -- ---- within a log
  lower : (l p q at to : ℕ) → names_place (read_of (s.cell p)) l at ≡ true → names_place (read_of (s.cell q)) l to ≡ true → at < to → ComesFirst s logs p q
  lower l p q at to here there lt len ds n d from into marks others near other =
      let x = place_named (read_of (s.cell p)) l at len ds from marks here near in
      let y = place_named (read_of (s.cell q)) l to n d into others there other in
      inl (x.0 ∙ sym y.0, (let a = x.1 in let b = y.1 in omega (arith, a, b, lt)))

  lower_all : (l p at : ℕ) → names_place (read_of (s.cell p)) l at ≡ true → (spans : List Span) → AllByRecursion (λ (x : Span). at < x.at) spans →
      AllByRecursion (ComesFirst s logs p) (pointers_of (filter (is_live s l) spans))
  lower_all l p at here [] past = tt
  lower_all l p at here (x ∷ xs) past = cond_both (is_live s l x) (x ∷ filter (is_live s l) xs) (filter (is_live s l) xs) (λ (ys : List Span). AllByRecursion (ComesFirst s logs p) (pointers_of ys))
      (λ live. (lower l p x.p at x.at here live past.0, lower_all l p at here xs past.1)) (λ _. lower_all l p at here xs past.1)

  turn_from : (l : ℕ) (word : ℕ → ℕ) (tail at fuel : ℕ) → IsInTurn (ComesFirst s logs) (pointers_of (filter (is_live s l) (spans_from word tail at fuel)))
  turn_from l word tail at zero = tt
  turn_from l word tail at (suc fuel) =
      let next = at + size_of (head_len (word at)) in
      let rest = spans_from word tail next fuel in
      cond_both (nat_lt at tail) (span_at word at ∷ rest) [] (λ (xs : List Span). IsInTurn (ComesFirst s logs) (pointers_of (filter (is_live s l) xs)))
      (λ _. cond_both (is_live s l (span_at word at)) (span_at word at ∷ filter (is_live s l) rest) (filter (is_live s l) rest) (λ (xs : List Span). IsInTurn (ComesFirst s logs) (pointers_of xs))
      (λ live. (
        lower_all l (span_at word at).p at live rest (each_map (λ (x : Span) (h : next ≤ x.at). omega (arith, h)) rest (behind s l word tail next fuel)),
        turn_from l word tail next fuel,
      ))
      (λ _. turn_from l word tail next fuel))
      (λ _. tt)

  turn_in : (l : ℕ) → IsInTurn (ComesFirst s logs) (live_in s l)
  unfolding live_in spans_of spans_in
  turn_in l = turn_from l (word_in s l) (s.tail l) 0 (s.tail l)

-- ---- log after log
module _ (s : State) where
  near_in : (logs : List ℕ) (l p : ℕ) → among logs l ≡ true → LivesIn s l p → IsNearIn s logs p
  near_in logs l p member lives = let x = near_at (read_of (s.cell p)) l lives.0 lives.1 in
      record { len = x.len; ds = x.ds; place = x.place; marks = x.marks; near = x.near; log = ap (among logs) x.log ∙ member }

  all_near_in : (logs ls : List ℕ) → ((l : ℕ) → among ls l ≡ true → among logs l ≡ true) → AllByRecursion (IsNearIn s logs) (live_among s ls)
  all_near_in logs [] within = tt
  all_near_in logs (l ∷ ls) within =
      all_append (IsNearIn s logs) (live_in s l) (live_among s ls)
      (each_map (λ p lives. near_in logs l p (within l (or_left (eqb l l) (among ls l) (eq-eqb l l refl))) lives) (live_in s l) (live_named s l))
      (all_near_in logs ls (λ k member. within k (or_right (eqb k l) (among ls k) member)))

  module _ (logs : List ℕ) where
    sooner : (before ls : List ℕ) (l p q : ℕ) → logs ≡ before ++ l ∷ ls → LivesIn s l p → IsNearIn s ls q → ComesFirst s logs p q
    sooner before ls l p q parts lives there len ds n d from into marks others near other =
        let x = place_named (read_of (s.cell p)) l lives.0 len ds from marks lives.1 near in
        let same : Some (Near n d into others) ≡ Some (Near there.len there.ds there.place there.marks) = sym other ∙ there.near in
        let places : into ≡ there.place = cc in
        inr record {
          before = before;
          after = ls;
          parts = parts ∙ ap (λ k. before ++ k ∷ ls) (sym x.0);
          member = ap (λ (to : Place). among ls to.log) places ∙ there.log;
        }

    turn_among : (before ls : List ℕ) → logs ≡ before ++ ls → IsInTurn (ComesFirst s logs) (live_among s ls)
    turn_among before [] parts = tt
    turn_among before (l ∷ ls) parts =
        turn_append (ComesFirst s logs) (live_in s l) (live_among s ls) (turn_in s logs l)
        (turn_among (before ++ l ∷ []) ls (parts ∙ sym (append_assoc before (l ∷ []) ls)))
        (each_map (λ p lives. each_map (λ q there. sooner before ls l p q parts lives there) (live_among s ls) (all_near_in ls ls (λ k member. member))) (live_in s l) (live_named s l))

pub live_in_order : LiveIsInOrder
live_in_order s logs law once = record {
  each = λ p. (
    λ member. all_at (IsNearIn s logs) p (live_among s logs) (all_near_in s logs logs (λ k is. is)) member,
    λ x. in_among s law logs x.place.log p x.log (in_live s law p x.len x.ds x.place x.marks x.near),
  );
  once = distinct_of (live_among s logs) (once_among s logs once);
  order = turn_among s logs [] logs refl;
}
