-- What marking counts, where it goes on, and where the epoch rises.
use Rattle.std.proofs.Common.{◌≡◌, ◌≢◌, ℕ, zero, suc, ◌+◌, ◌^◌, ◌<◌, ◌≤◌, Bool, true, false, cond, not, eqb, Some, None, List, [], ◌∷◌, length, take, drop, filter, arith, ap, sym, refl, ◌∙◌, subst}
use Rattle.std.proofs.lemmas.List.{drop_all, drop_min, length-take, length-take-le}
use Rattle.std.specs.Prelude.{Contains}
use Rattle.std.specs.List.{AllByRecursion, IsDistinct}
use Rattle.std.proofs.lemmas.Bool.{cond_both, ne_eqb, not-true}
use Rattle.std.proofs.lemmas.Bool.Decides.{nat_tests}
use Rattle.far_word.specs.Pointer.{read_of}
use Rattle.far_log.proofs.Members.{here, there}
use Rattle.far_events.specs.state.Spans.{spans_of}
use Rattle.far_events.specs.state.State.{State}
use Rattle.far_book.specs.book.Dealing.{has_evac}
use Rattle.far_evac.specs.declared.phase.Phase.TheVariants.{Waiting}
use Rattle.far_evac.specs.Laws.{IsCounted, MarkingIsCounted}
use Rattle.far_evac.specs.Live.{is_empty, lacking, live_among, live_in}
use Rattle.far_evac.specs.Marking.{after_marking, leaves_some, marked_core, newly_marked}
use Rattle.far_evac.specs.Moment.{Moment}
use Rattle.far_evac.specs.RoundSteps.{advanced, among}
use Rattle.far_evac.proofs.Lacking.{Once, left_to, once_among, once_filter}
use Rattle.far_evac.proofs.Marks.{marks_cells, all_filter, all_take}
use Rattle.far_evac.proofs.LiveOnce.{each_map}

-- ---- lists
pub each_member : (xs : List ℕ) → AllByRecursion (λ x. Contains xs x) xs
each_member [] = tt
each_member (x ∷ xs) = (here x xs, each_map (λ y member. there y x xs member) xs (each_member xs))

pub all_pass : (f : ℕ → Bool) (xs : List ℕ) → AllByRecursion (λ x. f x ≡ true) (filter f xs)
all_pass f [] = tt
all_pass f (x ∷ xs) = cond_both (f x) (x ∷ filter f xs) (filter f xs) (AllByRecursion (λ y. f y ≡ true)) (λ is. (is, all_pass f xs)) (λ _. all_pass f xs)

pub distinct_of : (xs : List ℕ) → Once xs → IsDistinct eqb xs
unfolding IsDistinct
distinct_of [] once = tt
distinct_of (x ∷ xs) once = (each_map (λ y other. ne_eqb x y (λ e. other (sym e))) xs once.0, distinct_of xs once.1)

pub once_take : (n : ℕ) (xs : List ℕ) → Once xs → Once (take n xs)
once_take (suc n) (x ∷ xs) once = (all_take (λ q. q ≢ x) n xs once.0, once_take n xs once.1)
once_take _ _ once = tt

some_dropped : (n : ℕ) (xs : List ℕ) → n < length xs → is_empty (drop n xs) ≡ false
some_dropped n [] lt = absurd (omega (arith, lt))
some_dropped zero (x ∷ xs) lt = refl
some_dropped (suc n) (x ∷ xs) lt = some_dropped n xs (omega (arith, lt))

-- ---- an answer
goes_of : (some : Bool) (epoch : ℕ) → cond some None (Some epoch) ≡ None → some ≡ true
goes_of true epoch e = refl
goes_of false epoch e = absurd cc

waits_of : (some : Bool) (next epoch : ℕ) → cond some None (Some next) ≡ Some epoch → (some ≡ false) × (epoch ≡ next)
waits_of true next epoch e = absurd cc
waits_of false next epoch e = (refl, cc)

-- ---- once the epoch has risen the same objects lack it
risen_lacks : (s : State) (held logs : List ℕ) → lacking (advanced s held) logs ≡ lacking s logs
unfolding live_in spans_of
risen_lacks s held logs = refl

module _ (m : Moment) (n : ℕ) (fits : (p : ℕ) → m.core.cell p < 2 ^ 64) (once : IsDistinct eqb m.collection) where
  abbrev all : List ℕ
  all = lacking m.core m.collection

  abbrev t : Moment
  t = after_marking m n

  abbrev goes : Moment
  goes = record m { core = marked_core m n }

  abbrev rises : Moment
  rises = record m { core = advanced (marked_core m n) m.collection; phase = Waiting }

  left_goes : lacking (marked_core m n) m.collection ≡ drop n all
  left_goes = left_to m.collection once m.core fits n

  left_now : lacking t.core t.collection ≡ drop n all
  left_now = cond_both (leaves_some m n) goes rises (λ (u : Moment). lacking u.core u.collection ≡ drop n all) (λ _. left_goes) (λ _. risen_lacks (marked_core m n) m.collection m.collection ∙ left_goes)

  is_goes : leaves_some m n ≡ true → t ≡ goes
  is_goes some = ap (λ b. cond b goes rises) some

  is_rises : leaves_some m n ≡ false → t ≡ rises
  is_rises none = ap (λ b. cond b goes rises) none

  abbrev only_cells : (ℕ → ℕ) → Moment
  only_cells cell = record m { core = record m.core { cell = cell } }

  abbrev risen : ℕ → (ℕ → ℕ) → Moment
  risen epoch cell = record m { core = record m.core { cell = cell; epoch = epoch; round = among m.collection; round_epoch = epoch; clear = λ _. false }; phase = Waiting }

  abbrev next : ℕ
  next = m.core.epoch + 1

  goes_so : t ≡ goes → t ≡ only_cells t.core.cell
  goes_so is = is ∙ ap (λ (s : State). record m { core = s }) (marks_cells (newly_marked m n) m.core) ∙ ap only_cells (sym (ap (λ (u : Moment). u.core.cell) is))

  rises_so : t ≡ rises → t ≡ risen next t.core.cell
  rises_so is = is ∙ ap (λ (s : State). record m { core = advanced s m.collection; phase = Waiting }) (marks_cells (newly_marked m n) m.core)
      ∙ ap (risen next) (sym (ap (λ (u : Moment). u.core.cell) is))

  is_counted : IsCounted m t n
  is_counted = record {
    bare = each_map (λ p h. not-true (has_evac (read_of (m.core.cell p))) h) (newly_marked m n)
        (all_take (λ p. not (has_evac (read_of (m.core.cell p))) ≡ true) n all (all_pass (λ p. not (has_evac (read_of (m.core.cell p)))) (live_among m.core m.collection)));
    live = all_take (λ p. Contains (live_among m.core m.collection) p) n all
        (all_filter (λ p. Contains (live_among m.core m.collection) p) (λ p. not (has_evac (read_of (m.core.cell p)))) (live_among m.core m.collection) (each_member (live_among m.core m.collection)));
    once = distinct_of (newly_marked m n) (once_take n all (once_filter (λ p. not (has_evac (read_of (m.core.cell p)))) (live_among m.core m.collection) (once_among m.core m.collection once)));
    most = (let long = length-take n all in omega (arith, long));
    left = left_now ∙ sym (drop_min n all) ∙ ap (λ k. drop k all) (sym (length-take n all));
    goes_on = λ e.
        let some = goes_of (leaves_some m n) next e in
        let lt : n < length all = grind (arith, nat_tests, some) in
        (length-take-le n all (omega (arith, lt)), ap is_empty left_now ∙ some_dropped n all lt, goes_so (is_goes some));
    waits = λ epoch e.
        let found = waits_of (leaves_some m n) next epoch e in
        let le : length all ≤ n = (let none = found.0 in grind (arith, nat_tests, none)) in
        (found.1, left_now ∙ drop_all n all le, subst (λ x. t ≡ risen x t.core.cell) (sym found.1) (rises_so (is_rises found.0)));
  }

pub marking_is_counted : MarkingIsCounted
marking_is_counted m n fits once = is_counted m n fits once
