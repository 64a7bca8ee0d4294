-- A pointer lives in one log, once.
use Rattle.std.proofs.Common.{◌≡◌, ◌≢◌, ℕ, zero, suc, ◌+◌, ◌<◌, ◌≤◌, ◌||◌, true, cond, not, ◌==◌, nat_lt, Option, Some, List, [], ◌∷◌, ◌++◌, filter, inl, inr, arith, ap, sym, refl, ◌∙◌, subst}
use Rattle.std.specs.List.{AllByRecursion}
use Rattle.std.specs.Prelude.{⊤}
use Rattle.std.proofs.lemmas.Bool.{cases_eq, cond_both, eq-eqb, false≢true, ne_eqb, true≢false}
use Rattle.std.proofs.lemmas.Bool.Decides.{nat_tests}
use Rattle.far_word.specs.declared.mark.Marks.{Marks}
use Rattle.far_word.specs.declared.pointer.Place.{Place}
use Rattle.far_word.specs.declared.pointer.PtrWord.{PtrWord}
use Rattle.far_word.specs.declared.pointer.PtrWord.TheVariants.{Near}
use Rattle.far_word.specs.Pointer.{read_of}
use Rattle.far_word.specs.Sizes.{size_of}
use Rattle.far_log.specs.declared.span.Span.{Span}
use Rattle.far_log.specs.Spans.{head_len, span_at, spans_from, spans_in}
use Rattle.far_events.specs.state.Spans.{spans_of, is_live, names_place, word_in}
use Rattle.far_events.specs.state.State.{State}
use Rattle.far_evac.specs.Live.{live_in, pointers_of}
use Rattle.far_evac.specs.RoundSteps.{among}

-- ---- numbers and lists
pub one_more : (n : ℕ) → suc n ≡ n + 1
one_more n = omega arith

pub each_map : {X : Type 0} {P Q : X → Type 0} → ((x : X) → P x → Q x) → (xs : List X) → AllByRecursion P xs → AllByRecursion Q xs
each_map f [] h = tt
each_map f (x ∷ xs) h = (f x h.0, each_map f xs h.1)

pub all_append : (P : ℕ → Type 0) (xs ys : List ℕ) → AllByRecursion P xs → AllByRecursion P ys → AllByRecursion P (xs ++ ys)
all_append P [] ys f g = g
all_append P (x ∷ xs) ys f g = (f.0, all_append P xs ys f.1 g)

pub all_front : (P : ℕ → Type 0) (xs : List ℕ) (x : ℕ) → AllByRecursion P (xs ++ (x ∷ [])) → AllByRecursion P xs × P x
all_front P [] x h = (tt, h.0)
all_front P (y ∷ ys) x h = let rest = all_front P ys x h.1 in ((h.0, rest.0), rest.1)

pub both : (P Q : ℕ → Type 0) (xs : List ℕ) → AllByRecursion P xs → AllByRecursion Q xs → AllByRecursion (λ x. P x × Q x) xs
both P Q [] f g = tt
both P Q (x ∷ xs) f g = ((f.0, g.0), both P Q xs f.1 g.1)

pub every : (P : ℕ → Type 0) → ((q : ℕ) → P q) → (xs : List ℕ) → AllByRecursion P xs
every P each [] = tt
every P each (x ∷ xs) = (each x, every P each xs)

-- what is true of each is so of a member
pub member_each : (P : ℕ → Type 0) (ls : List ℕ) → AllByRecursion P ls → (k : ℕ) → among ls k ≡ true → P k
member_each P [] all k h = absurd (false≢true h)
member_each P (x ∷ xs) all k h = elim (cases_eq k x) [
  | inl e ↦ subst P (sym e) all.0
  | inr other ↦ member_each P xs all.1 k (sym (ap (λ b. b || among xs k) (ne_eqb k x other)) ∙ h)
]

-- all but p
abbrev pub but : ℕ → List ℕ → List ℕ
but p qs = filter (λ q. not (q == p)) qs

pub but_none : (p : ℕ) (qs : List ℕ) → AllByRecursion (λ q. q ≢ p) qs → but p qs ≡ qs
but_none p [] h = refl
but_none p (q ∷ qs) h = ap (λ b. cond (not b) (q ∷ but p qs) (but p qs)) (ne_eqb q p h.0) ∙ ap (λ rest. q ∷ rest) (but_none p qs h.1)

pub but_first : (p : ℕ) (qs : List ℕ) → AllByRecursion (λ q. q ≢ p) qs → but p (p ∷ qs) ≡ qs
but_first p qs h = ap (λ b. cond (not b) (p ∷ but p qs) (but p qs)) (eq-eqb p p refl) ∙ but_none p qs h

-- ---- a cell names one place
pub record NearAt (o : Option PtrWord) (l at : ℕ) : Type 0 where
  pub len : ℕ
  pub ds : ℕ
  pub place : Place
  pub marks : Marks
  pub near : o ≡ Some (Near len ds place marks)
  pub log : place.log ≡ l
  pub here : place.at ≡ at

pub near_at : (o : Option PtrWord) (l at : ℕ) → names_place o l at ≡ true → NearAt o l at
near_at (Some (Near len ds place marks)) l at h = record {
  len = len;
  ds = ds;
  place = place;
  marks = marks;
  near = refl;
  log = grind (arith, nat_tests, h);
  here = grind (arith, nat_tests, h);
}
near_at _ l at h = absurd (true≢false (sym h))

pub names_once : (o : Option PtrWord) (l k at to : ℕ) → names_place o l at ≡ true → names_place o k to ≡ true → (l ≡ k) × (at ≡ to)
names_once o l k at to h g =
    let x = near_at o l at h in
    let y = near_at o k to g in
    let same : Some (Near x.len x.ds x.place x.marks) ≡ Some (Near y.len y.ds y.place y.marks) = sym x.near ∙ y.near in
    let places : x.place ≡ y.place = cc in
    (sym x.log ∙ ap (λ (p : Place). p.log) places ∙ y.log, sym x.here ∙ ap (λ (p : Place). p.at) places ∙ y.here)

-- p's cell names a place in a log
abbrev pub LivesIn : State → ℕ → ℕ → Type 0
LivesIn s l p = (at : ℕ) × (names_place (read_of (s.cell p)) l at ≡ true)

module _ (s : State) (l : ℕ) where
  named : (spans : List Span) → AllByRecursion (LivesIn s l) (pointers_of (filter (is_live s l) spans))
  named [] = tt
  named (x ∷ xs) = cond_both (is_live s l x) (x ∷ filter (is_live s l) xs) (filter (is_live s l) xs) (λ (ys : List Span). AllByRecursion (LivesIn s l) (pointers_of ys))
      (λ h. ((x.at, h), named xs)) (λ _. named xs)

  -- each live object of a log names it
  pub live_named : AllByRecursion (LivesIn s l) (live_in s l)
  unfolding live_in spans_of
  live_named = named (spans_of s l)

  -- an object of another log is none of its
  pub not_there : (k p : ℕ) → LivesIn s k p → l ≢ k → AllByRecursion (λ q. q ≢ p) (live_in s l)
  not_there k p h other = each_map (λ q g e. other (names_once (read_of (s.cell p)) l k g.0 h.0 (subst (λ x. names_place (read_of (s.cell x)) l g.0 ≡ true) e g.1) h.1).0) (live_in s l) live_named

  -- ---- of two spans one stands behind the other
  pub behind : (word : ℕ → ℕ) (tail at fuel : ℕ) → AllByRecursion (λ (x : Span). at ≤ x.at) (spans_from word tail at fuel)
  behind word tail at zero = tt
  behind word tail at (suc fuel) = cond_both (nat_lt at tail) (span_at word at ∷ spans_from word tail (at + size_of (head_len (word at))) fuel) [] (λ (xs : List Span). AllByRecursion (λ (x : Span). at ≤ x.at) xs)
      (λ _. (omega arith, each_map (λ (x : Span) (h : at + size_of (head_len (word at)) ≤ x.at). omega (arith, h)) (spans_from word tail (at + size_of (head_len (word at))) fuel) (behind word tail (at + size_of (head_len (word at))) fuel)))
      (λ _. tt)

  -- p, which stands before some spans, is named by none of them
  pub apart : (p at : ℕ) → names_place (read_of (s.cell p)) l at ≡ true → (spans : List Span) → AllByRecursion (λ (x : Span). at < x.at) spans →
      AllByRecursion (λ q. q ≢ p) (pointers_of (filter (is_live s l) spans))
  apart p at h [] past = tt
  apart p at h (x ∷ xs) past = cond_both (is_live s l x) (x ∷ filter (is_live s l) xs) (filter (is_live s l) xs) (λ (ys : List Span). AllByRecursion (λ q. q ≢ p) (pointers_of ys))
      (λ live. (
        λ e. let same : at ≡ x.at = (names_once (read_of (s.cell p)) l l at x.at h (subst (λ q. names_place (read_of (s.cell q)) l x.at ≡ true) e live)).1 in omega (arith, same, past.0),
        apart p at h xs past.1,
      ))
      (λ _. apart p at h xs past.1)

  -- the first of a list is there once
  abbrev FirstOnce : List ℕ → Type 0
  FirstOnce [] = ⊤
  FirstOnce (p ∷ ps) = AllByRecursion (λ q. q ≢ p) ps

  once : (word : ℕ → ℕ) (tail at fuel : ℕ) → FirstOnce (pointers_of (filter (is_live s l) (spans_from word tail at fuel)))
  once word tail at zero = tt
  once word tail at (suc fuel) =
      let next = at + size_of (head_len (word at)) in
      let rest = spans_from word tail next fuel in
      cond_both (nat_lt at tail) (span_at word at ∷ rest) [] (λ (xs : List Span). FirstOnce (pointers_of (filter (is_live s l) xs)))
      (λ _. cond_both (is_live s l (span_at word at)) (span_at word at ∷ filter (is_live s l) rest) (filter (is_live s l) rest) (λ (xs : List Span). FirstOnce (pointers_of xs))
      (λ live. apart (span_at word at).p at live rest (each_map (λ (x : Span) (h : next ≤ x.at). omega (arith, h)) rest (behind word tail next fuel)))
      (λ _. once word tail next fuel))
      (λ _. tt)

  first_once : FirstOnce (live_in s l)
  unfolding live_in spans_of spans_in
  first_once = once (word_in s l) (s.tail l) 0 (s.tail l)

  pub once_live : (p : ℕ) (ps : List ℕ) → live_in s l ≡ p ∷ ps → AllByRecursion (λ q. q ≢ p) ps
  once_live p ps e = subst FirstOnce e first_once

  pub first_named : (p : ℕ) (ps : List ℕ) → live_in s l ≡ p ∷ ps → LivesIn s l p
  first_named p ps e = (subst (AllByRecursion (LivesIn s l)) e live_named).0
