-- The objects that lack EVAC: once the first of them has it, the others are left.
use Rattle.std.proofs.Common.{◌≡◌, ◌≢◌, ℕ, zero, suc, ◌+◌, ◌^◌, ◌<◌, ◌≤◌, Bool, true, false, cond, not, ◌&&◌, ◌==◌, eqb, nat_le, nat_lt, Option, Some, List, [], ◌∷◌, ◌++◌, filter, take, drop, inl, inr, bit_or, arith, ap, sym, refl, ◌∙◌, subst}
use Rattle.std.proofs.Math.Bool.{and-false, and-true}
use Rattle.std.specs.Prelude.{⊤, Contains, fold}
use Rattle.std.proofs.lemmas.List.{append_assoc, take-append-drop}
use Rattle.std.proofs.lemmas.List.Sums.{fold-append}
use Rattle.std.specs.List.{AllByRecursion, IsDistinct}
use Rattle.std.proofs.lemmas.Bool.{cond_both, eq-eqb, eqb-true, true≢false, false≢true, cases_Bool}
use Rattle.std.proofs.lemmas.List.Elements.{filter-append}
use mathlib.Core.Path.{fun_ext}
use Rattle.far_word.specs.declared.mark.Mark.TheVariants.{Evac}
use Rattle.far_word.specs.declared.mark.Marks.{Marks}
use Rattle.far_word.specs.declared.pointer.Place.{Place}
use Rattle.far_word.specs.declared.pointer.PtrWord.{PtrWord}
use Rattle.far_word.specs.declared.pointer.PtrWord.TheVariants.{Free, Near}
use Rattle.far_word.specs.Mark.{position}
use Rattle.far_word.specs.Pointer.{read_of}
use Rattle.far_word.specs.Sizes.{size_of}
use Rattle.far_log.specs.declared.span.Span.{Span}
use Rattle.far_log.specs.Spans.{head_len, span_at, spans_from, spans_in}
use Rattle.far_log.proofs.Members.{here, there, split, none_in}
use Rattle.far_events.specs.events.Clear.{evac_cleared, round_left}
use Rattle.far_core.specs.laws.Observed.{span_for}
use Rattle.far_events.specs.state.Law.{Law}
use Rattle.far_events.specs.state.Spans.{spans_of, is_live, names_place, word_in}
use Rattle.far_events.specs.state.State.{State, put}
use Rattle.far_events.proofs.Put.{put_both}
use Rattle.far_hand.specs.Finds.{body_of}
use Rattle.far_book.specs.book.Dealing.{has_evac}
use Rattle.far_book.specs.book.Effects.{marked}
use Rattle.far_book.specs.book.NextLive.{live_from}
use Rattle.far_book.specs.book.Own.{own_part}
use Rattle.far_evac.specs.AnyHand.{Knows}
use Rattle.far_evac.specs.declared.round.Round.{Round}
use Rattle.far_evac.specs.Cursor.{StandsAt, first_marked}
use Rattle.far_evac.specs.Laws.{but_evac}
use Rattle.far_evac.specs.Live.{lacking, live_in, live_among, pointers_of}
use Rattle.far_evac.specs.RoundSteps.{among, unmarked}
use Rattle.far_evac.specs.Standing.{MarkedAmong}
use Rattle.far_evac.proofs.Changing.{marked_fits, marked_known}
use Rattle.far_evac.proofs.Fronts.{kept_in}
use Rattle.far_evac.proofs.SmallSteps.{drop_next, left_known}
use Rattle.far_evac.proofs.Hands.{knows_more}
use Rattle.far_evac.proofs.LiveOnce.{LivesIn, all_append, apart, behind, but, but_first, each_map, live_named, near_at, not_there}
use Rattle.far_evac.proofs.Marks.{IsNearWord, all_filter, all_near, clear_sets, live_near, mark_sets}
use Rattle.far_evac.proofs.Onward.{or_split}
use Rattle.far_evac.proofs.Passing.{alive, listed}
use Rattle.far_evac.proofs.Bools.{or_left, or_right}

abbrev pub lacks : State → ℕ → Bool
lacks s q = not (has_evac (read_of (s.cell q)))

-- ---- lists
pub all_at : {X : Type 0} (P : X → Type 0) (x : X) (xs : List X) → AllByRecursion P xs → Contains xs x → P x
all_at P x [] h member = absurd (none_in x member)
all_at P x (y ∷ ys) h member = elim (split x y ys member) [ inl e ↦ subst P e h.0 | inr more ↦ all_at P x ys h.1 more ]

in_left : (x : ℕ) (xs ys : List ℕ) → Contains xs x → Contains (xs ++ ys) x
in_left x [] ys member = absurd (none_in x member)
in_left x (z ∷ zs) ys member = elim (split x z zs member) [
  | inl e ↦ subst (λ w. Contains (w ∷ (zs ++ ys)) x) (sym e) (here x (zs ++ ys))
  | inr more ↦ there x z (zs ++ ys) (in_left x zs ys more)
]

in_right : (x : ℕ) (xs ys : List ℕ) → Contains ys x → Contains (xs ++ ys) x
in_right x [] ys member = member
in_right x (z ∷ zs) ys member = there x z (zs ++ ys) (in_right x zs ys member)

pub in_pointers : (x : Span) (xs : List Span) → Contains xs x → Contains (pointers_of xs) x.p
in_pointers x [] member = absurd (none_in x member)
in_pointers x (y ∷ ys) member = elim (split x y ys member) [
  | inl e ↦ subst (λ (z : Span). Contains (z.p ∷ pointers_of ys) x.p) (sym e) (here x.p (pointers_of ys))
  | inr more ↦ there x.p y.p (pointers_of ys) (in_pointers x ys more)
]

taken_all : (k : ℕ) (xs : List ℕ) → drop k xs ≡ [] → take (suc k) xs ≡ take k xs
taken_all zero [] e = refl
taken_all (suc k) [] e = refl
taken_all zero (x ∷ xs) e = absurd cc
taken_all (suc k) (x ∷ xs) e = ap (λ ys. x ∷ ys) (taken_all k xs e)

filter_none : (f : ℕ → Bool) (xs : List ℕ) → AllByRecursion (λ x. f x ≡ false) xs → filter f xs ≡ []
filter_none f [] h = refl
filter_none f (x ∷ xs) h = ap (λ b. cond b (x ∷ filter f xs) (filter f xs)) h.0 ∙ filter_none f xs h.1

both_tests : (f g : ℕ → Bool) (x : ℕ) (xs : List ℕ) (a b : Bool) → g x ≡ b → filter g (cond a (x ∷ xs) xs) ≡ cond (a && b) (x ∷ filter g xs) (filter g xs)
both_tests f g x xs true b e = ap (λ c. cond c (x ∷ filter g xs) (filter g xs)) e
both_tests f g x xs false b e = refl

filter_both : (f g : ℕ → Bool) (xs : List ℕ) → filter (λ q. f q && g q) xs ≡ filter g (filter f xs)
filter_both f g [] = refl
filter_both f g (x ∷ xs) = ap (λ ys. cond (f x && g x) (x ∷ ys) ys) (filter_both f g xs) ∙ sym (both_tests f g x (filter f xs) (f x) (g x) refl)

pub among_append : (s : State) (us vs : List ℕ) → live_among s (us ++ vs) ≡ live_among s us ++ live_among s vs
among_append s [] vs = refl
among_append s (u ∷ us) vs = ap (λ zs. live_in s u ++ zs) (among_append s us vs) ∙ sym (append_assoc (live_in s u) (live_among s us) (live_among s vs))

-- ---- a list in which each is once
abbrev pub Once : List ℕ → Type 0
Once [] = ⊤
Once (p ∷ ps) = AllByRecursion (λ q. q ≢ p) ps × Once ps

once_append : (xs ys : List ℕ) → Once xs → Once ys → AllByRecursion (λ x. AllByRecursion (λ y. y ≢ x) ys) xs → Once (xs ++ ys)
once_append [] ys f g h = g
once_append (x ∷ xs) ys f g h = (all_append (λ q. q ≢ x) xs ys f.0 h.0, once_append xs ys f.1 g h.1)

pub once_filter : (f : ℕ → Bool) (xs : List ℕ) → Once xs → Once (filter f xs)
once_filter f [] h = tt
once_filter f (x ∷ xs) h = cond_both (f x) (x ∷ filter f xs) (filter f xs) Once (λ _. (all_filter (λ q. q ≢ x) f xs h.0, once_filter f xs h.1)) (λ _. once_filter f xs h.1)

module _ (s : State) where
  once_from : (l : ℕ) (word : ℕ → ℕ) (tail at fuel : ℕ) → Once (pointers_of (filter (is_live s l) (spans_from word tail at fuel)))
  once_from l word tail at zero = tt
  once_from l word tail at (suc fuel) =
      let next = at + size_of (head_len (word at)) in
      let rest = spans_from word tail next fuel in
      cond_both (nat_lt at tail) (span_at word at ∷ rest) [] (λ (xs : List Span). Once (pointers_of (filter (is_live s l) xs)))
      (λ _. cond_both (is_live s l (span_at word at)) (span_at word at ∷ filter (is_live s l) rest) (filter (is_live s l) rest) (λ (xs : List Span). Once (pointers_of xs))
      (λ live. (
        apart s l (span_at word at).p at live rest (each_map (λ (x : Span) (h : next ≤ x.at). omega (arith, h)) rest (behind s l word tail next fuel)),
        once_from l word tail next fuel,
      ))
      (λ _. once_from l word tail next fuel))
      (λ _. tt)

  pub once_in : (l : ℕ) → Once (live_in s l)
  unfolding live_in spans_of spans_in
  once_in l = once_from l (word_in s l) (s.tail l) 0 (s.tail l)

  -- a pointer of a log is none of others
  not_among : (l p : ℕ) (ls : List ℕ) → LivesIn s l p → AllByRecursion (λ k. eqb l k ≡ false) ls → AllByRecursion (λ q. q ≢ p) (live_among s ls)
  not_among l p [] lives other = tt
  not_among l p (k ∷ ks) lives other =
      all_append (λ q. q ≢ p) (live_in s k) (live_among s ks)
      (not_there s k l p lives (λ e. true≢false (sym (eq-eqb l k (sym e)) ∙ other.0))) (not_among l p ks lives other.1)

  pub once_among : (ls : List ℕ) → IsDistinct eqb ls → Once (live_among s ls)
  unfolding IsDistinct
  once_among [] once = tt
  once_among (l ∷ ls) once =
      once_append (live_in s l) (live_among s ls) (once_in l) (once_among ls once.1)
      (each_map (λ p lives. not_among l p ls lives once.0) (live_in s l) (live_named s l))

-- ---- EVAC alone changes
pub names_but : (o : Option PtrWord) (l at : ℕ) → names_place o l at ≡ names_place (but_evac o) l at
names_but (Some Free) l at = refl
names_but _ l at = refl

module _ (s : State) (cell : ℕ → ℕ) (round : ℕ → Bool) (same : (q : ℕ) → but_evac (read_of (cell q)) ≡ but_evac (read_of (s.cell q))) where
  abbrev then : State
  then = record s { cell = cell; round = round }

  live_same : (l : ℕ) → live_in then l ≡ live_in s l
  unfolding live_in spans_of
  live_same l = ap (λ test. pointers_of (filter test (spans_in (word_in s l) (s.tail l))))
      (fun_ext (λ (span : Span). names_but (read_of (cell span.p)) l span.at ∙ ap (λ o. names_place o l span.at) (same span.p) ∙ sym (names_but (read_of (s.cell span.p)) l span.at)))

  pub from_same : (l at : ℕ) → live_from then l at ≡ live_from s l at
  unfolding spans_of
  from_same l at = ap (λ test. filter test (spans_in (word_in s l) (s.tail l)))
      (fun_ext (λ (span : Span). ap (λ b. b && nat_le at span.at)
      (names_but (read_of (cell span.p)) l span.at ∙ ap (λ o. names_place o l span.at) (same span.p) ∙ sym (names_but (read_of (s.cell span.p)) l span.at))))

  among_same : (ls : List ℕ) → live_among then ls ≡ live_among s ls
  among_same [] = refl
  among_same (l ∷ ls) = ap (λ xs. xs ++ live_among then ls) (live_same l) ∙ ap (λ xs. live_in s l ++ xs) (among_same ls)

put_same_but : (s : State) (p new : ℕ) → but_evac (read_of new) ≡ but_evac (read_of (s.cell p)) → (q : ℕ) → but_evac (read_of (put s.cell p new q)) ≡ but_evac (read_of (s.cell q))
put_same_but s p new same q = put_both (λ w. but_evac (read_of w) ≡ but_evac (read_of (s.cell q))) s.cell p new q (λ e. same ∙ ap (λ x. but_evac (read_of (s.cell x))) (sym e)) (λ _. refl)

pub live_marked : (s : State) (p : ℕ) → IsNearWord (s.cell p) → (ls : List ℕ) → live_among (marked s p) ls ≡ live_among s ls
live_marked s p near = let new = bit_or (s.cell p) (2 ^ position Evac) in among_same s (put s.cell p new) s.round (put_same_but s p new (mark_sets (s.cell p) near).like.same)

pub live_unmarked : (s : State) (p : ℕ) → IsNearWord (s.cell p) → (l : ℕ) → live_in (unmarked s p) l ≡ live_in s l
live_unmarked s p near =
    let new = evac_cleared (s.cell p) in live_same s (put s.cell p new) (round_left s.round (read_of (s.cell p))) (put_same_but s p new (clear_sets (s.cell p) near).like.same)

pub from_unmarked : (s : State) (p : ℕ) → IsNearWord (s.cell p) → (l at : ℕ) → live_from (unmarked s p) l at ≡ live_from s l at
from_unmarked s p near =
    let new = evac_cleared (s.cell p) in from_same s (put s.cell p new) (round_left s.round (read_of (s.cell p))) (put_same_but s p new (clear_sets (s.cell p) near).like.same)

-- ---- what was found in cells leaves them lacking
has_body : (o : Option PtrWord) → has_evac o ≡ has_evac (body_of o)
has_body (Some Free) = refl
has_body _ = refl

pub lacking_known : (s t : State) → Knows s t → (ls : List ℕ) → lacking t ls ≡ lacking s ls
lacking_known s t known ls =
    ap (filter (lacks t)) (left_known s t known ls)
    ∙ ap (λ test. filter test (live_among s ls)) (fun_ext (λ q. ap not (has_body (read_of (t.cell q)) ∙ ap has_evac (known.found q).body ∙ sym (has_body (read_of (s.cell q))))))

-- ---- one more has EVAC
lacks_cond : (b : Bool) (old new : ℕ) → has_evac (read_of new) ≡ true → not (has_evac (read_of (cond b new old))) ≡ (not (has_evac (read_of old)) && not b)
lacks_cond true old new has = ap not has ∙ sym (and-false (not (has_evac (read_of old))))
lacks_cond false old new has = sym (and-true (not (has_evac (read_of old))))

lacks_marked : (s : State) (p : ℕ) → IsNearWord (s.cell p) → (ls : List ℕ) → lacking (marked s p) ls ≡ but p (lacking s ls)
lacks_marked s p near ls =
    ap (filter (lacks (marked s p))) (live_marked s p near ls)
    ∙ ap (λ test. filter test (live_among s ls)) (fun_ext (λ q. lacks_cond (q == p) (s.cell q) (bit_or (s.cell p) (2 ^ position Evac)) (mark_sets (s.cell p) near).now))
    ∙ filter_both (lacks s) (λ q. not (q == p)) (live_among s ls)

pub lacking_near : (s : State) → ((q : ℕ) → s.cell q < 2 ^ 64) → (ls : List ℕ) → AllByRecursion (λ p. IsNearWord (s.cell p)) (lacking s ls)
lacking_near s fits ls = all_filter (λ p. IsNearWord (s.cell p)) (lacks s) (live_among s ls) (live_near s fits ls)

pub first_near : (s : State) → ((q : ℕ) → s.cell q < 2 ^ 64) → (ls : List ℕ) (p : ℕ) (ps : List ℕ) → lacking s ls ≡ p ∷ ps → IsNearWord (s.cell p)
first_near s fits ls p ps e = (subst (AllByRecursion (λ q. IsNearWord (s.cell q))) e (lacking_near s fits ls)).0

lacking_next : (s : State) → ((q : ℕ) → s.cell q < 2 ^ 64) → (ls : List ℕ) → IsDistinct eqb ls → (p : ℕ) (ps : List ℕ) → lacking s ls ≡ p ∷ ps → lacking (marked s p) ls ≡ ps
lacking_next s fits ls once p ps e =
    let apart_rest = subst Once e (once_filter (lacks s) (live_among s ls) (once_among s ls once)) in
    lacks_marked s p (first_near s fits ls p ps e) ls ∙ ap (but p) e ∙ but_first p ps apart_rest.0

-- ---- so many of them have EVAC
abbrev pub marked_to : State → List ℕ → ℕ → State
marked_to s ls k = fold marked s (take k (lacking s ls))

fold_fits : (ps : List ℕ) (s : State) → ((q : ℕ) → s.cell q < 2 ^ 64) → AllByRecursion (λ p. IsNearWord (s.cell p)) ps → (q : ℕ) → (fold marked s ps).cell q < 2 ^ 64
fold_fits [] s fits near = fits
fold_fits (p ∷ ps) s fits near =
    fold_fits ps (marked s p) (marked_fits s fits p near.0) (all_near true marked (λ w. bit_or w (2 ^ position Evac)) (λ u q. refl) mark_sets s p ps near.0 near.1)

module _ (ls : List ℕ) (once : IsDistinct eqb ls) where
  mutual_left : (k : ℕ) (s : State) → ((q : ℕ) → s.cell q < 2 ^ 64) → (xs : List ℕ) → lacking s ls ≡ xs → lacking (fold marked s (take k xs)) ls ≡ drop k xs
  mutual_left (suc k) s fits (p ∷ ps) e =
      mutual_left k (marked s p) (marked_fits s fits p (first_near s fits ls p ps e)) ps (lacking_next s fits ls once p ps e)
  mutual_left _ s fits _ e = e

  module _ (s : State) (fits : (q : ℕ) → s.cell q < 2 ^ 64) where
    pub left_to : (k : ℕ) → lacking (marked_to s ls k) ls ≡ drop k (lacking s ls)
    left_to k = mutual_left k s fits (lacking s ls) refl

    to_fits : (k : ℕ) (q : ℕ) → (marked_to s ls k).cell q < 2 ^ 64
    to_fits k = fold_fits (take k (lacking s ls)) s fits (take_near k (lacking s ls) (lacking_near s fits ls)) where
      take_near : (n : ℕ) (xs : List ℕ) → AllByRecursion (λ p. IsNearWord (s.cell p)) xs → AllByRecursion (λ p. IsNearWord (s.cell p)) (take n xs)
      take_near zero xs h = tt
      take_near (suc n) [] h = tt
      take_near (suc n) (x ∷ xs) h = (h.0, take_near n xs h.1)

    next_so : (k : ℕ) (xs : List ℕ) → drop k (lacking s ls) ≡ xs → first_marked (marked_to s ls k) xs ≡ marked_to s ls (suc k)
    next_so k [] e = ap (fold marked s) (sym (taken_all k (lacking s ls) e))
    next_so k (p ∷ ps) e = sym (ap (fold marked s) (drop_next k (lacking s ls) p ps e).2 ∙ fold-append marked s (take k (lacking s ls)) (p ∷ []))

    -- one step more, exactly
    pub next_marked : (k : ℕ) → first_marked (marked_to s ls k) (lacking (marked_to s ls k) ls) ≡ marked_to s ls (suc k)
    next_marked k = ap (first_marked (marked_to s ls k)) (left_to k) ∙ next_so k (drop k (lacking s ls)) refl

    -- and as far as it is known
    module _ (k : ℕ) (t : State) (known : Knows (marked_to s ls k) t) (here_fits : (q : ℕ) → t.cell q < 2 ^ 64) where
      first_so : (xs : List ℕ) → lacking (marked_to s ls k) ls ≡ xs → Knows (first_marked (marked_to s ls k) xs) (first_marked t xs)
      first_so [] e = known
      first_so (p ∷ ps) e = marked_known (marked_to s ls k) t known p (first_near (marked_to s ls k) (to_fits k) ls p ps e) (here_fits p)

      pub next_known : (u : State) → Knows (first_marked t (lacking t ls)) u → Knows (marked_to s ls (suc k)) u
      next_known u then =
          let same = lacking_known (marked_to s ls k) t known ls in
          knows_more (marked_to s ls (suc k)) (first_marked t (lacking (marked_to s ls k) ls)) u
          (subst (λ (v : State). Knows v (first_marked t (lacking (marked_to s ls k) ls))) (next_marked k) (first_so (lacking (marked_to s ls k) ls) refl))
          (subst (λ xs. Knows (first_marked t xs) u) same then)

-- ---- what lies there
-- where each object of some logs has EVAC, none lacks it
module _ (s : State) where
  bare_not : (l : ℕ) → ((p len ds : ℕ) (place : Place) (m : Marks) → read_of (s.cell p) ≡ Some (Near len ds place m) → place.log ≡ l → m.evac ≡ true) →
      AllByRecursion (λ q. lacks s q ≡ false) (live_in s l)
  bare_not l each = each_map (λ q lives. let x = near_at (read_of (s.cell q)) l lives.0 lives.1 in
      ap (λ o. not (has_evac o)) x.near ∙ ap not (each q x.len x.ds x.place x.marks x.near x.log)) (live_in s l) (live_named s l)

  all_bare_not : (ls : List ℕ) → MarkedAmong s ls → AllByRecursion (λ q. lacks s q ≡ false) (live_among s ls)
  all_bare_not [] each = tt
  all_bare_not (l ∷ ls) each = all_append (λ q. lacks s q ≡ false) (live_in s l) (live_among s ls)
      (bare_not l (λ p len ds place m near log. each p len ds place m near (or_left (eqb place.log l) (among ls place.log) (eq-eqb place.log l log))))
      (all_bare_not ls (λ p len ds place m near member. each p len ds place m near (or_right (eqb place.log l) (among ls place.log) member)))

  pub none_lack : (ls : List ℕ) → MarkedAmong s ls → lacking s ls ≡ []
  none_lack ls each = filter_none (lacks s) (live_among s ls) (all_bare_not ls each)

  lacking_append : (xs ys : List ℕ) → lacking s (xs ++ ys) ≡ lacking s xs ++ lacking s ys
  lacking_append xs ys = ap (filter (lacks s)) (among_append s xs ys) ∙ filter-append (lacks s) (live_among s xs) (live_among s ys)

-- the first that lacks it, where all that lie before in the log have it
module _ (s : State) (l : ℕ) (span : Span) (before : (x : Span) → is_live s l x ≡ true → x.at < span.at → lacks s x.p ≡ false) (live : is_live s l span ≡ true) (bare : lacks s span.p ≡ true) where
  abbrev lack : List Span → List ℕ
  lack xs = filter (lacks s) (pointers_of (filter (is_live s l) xs))

  abbrev Begins : List ℕ → Type 0
  Begins ps = (rest : List ℕ) × (ps ≡ span.p ∷ rest)

  at_last : (x : Span) (xs : List Span) → x ≡ span → Begins (lack (x ∷ xs))
  at_last x xs e = (
    lack xs,
    ap (λ b. filter (lacks s) (pointers_of (cond b (x ∷ filter (is_live s l) xs) (filter (is_live s l) xs)))) (ap (is_live s l) e ∙ live)
        ∙ ap (λ b. cond b (x.p ∷ lack xs) (lack xs)) (ap (λ (y : Span). lacks s y.p) e ∙ bare)
        ∙ ap (λ (y : Span). y.p ∷ lack xs) e,
  )

  passed_by : (x : Span) (xs : List Span) → x.at < span.at → Begins (lack xs) → Begins (lack (x ∷ xs))
  passed_by x xs lt more = cond_both (is_live s l x) (x ∷ filter (is_live s l) xs) (filter (is_live s l) xs) (λ ys. Begins (filter (lacks s) (pointers_of ys)))
      (λ is. (more.0, ap (λ b. cond b (x.p ∷ lack xs) (lack xs)) (before x is lt) ∙ more.1)) (λ _. more)

  first_from : (word : ℕ → ℕ) (tail at fuel : ℕ) → Contains (spans_from word tail at fuel) span → Begins (lack (spans_from word tail at fuel))
  first_from word tail at zero = λ member. absurd (none_in span member)
  first_from word tail at (suc fuel) =
      let next = at + size_of (head_len (word at)) in
      let rest = spans_from word tail next fuel in
      cond_both (nat_lt at tail) (span_at word at ∷ rest) [] (λ (xs : List Span). Contains xs span → Begins (lack xs))
      (λ _ member. elim (split span (span_at word at) rest member) [
        | inl e ↦ at_last (span_at word at) rest e
        | inr more ↦ (
            let past : next ≤ span.at = all_at (λ (x : Span). next ≤ x.at) span rest (behind s l word tail next fuel) more in
            passed_by (span_at word at) rest (omega (arith, past)) (first_from word tail next fuel more)
            )
      ])
      (λ _ member. absurd (none_in span member))

  first_in : Contains (spans_of s l) span → Begins (filter (lacks s) (live_in s l))
  unfolding live_in spans_of spans_in
  first_in member = first_from (word_in s l) (s.tail l) 0 (s.tail l) member

-- a round stands at the first that lacks it
pub first_lacks : (s : State) → Law (own_part s) → (r : Round) (span : Span) → MarkedAmong s (take r.index r.chosen) → StandsAt s r span → (rest : List ℕ) × (lacking s r.chosen ≡ span.p ∷ rest)
first_lacks s law r span before stands =
    let l = stands.log in
    let next = stands.next in
    let here_live : is_live s l span ≡ true = alive s law l span.at span.p span.len span.ds (record { log = l; at = span.at }) next.lies.marks next.lies.near refl in
    let member : Contains (spans_of s l) span = listed s law l span.at span.p span.len span.ds (record { log = l; at = span.at }) next.lies.marks next.lies.near refl in
    let first = first_in s l span
    (λ x is lt. let y = near_at (read_of (s.cell x.p)) l x.at is in
    ap (λ o. not (has_evac o)) y.near ∙ ap not (next.before x.p y.len y.ds y.place y.marks y.near y.log (subst (λ a. a < span.at) (sym y.here) lt)))
    here_live (ap not next.bare) member in
    let parts : lacking s r.chosen ≡ lacking s (take r.index r.chosen) ++ lacking s (drop r.index r.chosen) =
    ap (lacking s) (sym (take-append-drop r.index r.chosen)) ∙ lacking_append s (take r.index r.chosen) (drop r.index r.chosen) in (
      first.0 ++ lacking s stands.more,
      parts ∙ ap (λ xs. xs ++ lacking s (drop r.index r.chosen)) (none_lack s (take r.index r.chosen) before)
          ∙ ap (lacking s) stands.front
          ∙ filter-append (lacks s) (live_in s l) (live_among s stands.more)
          ∙ ap (λ xs. xs ++ lacking s stands.more) first.1,
    )

-- where none lacks it, each object has it
module _ (s : State) (law : Law (own_part s)) where
  pub in_live : (p len ds : ℕ) (place : Place) (m : Marks) → read_of (s.cell p) ≡ Some (Near len ds place m) → Contains (live_in s place.log) p
  unfolding live_in
  in_live p len ds place m near =
      in_pointers (span_for p len ds place.at) (filter (is_live s place.log) (spans_of s place.log))
      (kept_in (is_live s place.log) (span_for p len ds place.at) (spans_of s place.log) (alive s law place.log place.at p len ds place m near refl) (listed s law place.log place.at p len ds place m near refl))

  pub in_among : (ls : List ℕ) (l p : ℕ) → among ls l ≡ true → Contains (live_in s l) p → Contains (live_among s ls) p
  in_among [] l p member live = absurd (false≢true member)
  in_among (k ∷ ks) l p member live = elim (or_split (eqb l k) (among ks l) member) [
    | inl e ↦ in_left p (live_in s k) (live_among s ks) (subst (λ j. Contains (live_in s j) p) (eqb-true l k e) live)
    | inr more ↦ in_right p (live_in s k) (live_among s ks) (in_among ks l p more live)
  ]

  pub each_has : (ls : List ℕ) → lacking s ls ≡ [] → MarkedAmong s ls
  each_has ls none p len ds place m near member = elim (cases_Bool m.evac) [
    | inl has ↦ has
    | inr lacking_it ↦ (
        let bare : lacks s p ≡ true = ap (λ o. not (has_evac o)) near ∙ ap not lacking_it in
        absurd (none_in p (subst (λ xs. Contains xs p) none (kept_in (lacks s) p (live_among s ls) bare (in_among ls place.log p member (in_live p len ds place m near)))))
        )
  ]
