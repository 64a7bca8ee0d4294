-- The log in front of a walk: what is found in it from where the walk stands, and that it may be given back.
use Rattle.std.proofs.Common.{◌≡◌, ℕ, ◌+◌, ◌≤◌, Bool, true, false, ◌&&◌, nat_le, Some, List, [], ◌∷◌, filter, inl, inr, arith, ap, sym, refl, ◌∙◌, subst}
use Rattle.std.specs.Prelude.{Contains}
use Rattle.std.proofs.lemmas.Bool.{cond_both, true≢false, and_parts}
use Rattle.std.proofs.lemmas.Bool.Decides.{nat_tests}
use mathlib.Core.Path.{fun_ext}
use Rattle.far_word.specs.declared.mark.Marks.{Marks}
use Rattle.far_word.specs.declared.pointer.Place.{Place}
use Rattle.far_word.specs.declared.pointer.PtrWord.TheVariants.{Near}
use Rattle.far_word.specs.Pointer.{read_of}
use Rattle.far_word.specs.Sizes.{size_of}
use Rattle.far_log.specs.declared.span.Span.{Span}
use Rattle.far_log.proofs.Members.{here, there, split, none_in}
use Rattle.far_events.specs.events.Get.{IsVacant}
use Rattle.far_core.specs.laws.Observed.{span_for}
use Rattle.far_events.specs.state.Law.{Law}
use Rattle.far_events.specs.state.Spans.{spans_of, is_live}
use Rattle.far_events.specs.state.State.{State}
use Rattle.far_core.proofs.Observations as observations
use Rattle.far_hand.specs.Finds.{Finds}
use Rattle.far_book.specs.book.NextLive.{IsBoundary, live_from}
use Rattle.far_book.specs.book.Own.{own_part}
use Rattle.far_book.proofs.region.NextLives.{spans_are_bounded}
use Rattle.far_book.proofs.region.Owns.{own_spans}
use Rattle.far_evac.specs.AnyHand.{Knows}
use Rattle.far_evac.specs.Live.{live_in, pointers_of}
use Rattle.far_evac.specs.Standing.{LiesFrom}
use Rattle.far_evac.proofs.LiveOnce.{near_at}

-- ---- lists
and_is : (a b : Bool) → (a ≡ true → b ≡ true) → (a && b) ≡ a
and_is true b h = h refl
and_is false b h = refl

pub kept_in : {X : Type 0} (f : X → Bool) (x : X) (xs : List X) → f x ≡ true → Contains xs x → Contains (filter f xs) x
kept_in f x [] is member = absurd (none_in x member)
kept_in f x (y ∷ ys) is member = elim (split x y ys member) [
  | inl e ↦ cond_both (f y) (y ∷ filter f ys) (filter f ys) (λ zs. Contains zs x) (λ _. subst (λ z. Contains (z ∷ filter f ys) x) (sym e) (here x (filter f ys)))
      (λ no. absurd (true≢false (sym is ∙ ap f (sym e) ∙ no)))
  | inr more ↦ cond_both (f y) (y ∷ filter f ys) (filter f ys) (λ zs. Contains zs x) (λ _. there x y (filter f ys) (kept_in f x ys is more)) (λ _. kept_in f x ys is more)
]

pub was_kept : {X : Type 0} (f : X → Bool) (x : X) (xs : List X) → Contains (filter f xs) x → (f x ≡ true) × Contains xs x
was_kept f x [] = λ member. absurd (none_in x member)
was_kept f x (y ∷ ys) = cond_both (f y) (y ∷ filter f ys) (filter f ys) (λ zs. Contains zs x → (f x ≡ true) × Contains (y ∷ ys) x)
    (λ yes member. elim (split x y (filter f ys) member) [
      | inl e ↦ (ap f (sym e) ∙ yes, subst (λ z. Contains (z ∷ ys) x) (sym e) (here x ys))
      | inr more ↦ (let h = was_kept f x ys more in (h.0, there x y ys h.1))
    ])
    (λ _ member. let h = was_kept f x ys member in (h.0, there x y ys h.1))

-- ---- the live spans from where all objects of a log lie
module _ (s : State) (law : Law (own_part s)) (l at : ℕ) (lies : LiesFrom s l at) where
  no_earlier : (span : Span) → is_live s l span ≡ true → nat_le at span.at ≡ true
  no_earlier span live =
      let n = near_at (read_of (s.cell span.p)) l span.at live in
      let le : at ≤ n.place.at = lies span.p n.len n.ds n.place n.marks n.near n.log in
      grind (arith, nat_tests, le, n.here)

  pub all_from : live_from s l at ≡ filter (is_live s l) (spans_of s l)
  all_from = ap (λ test. filter test (spans_of s l)) (fun_ext (λ (span : Span). and_is (is_live s l span) (nat_le at span.at) (no_earlier span)))

  pub none_lives : live_from s l at ≡ [] → live_in s l ≡ []
  unfolding live_in
  none_lives none = ap pointers_of (sym all_from ∙ none)

  -- an object that lies there has one of these spans
  pub listed : (p len ds : ℕ) (place : Place) (marks : Marks) → read_of (s.cell p) ≡ Some (Near len ds place marks) → place.log ≡ l → Contains (live_from s l at) (span_for p len ds place.at)
  listed p len ds place marks near log =
      let one = observations.one_live (own_part s) law p len ds place marks near in
      let its = span_for p len ds place.at in
      let member : Contains (spans_of s l) its = subst (λ k. Contains (spans_of s k) its) log (subst (λ spans. Contains spans its) (sym (own_spans s law place.log)) one.placed) in
      let live : is_live s l its ≡ true = ap (λ k. is_live s k its) (sym log) ∙ one.live in
      subst (λ spans. Contains spans its) (sym all_from) (kept_in (is_live s l) its (spans_of s l) live member)

  pub vacant : live_from s l at ≡ [] → IsVacant s l
  vacant none p len ds place marks near log = none_in (span_for p len ds place.at) (subst (λ spans. Contains spans (span_for p len ds place.at)) none (listed p len ds place marks near log))

  none_named : (spans : List Span) → pointers_of spans ≡ [] → spans ≡ []
  none_named [] e = refl
  none_named (x ∷ xs) e = absurd cc

  pub vacant_in : live_in s l ≡ [] → IsVacant s l
  unfolding live_in
  vacant_in none = vacant (all_from ∙ none_named (filter (is_live s l) (spans_of s l)) none)

  -- the first of them
  module _ (span : Span) (first : live_from s l at ≡ span ∷ live_from s l (span.at + size_of span.len)) where
    pub first_lives : (rest : List ℕ) × (live_in s l ≡ span.p ∷ rest)
    unfolding live_in
    first_lives = (pointers_of (live_from s l (span.at + size_of span.len)), ap pointers_of (sym all_from ∙ first))

    member_first : Contains (live_from s l at) span
    member_first = subst (λ spans. Contains spans span) (sym first) (here span (live_from s l (span.at + size_of span.len)))

    pub first_begins : IsBoundary s l span.at
    first_begins = (spans_are_bounded s law l span (was_kept (λ (x : Span). is_live s l x && nat_le at x.at) span (spans_of s l) member_first).1).0

    behind : (x : Span) → Contains (live_from s l (span.at + size_of span.len)) x → span.at ≤ x.at
    behind x member =
        let kept = was_kept (λ (y : Span). is_live s l y && nat_le (span.at + size_of span.len) y.at) x (spans_of s l) member in
        let le : nat_le (span.at + size_of span.len) x.at ≡ true = (and_parts (is_live s l x) (nat_le (span.at + size_of span.len) x.at) kept.0).1 in
        grind (arith, nat_tests, le)

    pub first_lies : LiesFrom s l span.at
    first_lies p len ds place marks near log =
        elim (split (span_for p len ds place.at) span (live_from s l (span.at + size_of span.len))
        (subst (λ spans. Contains spans (span_for p len ds place.at)) first (listed p len ds place marks near log))) [
          | inl e ↦ (let same : span.at ≡ place.at = ap (λ (x : Span). x.at) e in omega (arith, same))
          | inr more ↦ behind (span_for p len ds place.at) more
        ]

-- ---- marks were found
pub knows_cells : (s t : State) → ((p : ℕ) → Finds (s.cell p) (t.cell p)) → t ≡ record s { cell = t.cell } → Knows s t
unfolding spans_of
knows_cells s t found rest = record {
  found = found;
  spans = λ l. ap (λ (u : State). spans_of u l) rest;
  stored = λ p len ds i marks far lt known. ap (λ (u : State). u.stored p i) rest;
  rest = rest ∙ (λ i. record s { cell = t.cell; word = (ap (λ (u : State). u.word) (sym rest)) i; stored = (ap (λ (u : State). u.stored) (sym rest)) i });
}
