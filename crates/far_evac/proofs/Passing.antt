-- What is passed over where the live objects of a log are looked at one after the other, from a word on.
use Rattle.std.proofs.Common.{◌≡◌, ℕ, ◌+◌, ◌<◌, ◌≤◌, Bool, true, false, ◌&&◌, nat_le, Some, [], ◌∷◌, filter, inl, inr, arith, ap, sym, ◌∙◌, subst}
use Rattle.std.specs.Prelude.{◌⊎◌, Contains, IsSome, is_some}
use Rattle.std.proofs.lemmas.Bool.{cases_lt, and_parts, and_from}
use Rattle.std.proofs.lemmas.Bool.Decides.{nat_tests}
use mathlib.Core.Path.{fun_ext}
use Rattle.far_word.specs.declared.mark.Marks.{Marks}
use Rattle.far_word.specs.declared.pointer.Place.{Place}
use Rattle.far_word.specs.declared.pointer.PtrWord.TheVariants.{Near}
use Rattle.far_word.specs.declared.sizes.TheConstants.{LOG_WORDS}
use Rattle.far_word.specs.Pointer.{read_of}
use Rattle.far_word.specs.Sizes.{size_of}
use Rattle.far_log.specs.declared.span.Span.{Span}
use Rattle.far_log.proofs.Members.{here, split, none_in}
use Rattle.far_core.specs.laws.Observed.{span_for}
use Rattle.far_events.specs.state.Law.{Law}
use Rattle.far_events.specs.state.Spans.{spans_of, is_live}
use Rattle.far_events.specs.state.State.{State}
use Rattle.far_core.proofs.Observations as observations
use Rattle.far_hand.specs.Finds.{Finds}
use Rattle.far_book.specs.book.Dealing.{has_evac}
use Rattle.far_book.specs.book.Own.{own_part}
use Rattle.far_hand.proofs.Finding.{near_known}
use Rattle.far_book.proofs.region.Owns.{own_spans}
use Rattle.far_evac.specs.AnyHand.{Knows}
use Rattle.far_book.specs.book.NextLive.{IsBoundary, IsHomeOf, live_from}
use Rattle.far_evac.specs.Cursor.{IsNextLacking}
use Rattle.far_evac.specs.Ready.{AllMarked}
use Rattle.far_evac.specs.Standing.{MarkedBefore}
use Rattle.far_evac.proofs.Fronts.{kept_in, knows_cells, was_kept}
use Rattle.far_evac.proofs.LiveLists.{finds_place}

-- ---- the objects of a log from a word on
module _ (s : State) (law : Law (own_part s)) (l at : ℕ) where
  abbrev there_is : Span → Bool
  there_is span = is_live s l span && nat_le at span.at

  module _ (p len ds : ℕ) (place : Place) (marks : Marks) (near : read_of (s.cell p) ≡ Some (Near len ds place marks)) (log : place.log ≡ l) where
    abbrev its : Span
    its = span_for p len ds place.at

    pub listed : Contains (spans_of s l) its
    listed = subst (λ k. Contains (spans_of s k) its) log
        (subst (λ spans. Contains spans its) (sym (own_spans s law place.log)) (observations.one_live (own_part s) law p len ds place marks near).placed)

    pub alive : is_live s l its ≡ true
    alive = ap (λ k. is_live s k its) (sym log) ∙ (observations.one_live (own_part s) law p len ds place marks near).live

    pub is_there : at ≤ place.at → Contains (live_from s l at) its
    is_there from = kept_in there_is its (spans_of s l) (and_from (is_live s l its) (nat_le at place.at) alive (grind (arith, nat_tests, from))) listed

  -- each stands there, and is live
  pub stands_there : (x : Span) → Contains (live_from s l at) x → (at ≤ x.at) × (is_live s l x ≡ true)
  stands_there x member =
      let both = and_parts (is_live s l x) (nat_le at x.at) (was_kept there_is x (spans_of s l) member).0 in
      let le : nat_le at x.at ≡ true = both.1 in
      (grind (arith, nat_tests, le), both.0)

  -- where none is left, each object has EVAC
  pub none_there : live_from s l at ≡ [] → MarkedBefore s l at → AllMarked s l
  none_there none before p len ds place marks near log = elim (cases_lt place.at at) [
    | inl lt ↦ before p len ds place marks near log lt
    | inr le ↦ absurd (none_in (span_for p len ds place.at) (subst (λ xs. Contains xs (span_for p len ds place.at)) none (is_there p len ds place marks near log le)))
  ]

-- ---- the first of them
module _ (s : State) (law : Law (own_part s)) (l at : ℕ) (span : Span) (first : live_from s l at ≡ span ∷ live_from s l (span.at + size_of span.len)) where
  pub not_before : at ≤ span.at
  not_before = (stands_there s law l at span (subst (λ xs. Contains xs span) (sym first) (here span (live_from s l (span.at + size_of span.len))))).0

  -- each object that lies from the word on is the first, or lies behind it
  pub one_or_behind : (p len ds : ℕ) (place : Place) (marks : Marks) → read_of (s.cell p) ≡ Some (Near len ds place marks) → place.log ≡ l → at ≤ place.at →
      (span ≡ span_for p len ds place.at) ⊎ (span.at + size_of span.len ≤ place.at)
  one_or_behind p len ds place marks near log le =
      elim (split (span_for p len ds place.at) span (live_from s l (span.at + size_of span.len))
      (subst (λ xs. Contains xs (span_for p len ds place.at)) first (is_there s law l at p len ds place marks near log le))) [
        | inl e ↦ inl e
        | inr more ↦ inr (stands_there s law l (span.at + size_of span.len) (span_for p len ds place.at) more).0
      ]

  pub marked_to : MarkedBefore s l at → MarkedBefore s l span.at
  marked_to before p len ds place marks near log lt = elim (cases_lt place.at at) [
    | inl low ↦ before p len ds place marks near log low
    | inr le ↦ elim (one_or_behind p len ds place marks near log le) [
      | inl e ↦ (let same : span.at ≡ place.at = ap (λ (x : Span). x.at) e in absurd (omega (arith, same, lt)))
      | inr more ↦ absurd (omega (arith, more, lt))
    ]
  ]

  pub marked_past : MarkedBefore s l at → has_evac (read_of (s.cell span.p)) ≡ true → MarkedBefore s l (span.at + size_of span.len)
  marked_past before has p len ds place marks near log lt = elim (cases_lt place.at at) [
    | inl low ↦ before p len ds place marks near log low
    | inr le ↦ elim (one_or_behind p len ds place marks near log le) [
      | inl e ↦ sym (ap (λ o. has_evac o) near) ∙ ap (λ (x : Span). has_evac (read_of (s.cell x.p))) (sym e) ∙ has
      | inr more ↦ absurd (omega (arith, more, lt))
    ]
  ]

-- ---- where an object lies a span begins
size_some : (len : ℕ) → 0 < size_of len
size_some len = omega arith

pub begins_there : (s : State) → Law (own_part s) → (p len ds : ℕ) (place : Place) (marks : Marks) → read_of (s.cell p) ≡ Some (Near len ds place marks) → IsBoundary s place.log place.at
begins_there s law p len ds place marks near =
    let range = observations.in_range (own_part s) law p len ds place marks near in
    let some = size_some len in
    inr (omega (arith, range.0, some), range.1)

pub ends_within : (s : State) → Law (own_part s) → (p len ds : ℕ) (place : Place) (marks : Marks) → read_of (s.cell p) ≡ Some (Near len ds place marks) → place.at + size_of len ≤ LOG_WORDS
ends_within s law p len ds place marks near =
    let range = observations.in_range (own_part s) law p len ds place marks near in
    omega (arith, range.0, law.logs.tail_end place.log)

-- ---- what is known meanwhile
pub from_known : (s t : State) → Knows s t → (l at : ℕ) → live_from t l at ≡ live_from s l at
from_known s t known l at =
    ap (λ test. filter test (spans_of t l)) (fun_ext (λ (span : Span). ap (λ b. b && nat_le at span.at) (finds_place (s.cell span.p) (t.cell span.p) (known.found span.p) l span.at)))
    ∙ ap (λ spans. filter (λ (span : Span). is_live s l span && nat_le at span.at) spans) (known.spans l)

pub boundary_known : (s t : State) → Knows s t → (l at : ℕ) → IsBoundary s l at → IsBoundary t l at
boundary_known s t known l at b = subst (λ (u : State). IsBoundary u l at) (sym known.rest) b

pub before_known : (s t : State) → Knows s t → (l at : ℕ) → MarkedBefore s l at → MarkedBefore t l at
before_known s t known l at before p len ds place marks near log lt =
    let x = near_known (s.cell p) (t.cell p) (known.found p) len ds place marks near in sym x.same ∙ before p len ds place x.marks x.near log lt

-- ---- one step: from s to t a span was found, with the word of its cell
pub record IsStep (s t : State) (l at word : ℕ) (span : Span) : Type 0 where
  pub cells : (p : ℕ) → Finds (s.cell p) (t.cell p)
  pub kept : t ≡ record s { cell = t.cell }
  pub lies : IsHomeOf t l span
  pub is : word ≡ t.cell span.p
  pub law : Law (own_part t)
  pub first : live_from s l at ≡ span ∷ live_from s l (span.at + size_of span.len)
  pub next : IsBoundary s l (span.at + size_of span.len)

module _ {s t : State} {l at word : ℕ} {span : Span} (x : IsStep s t l at word span) where
  abbrev past : ℕ
  past = span.at + size_of span.len

  pub step_known : Knows s t
  step_known = knows_cells s t x.cells x.kept

  pub reads_there : IsSome (read_of word)
  reads_there = ap (λ w. is_some (read_of w)) x.is ∙ ap is_some x.lies.near

  step_first : live_from t l at ≡ span ∷ live_from t l past
  step_first = from_known s t step_known l at ∙ x.first ∙ ap (λ spans. span ∷ spans) (sym (from_known s t step_known l past))

  pub step_lacks : MarkedBefore s l at → has_evac (read_of word) ≡ false → IsNextLacking t l span
  step_lacks before bare = record {
    lies = x.lies;
    bare = sym (ap (λ w. has_evac (read_of w)) x.is) ∙ bare;
    here = begins_there t x.law span.p span.len span.ds (record { log = l; at = span.at }) x.lies.marks x.lies.near;
    before = marked_to t x.law l at span step_first (before_known s t step_known l at before);
    behind = boundary_known s t step_known l past x.next;
    alone = λ p len ds place marks near log from to.
        let le = not_before t x.law l at span step_first in
        elim (one_or_behind t x.law l at span step_first p len ds place marks near log (omega (arith, le, from))) [
          | inl e ↦ sym (ap (λ (x : Span). x.p) e)
          | inr more ↦ absurd (omega (arith, more, to))
        ];
  }

  pub step_passes : MarkedBefore s l at → has_evac (read_of word) ≡ true → MarkedBefore t l past
  step_passes before has = marked_past t x.law l at span step_first (before_known s t step_known l at before) (sym (ap (λ w. has_evac (read_of w)) x.is) ∙ has)

  pub step_next : IsBoundary t l past
  step_next = boundary_known s t step_known l past x.next

  pub step_on : (at < past) × (past ≤ LOG_WORDS)
  step_on =
      let from = not_before t x.law l at span step_first in
      let some = size_some span.len in
      (omega (arith, from, some), ends_within t x.law span.p span.len span.ds (record { log = l; at = span.at }) x.lies.marks x.lies.near)
