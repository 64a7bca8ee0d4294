-- EVAC is set or taken in a state and in one that is known of it: what is left is known too.
use Rattle.std.proofs.Common.{◌≡◌, ℕ, ◌^◌, ◌<◌, ◌==◌, Bool, true, false, cond, Some, List, [], ◌∷◌, bit_or, ap, sym, refl, ◌∙◌, subst}
use Rattle.std.specs.Prelude.{fold}
use Rattle.std.specs.List.{AllByRecursion}
use Rattle.far_word.specs.declared.mark.Mark.TheVariants.{Evac}
use Rattle.far_word.specs.declared.mark.Marks.{Marks}
use Rattle.far_word.specs.declared.pointer.Place.{Place}
use Rattle.far_word.specs.declared.pointer.PtrWord.TheVariants.{Near, Far}
use Rattle.far_word.specs.Mark.{position}
use Rattle.far_word.specs.Pointer.{read_of}
use Rattle.far_word.proofs.PointerLaws.{with_mark_read, without_evac_read}
use Rattle.far_events.specs.events.Clear.{evac_cleared, round_left}
use Rattle.far_events.specs.state.Law.{Law}
use Rattle.far_events.specs.state.Spans.{spans_of}
use Rattle.far_events.specs.state.State.{State, put}
use Rattle.far_events.proofs.Put.{put_both, put_same}
use Rattle.far_hand.specs.Cleared.{cleared}
use Rattle.far_hand.specs.Finds.{Finds, body_of, marks_in}
use Rattle.far_hand.specs.Known.{Forgets}
use Rattle.far_book.specs.book.Effects.{marked}
use Rattle.far_book.specs.book.Own.{own_part}
use Rattle.far_book.specs.book.Renaming.{seen}
use Rattle.far_hand.proofs.Finding.{near_found}
use Rattle.far_book.proofs.region.Calls.{put_put}
use Rattle.far_evac.specs.AnyHand.{Knows}
use Rattle.far_evac.specs.RoundSteps.{advanced, unmarked}
use Rattle.far_evac.proofs.Hands.{knows_forgotten, knows_more, knows_seen}
use Rattle.far_evac.proofs.Marks.{IsNearWord, all_near, clear_sets, mark_sets}

abbrev with_evac : ℕ → ℕ
with_evac w = bit_or w (2 ^ position Evac)

-- ---- one word: the same change in a known word and in a found one
module _ (v w old new len ds : ℕ) (place : Place) (m n : Marks) (finds : Finds v w) (known : read_of v ≡ Some (Near len ds place m)) (found : read_of w ≡ Some (Near len ds place n)) where
  hot_up : m.hot ≡ true → n.hot ≡ true
  hot_up h = sym (ap (λ o. (marks_in o).hot) found) ∙ finds.hot (ap (λ o. (marks_in o).hot) known ∙ h)

  moved_up : m.moved ≡ true → n.moved ≡ true
  moved_up h = sym (ap (λ o. (marks_in o).moved) found) ∙ finds.moved (ap (λ o. (marks_in o).moved) known ∙ h)

  dropped_up : m.dropped ≡ true → n.dropped ≡ true
  dropped_up h = sym (ap (λ o. (marks_in o).dropped) found) ∙ finds.dropped (ap (λ o. (marks_in o).dropped) known ∙ h)

  dirty_up : m.dirty ≡ true → n.dirty ≡ true
  dirty_up h = sym (ap (λ o. (marks_in o).dirty) found) ∙ finds.dirty (ap (λ o. (marks_in o).dirty) known ∙ h)

  finds_so : (b : Bool) → read_of old ≡ Some (Near len ds place record { hot = m.hot; evac = b; moved = m.moved; dropped = m.dropped; dirty = m.dirty }) →
      read_of new ≡ Some (Near len ds place record { hot = n.hot; evac = b; moved = n.moved; dropped = n.dropped; dirty = n.dirty }) → Finds old new
  finds_so b e f = record {
    body = ap body_of f ∙ sym (ap body_of e);
    hot = λ h. ap (λ o. (marks_in o).hot) f ∙ hot_up (sym (ap (λ o. (marks_in o).hot) e) ∙ h);
    moved = λ h. ap (λ o. (marks_in o).moved) f ∙ moved_up (sym (ap (λ o. (marks_in o).moved) e) ∙ h);
    dropped = λ h. ap (λ o. (marks_in o).dropped) f ∙ dropped_up (sym (ap (λ o. (marks_in o).dropped) e) ∙ h);
    dirty = λ h. ap (λ o. (marks_in o).dirty) f ∙ dirty_up (sym (ap (λ o. (marks_in o).dirty) e) ∙ h);
  }

finds_marked : (v w : ℕ) → Finds v w → IsNearWord v → w < 2 ^ 64 → Finds (with_evac v) (with_evac w)
finds_marked v w finds (fits, (len, ds, place, m, near)) found_fits =
    let x = near_found v w finds len ds place m near in
    finds_so v w (with_evac v) (with_evac w) len ds place m x.marks finds near x.near true
    (with_mark_read Evac v (Near len ds place m) fits near refl) (with_mark_read Evac w (Near len ds place x.marks) found_fits x.near refl)

finds_cleared : (v w : ℕ) → Finds v w → IsNearWord v → w < 2 ^ 64 → Finds (evac_cleared v) (evac_cleared w)
finds_cleared v w finds (fits, (len, ds, place, m, near)) found_fits =
    let x = near_found v w finds len ds place m near in
    finds_so v w (evac_cleared v) (evac_cleared w) len ds place m x.marks finds near x.near false
    (without_evac_read v (Near len ds place m) fits near) (without_evac_read w (Near len ds place x.marks) found_fits x.near)

near_too : (v w : ℕ) → Finds v w → IsNearWord v → w < 2 ^ 64 → IsNearWord w
near_too v w finds (fits, (len, ds, place, m, near)) found_fits = let x = near_found v w finds len ds place m near in (found_fits, (len, ds, place, x.marks, x.near))

-- ---- one cell
finds_either : (b : Bool) (x y v w : ℕ) → Finds v w → Finds x y → Finds (cond b v x) (cond b w y)
finds_either true x y v w this other = this
finds_either false x y v w this other = other

no_far : (v len ds : ℕ) (m : Marks) → IsNearWord v → read_of v ≡ Some (Far len ds m) → ⊥
no_far v len ds m (fits, (n, d, place, k, near)) far = let both : Some (Near n d place k) ≡ Some (Far len ds m) = sym near ∙ far in absurd cc

module _ (s t : State) (known : Knows s t) (p old new : ℕ) (round then : ℕ → Bool) (finds : Finds old new) (near : IsNearWord old) (same : then ≡ round) where
  abbrev before : State
  before = record s { cell = put s.cell p old; round = round }

  abbrev after : State
  after = record t { cell = put t.cell p new; round = then }

  knows_changed : Knows before after
  unfolding spans_of
  knows_changed = record {
    found = λ q. finds_either (q == p) (s.cell q) (t.cell q) old new finds (known.found q);
    spans = λ l. known.spans l;
    stored = λ q len ds i m far lt is. put_both (λ w. read_of w ≡ Some (Far len ds m) → t.stored q i ≡ s.stored q i) s.cell p old q
        (λ _ e. absurd (no_far old len ds m near e)) (λ _ e. known.stored q len ds i m e lt is) far;
    rest = ap (λ (u : State). record u { cell = put t.cell p new; round = then }) known.rest
        ∙ (λ i. record s { cell = put t.cell p new; word = t.word; stored = t.stored; round = same i });
  }

same_round : (s t : State) → Knows s t → t.round ≡ s.round
same_round s t known = ap (λ (u : State). u.round) known.rest

round_left_near : (round : ℕ → Bool) (v w : ℕ) → Finds v w → IsNearWord v → round_left round (read_of w) ≡ round_left round (read_of v)
round_left_near round v w finds (fits, (len, ds, place, m, near)) =
    let x = near_found v w finds len ds place m near in ap (round_left round) x.near ∙ sym (ap (round_left round) near)

module _ (s t : State) (known : Knows s t) (p : ℕ) (near : IsNearWord (s.cell p)) (fits : t.cell p < 2 ^ 64) where
  pub marked_known : Knows (marked s p) (marked t p)
  marked_known = knows_changed s t known p (with_evac (s.cell p)) (with_evac (t.cell p)) s.round t.round (finds_marked (s.cell p) (t.cell p) (known.found p) near fits)
      ((mark_sets (s.cell p) near).like.near near) (same_round s t known)

  pub unmarked_known : Knows (unmarked s p) (unmarked t p)
  unmarked_known = knows_changed s t known p (evac_cleared (s.cell p)) (evac_cleared (t.cell p)) (round_left s.round (read_of (s.cell p))) (round_left t.round (read_of (t.cell p)))
      (finds_cleared (s.cell p) (t.cell p) (known.found p) near fits) ((clear_sets (s.cell p) near).like.near near)
      (ap (λ r. round_left r (read_of (t.cell p))) (same_round s t known) ∙ round_left_near s.round (s.cell p) (t.cell p) (known.found p) near)

-- ---- what the book's calls leave
module _ (s t : State) (p word : ℕ) (near : IsNearWord (s.cell p)) (finds : Finds (s.cell p) word) (fits : word < 2 ^ 64) where
  here_fits : (seen s p word).cell p < 2 ^ 64
  here_fits = subst (λ w. w < 2 ^ 64) (sym (put_same s.cell p word p refl)) fits

  marks_seen : marked (seen s p word) p ≡ record s { cell = put s.cell p (with_evac word) }
  marks_seen =
      (λ i. record s { cell = put (put s.cell p word) p (with_evac ((put_same s.cell p word p refl) i)) })
      ∙ (λ i. record s { cell = put_put s.cell p word (with_evac word) i })

  pub mark_leaves : t ≡ record s { cell = put s.cell p (with_evac word) } → Knows (marked s p) t
  mark_leaves is = subst (Knows (marked s p)) (marks_seen ∙ sym is) (marked_known s (seen s p word) (knows_seen s p word finds) p near here_fits)

  clears_seen : unmarked (seen s p word) p ≡ cleared s p word
  clears_seen =
      (λ i. record s {
        cell = put (put s.cell p word) p (evac_cleared ((put_same s.cell p word p refl) i));
        round = round_left s.round (read_of ((put_same s.cell p word p refl) i));
      })
      ∙ (λ i. record s { cell = put_put s.cell p word (evac_cleared word) i; round = round_left s.round (read_of word) })

  forgets_so : Forgets s t → Forgets (cleared s p word) t
  forgets_so forgot = record { known = forgot.known; headers = forgot.headers }

  pub clear_leaves : t ≡ record (cleared s p word) { word = t.word } → Forgets s t → Law (own_part t) → Knows (unmarked s p) t
  clear_leaves is forgot law =
      knows_more (unmarked s p) (cleared s p word) t
      (subst (Knows (unmarked s p)) clears_seen (unmarked_known s (seen s p word) (knows_seen s p word finds) p near here_fits))
      (knows_forgotten (cleared s p word) t is (forgets_so forgot) law)

-- ---- one after the other
module _ (step : State → ℕ → State) (change : ℕ → ℕ) (cell : (s : State) (p : ℕ) → (step s p).cell ≡ put s.cell p (change (s.cell p)))
    (stays : (w : ℕ) → IsNearWord w → IsNearWord (change w)) where
  step_fits : (s : State) → ((q : ℕ) → s.cell q < 2 ^ 64) → (p : ℕ) → IsNearWord (s.cell p) → (q : ℕ) → (step s p).cell q < 2 ^ 64
  step_fits s fits p near q = subst (λ f. f q < 2 ^ 64) (sym (cell s p))
      (put_both (λ w. w < 2 ^ 64) s.cell p (change (s.cell p)) q (λ _. (stays (s.cell p) near).0) (λ _. fits q))

pub marked_fits : (s : State) → ((q : ℕ) → s.cell q < 2 ^ 64) → (p : ℕ) → IsNearWord (s.cell p) → (q : ℕ) → (marked s p).cell q < 2 ^ 64
marked_fits = step_fits marked with_evac (λ s p. refl) (λ w near. (mark_sets w near).like.near near)

pub unmarked_fits : (s : State) → ((q : ℕ) → s.cell q < 2 ^ 64) → (p : ℕ) → IsNearWord (s.cell p) → (q : ℕ) → (unmarked s p).cell q < 2 ^ 64
unmarked_fits = step_fits unmarked evac_cleared (λ s p. refl) (λ w near. (clear_sets w near).like.near near)

-- the same objects lose EVAC in both
pub cleared_known : (ps : List ℕ) (s t : State) → Knows s t → ((q : ℕ) → t.cell q < 2 ^ 64) → AllByRecursion (λ p. IsNearWord (s.cell p)) ps → Knows (fold unmarked s ps) (fold unmarked t ps)
cleared_known [] s t known fits near = known
cleared_known (p ∷ ps) s t known fits near =
    cleared_known ps (unmarked s p) (unmarked t p) (unmarked_known s t known p near.0 (fits p))
    (unmarked_fits t fits p (near_too (s.cell p) (t.cell p) (known.found p) near.0 (fits p)))
    (all_near false unmarked evac_cleared (λ u q. refl) clear_sets s p ps near.0 near.1)

-- ---- a round begins in both
pub advanced_known : (s t : State) (logs : List ℕ) → Knows s t → Knows (advanced s logs) (advanced t logs)
unfolding spans_of
advanced_known s t logs known = record {
  found = known.found;
  spans = λ l. known.spans l;
  stored = known.stored;
  rest = ap (λ (u : State). advanced u logs) known.rest;
}
