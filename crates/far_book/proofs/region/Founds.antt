-- A word is found in a cell, with marks that its owner may have added: the law stays, and a ledger that was right.
use Rattle.std.proofs.Common.{◌≡◌, ◌≢◌, ℕ, ◌<◌, ◌^◌, true, false, cond, sym, refl, ap, subst, ◌∙◌, Option, Some, None, inl, inr}
use Rattle.std.specs.Prelude.{◌==◌, IsSome}
use Rattle.std.proofs.lemmas.Bool.{cases_eq, cond_both, eqb-true, eq-eqb, ne_eqb, false≢true, true≢false, false_from_ne_true}
use Rattle.far_word.specs.declared.mark.Marks.{Marks}
use Rattle.far_word.specs.declared.pointer.Place.{Place}
use Rattle.far_word.specs.declared.pointer.PtrWord.{PtrWord}
use Rattle.far_word.specs.declared.pointer.PtrWord.TheVariants.{Free, Near, Far}
use Rattle.far_word.specs.Pointer.{read_of, names_object, near_fits, near_of, far_fits, far_of}
use Rattle.far_word.specs.Mark.{field, is_set, marks_of}
use Rattle.far_log.specs.Spans.{taken_by}
use Rattle.far_events.specs.events.Naming.{is_dropped}
use Rattle.far_core.specs.laws.Observed.{live_bytes}
use Rattle.far_events.specs.state.Law.{Law, HasEvac, is_dirty}
use Rattle.far_events.specs.state.Spans.{spans_of, is_live, names_place}
use Rattle.far_events.specs.state.State.{State, put}
use Rattle.far_events.proofs.Cells.{Remarked, unused}
use Rattle.far_events.proofs.Cells as cells
use Rattle.far_core.proofs.Frames.{law_with_cell_marks}
use Rattle.far_events.proofs.Put.{put_both, put_old}
use Rattle.far_book.specs.declared.ledger.Ledger.{Ledger}
use Rattle.far_book.proofs.region.Dirt.{up_by}
use Rattle.far_hand.specs.Finds.{Finds, body_of, marks_in}
use Rattle.far_book.specs.book.Ledger.{Notes}
use Rattle.far_book.specs.book.Home.{home_of}
use Rattle.far_book.specs.book.Own.{own_part}
use Rattle.far_hand.proofs.Finding.{near_known}
use Rattle.far_book.proofs.region.SpanLists.{taken_same}

-- ---- what a word that is found shares with the one that was known
drop_mark : (o : Option PtrWord) → is_dropped o ≡ (marks_in o).dropped
drop_mark (Some Free) = refl
drop_mark o = refl

same_body : (o : Option PtrWord) → cells.body (body_of o) ≡ cells.body o
same_body (Some Free) = refl
same_body o = refl

same_names : (o : Option PtrWord) (l at : ℕ) → names_place (body_of o) l at ≡ names_place o l at
same_names (Some Free) l at = refl
same_names o l at = refl

free_body : (o : Option PtrWord) → body_of o ≡ Some Free → o ≡ Some Free
free_body None e = absurd cc
free_body (Some Free) e = refl
free_body (Some (Near len ds place m)) e = absurd cc
free_body (Some (Far len ds m)) e = absurd cc

-- only 0 says that a cell is free
not_free : (w : ℕ) → w ≢ 0 → read_of w ≡ Some Free → ⊥
unfolding read_of
not_free w ne = cond_both (w == 0) (Some Free) (cond (names_object w) (cond (is_set w 63) (near_of w) (far_of w)) None) (λ o. o ≡ Some Free → ⊥) (λ e. absurd (ne (eqb-true w 0 e)))
    (λ _. cond_both (names_object w) (cond (is_set w 63) (near_of w) (far_of w)) None (λ o. o ≡ Some Free → ⊥)
    (λ _. cond_both (is_set w 63) (near_of w) (far_of w) (λ o. o ≡ Some Free → ⊥)
    (λ _. cond_both (near_fits w) (Some (Near (field w 0 16) (field w 16 8) record { log = field w 34 8; at = field w 24 10 } (marks_of w))) None (λ o. o ≡ Some Free → ⊥) (λ _ e. absurd cc) (λ _ e. absurd cc))
    (λ _. cond_both (far_fits w) (Some (Far (field w 0 16) (field w 16 8) (marks_of w))) None (λ o. o ≡ Some Free → ⊥) (λ _ e. absurd cc) (λ _ e. absurd cc)))
    (λ _ e. absurd cc))

pub only_zero : (w : ℕ) → read_of w ≡ Some Free → w ≡ 0
only_zero w e = elim (cases_eq w 0) [ inl is ↦ is | inr ne ↦ absurd (not_free w ne e) ]

pub near_used : (w len ds : ℕ) (place : Place) (m : Marks) → read_of w ≡ Some (Near len ds place m) → (w == 0) ≡ false
near_used w len ds place m e = ne_eqb w 0 (λ z. let both : Some Free ≡ Some (Near len ds place m) = sym unused ∙ (ap read_of (sym z) ∙ e) in absurd cc)

pub far_used : (w len ds : ℕ) (m : Marks) → read_of w ≡ Some (Far len ds m) → (w == 0) ≡ false
far_used w len ds m e = ne_eqb w 0 (λ z. let both : Some Free ≡ Some (Far len ds m) = sym unused ∙ (ap read_of (sym z) ∙ e) in absurd cc)

module _ (v w : ℕ) (f : Finds v w) where
  pub drop_found : is_dropped (read_of v) ≡ true → is_dropped (read_of w) ≡ true
  drop_found h = drop_mark (read_of w) ∙ f.dropped (sym (drop_mark (read_of v)) ∙ h)

  pub names_found : (l at : ℕ) → names_place (read_of w) l at ≡ names_place (read_of v) l at
  names_found l at = sym (same_names (read_of w) l at) ∙ ap (λ o. names_place o l at) f.body ∙ same_names (read_of v) l at

  pub free_found : v ≡ 0 → w ≡ 0
  free_found e = only_zero w (free_body (read_of w) (f.body ∙ ap body_of (ap read_of e ∙ unused)))

  pub free_known : w ≡ 0 → v ≡ 0
  free_known e = only_zero v (free_body (read_of v) (sym f.body ∙ ap body_of (ap read_of e ∙ unused)))

  same_zero : (w == 0) ≡ (v == 0)
  same_zero = elim (cases_eq v 0) [
    | inl e ↦ eq-eqb w 0 (free_found e) ∙ sym (eq-eqb v 0 e)
    | inr ne ↦ ne_eqb w 0 (λ e. ne (free_known e)) ∙ sym (ne_eqb v 0 ne)
  ]

-- ---- a cell gets a word that names the same place: a ledger that was right stays so, if the law does
module _ (s : State) (p w : ℕ) (names : (l at : ℕ) → names_place (read_of w) l at ≡ names_place (read_of (s.cell p)) l at) (free : (w == 0) ≡ (s.cell p == 0)) where
  abbrev pub seen : State
  seen = record s { cell = put s.cell p w }

  spans_same : (l : ℕ) → spans_of (own_part seen) l ≡ spans_of (own_part s) l
  unfolding spans_of
  spans_same l = refl

  live_same : (l : ℕ) → live_bytes (own_part seen) l ≡ live_bytes (own_part s) l
  live_same l = ap (taken_by (is_live seen l)) (spans_same l) ∙ taken_same (is_live seen l) (is_live s l) (spans_of (own_part s) l) (λ x h.
      put_both (λ c. names_place (read_of c) l x.at ≡ names_place (read_of (s.cell x.p)) l x.at) s.cell p w x.p
      (λ e. names l x.at ∙ ap (λ q. names_place (read_of (s.cell q)) l x.at) (sym e)) (λ _. refl))

  pub notes_seen : (ledger : Ledger) → Law (own_part seen) → Notes (own_part s) ledger → Notes (own_part seen) ledger
  notes_seen ledger law notes = record {
    law = law;
    current = notes.current;
    free = notes.free;
    logs = notes.logs;
    tails = notes.tails;
    lives = λ l lt. notes.lives l lt ∙ sym (live_same l);
    sealed = notes.sealed;
    once = notes.once;
    cells = notes.cells;
    jobs = notes.jobs;
    cell = λ q lt. notes.cell q lt ∙ put_both (λ c. (s.cell q == 0) ≡ (c == 0)) s.cell p w q (λ e. ap (λ x. s.cell x == 0) e ∙ sym free) (λ _. refl);
  }

-- ---- a word is found
module _ (s : State) (law : Law (own_part s)) (p w : ℕ) (fits : w < 2 ^ 64) (f : Finds (s.cell p) w) where
  remarked : Remarked (read_of (s.cell p)) (read_of w)
  remarked = record {
    same = sym (same_body (read_of w)) ∙ ap cells.body f.body ∙ same_body (read_of (s.cell p));
    kept = λ alive. false_from_ne_true (cells.is_dropped (read_of (s.cell p))) (λ h. true≢false (sym (drop_found (s.cell p) w f h) ∙ alive));
    clean = λ none. false_from_ne_true (is_dirty (read_of (s.cell p))) (λ h. true≢false (sym (up_by (read_of (s.cell p)) (read_of w) f.body f.dirty h) ∙ none));
  }

  -- EVAC is the book's, so it is found as it was known
  evac : HasEvac s.round (read_of w)
  evac len ds place m e inside = let x = near_known (s.cell p) w f len ds place m e in sym x.same ∙ law.rounds.round_evac p len ds place x.marks x.near inside

  pub law_found : Law (own_part record s { cell = put s.cell p w })
  law_found = elim (cases_eq (s.cell p) 0) [
    | inl e ↦ subst (λ (cell : ℕ → ℕ). Law record (own_part s) { cell = cell }) (sym (put_old s.cell p w (e ∙ sym (free_found (s.cell p) w f e)))) law
    | inr ne ↦ law_with_cell_marks (own_part s) law p w fits remarked evac ne (λ place h. absurd cc) (λ h. absurd (false≢true h))
  ]

  pub notes_found : (ledger : Ledger) → Notes (own_part s) ledger → Notes (own_part record s { cell = put s.cell p w }) ledger
  notes_found ledger notes = notes_seen s p w (names_found (s.cell p) w f) (same_zero (s.cell p) w f) ledger law_found notes

-- ---- a cell is free exactly where it has no home
free_by : (o n : Option PtrWord) → body_of n ≡ body_of o → IsSome o → home_of n ≡ None → o ≡ Some Free
free_by None n e some none = absurd (false≢true some)
free_by (Some Free) n e some none = refl
free_by (Some (Near n d at k)) None e some none = absurd cc
free_by (Some (Near n d at k)) (Some Free) e some none = absurd cc
free_by (Some (Near n d at k)) (Some (Near len ds place m)) e some none = absurd cc
free_by (Some (Near n d at k)) (Some (Far len ds m)) e some none = absurd cc
free_by (Some (Far n d k)) None e some none = absurd cc
free_by (Some (Far n d k)) (Some Free) e some none = absurd cc
free_by (Some (Far n d k)) (Some (Near len ds place m)) e some none = absurd cc
free_by (Some (Far n d k)) (Some (Far len ds m)) e some none = absurd cc

pub no_home : (v w : ℕ) → Finds v w → IsSome (read_of v) → home_of (read_of w) ≡ None → v ≡ 0
no_home v w f some none = only_zero v (free_by (read_of v) (read_of w) f.body some none)

pub free_home : (v w : ℕ) → Finds v w → v ≡ 0 → home_of (read_of w) ≡ None
free_home v w f e = ap home_of (ap read_of (free_found v w f e) ∙ unused)

-- a cell that says where no object is, is free
pub home_none : (w : ℕ) → IsSome (read_of w) → home_of (read_of w) ≡ None → w ≡ 0
home_none w some none = only_zero w (free_by (read_of w) (read_of w) refl some none)

pub none_home : (w : ℕ) → w ≡ 0 → home_of (read_of w) ≡ None
none_home w e = ap home_of (ap read_of e ∙ unused)
