-- Owners' events, one or a row of stores, leave a book in order.
use Rattle.std.proofs.Common.{◌≡◌, ℕ, ◌+◌, ◌^◌, ◌<◌, true, cond, sym, refl, ap, subst, ◌∙◌, List, [], ◌∷◌, map, inl, inr}
use Rattle.std.specs.Prelude.{◌==◌, Bool, Option, slice_index}
use Rattle.std.proofs.lemmas.Bool.{cond_both, cases_eq, eq-eqb, ne_eqb}
use Rattle.far_log.specs.Spans.{taken_by}
use Rattle.far_events.specs.declared.event.Event.{Event}
use Rattle.far_events.specs.declared.event.Event.TheVariants.{Store}
use Rattle.far_events.specs.events.Ranges.{after_events}
use Rattle.far_events.specs.events.Step.{step_of}
use Rattle.far_core.specs.laws.Observed.{live_bytes}
use Rattle.far_events.specs.state.Jobs.{job_at}
use Rattle.far_events.specs.state.Law.{Law}
use Rattle.far_events.specs.state.Spans.{spans_of, is_live}
use Rattle.far_events.specs.state.State.{State}
use Rattle.far_core.proofs.Keeps.{step_keeps}
use Rattle.far_book.specs.declared.ledger.Ledger.{Ledger}
use Rattle.far_hand.specs.Makers.{ByBook, ByCopier, ByOwner, Maker, is_other, is_others, is_owner, is_owners, maker}
use Rattle.far_hand.specs.Others.{OthersChange}
use Rattle.far_book.specs.book.FarSide.{InOrder}
use Rattle.far_book.specs.book.Ledger.{Notes}
use Rattle.far_book.specs.book.Own.{own_part, untaken}
use Rattle.far_hand.proofs.JobsFound.{same_job}
use Rattle.far_hand.proofs.Masking.{header_still}
use Rattle.far_hand.proofs.OthersWork.{step_changes}
use Rattle.far_book.proofs.region.FarSide.{far_owned}
use Rattle.far_book.proofs.region.Founds.{names_found, free_found, free_known}
use Rattle.far_book.proofs.region.JobNotes.{notes_same}
use Rattle.far_book.proofs.region.Owns.{own_law}
use Rattle.far_book.proofs.region.SpanLists.{taken_same}
use Rattle.far_book.proofs.region.Untaken.{untaken_said}

-- an owner is another than the book
other_owner : (m : Maker) → is_owner m ≡ true → is_other m ≡ true
other_owner ByBook h = h
other_owner (ByOwner m) h = refl
other_owner (ByCopier c) h = refl

pub owners_others : (e : Event) → is_owners e ≡ true → is_others e ≡ true
owners_others e h = other_owner (maker e) h

module _ (s t : State) (law : Law s) (next : Law t) (change : OthersChange s t) where
  -- a header is no data word
  header_stays : (a : ℕ) → s.starts a ≡ true → t.word a ≡ s.word a
  header_stays a begun = change.words a (header_still s law a begun)

  own_word : (a : ℕ) → cond (s.starts a) (t.word a) 0 ≡ cond (s.starts a) (s.word a) 0
  own_word a = cond_both (s.starts a) (t.word a) 0 (λ w. w ≡ cond (s.starts a) (s.word a) 0)
      (λ begun. header_stays a begun ∙ sym (ap (λ b. cond b (s.word a) 0) begun)) (λ none. sym (ap (λ b. cond b (s.word a) 0) none))

  own_is : own_part t ≡ record (own_part s) { cell = t.cell; copying = record (own_part s).copying { word = λ j. untaken (t.copying.word j) } }
  own_is = ap own_part change.rest ∙ (λ i. record (own_part s) { cell = t.cell; word = λ a. own_word a i; copying = record (own_part s).copying { word = λ j. untaken (t.copying.word j) } })

  abbrev changed : State
  changed = record (own_part s) { cell = t.cell; copying = record (own_part s).copying { word = λ j. untaken (t.copying.word j) } }

  -- copiers have gone on with jobs, and each is the same
  jobs_same : (j : ℕ) → job_at changed.copying.word j ≡ job_at (own_part s).copying.word j
  jobs_same j = untaken_said (t.copying.word j) ∙ same_job (s.copying.word j) (t.copying.word j) (change.jobs j) ∙ sym (untaken_said (s.copying.word j))

  same_spans : (l : ℕ) → spans_of changed l ≡ spans_of (own_part s) l
  unfolding spans_of
  same_spans l = refl

  same_live : (l : ℕ) → live_bytes changed l ≡ live_bytes (own_part s) l
  same_live l = ap (taken_by (is_live changed l)) (same_spans l) ∙ taken_same (is_live changed l) (is_live s l) (spans_of (own_part s) l) (λ x h. names_found (s.cell x.p) (t.cell x.p) (change.cells x.p) l x.at)

  same_free : (p : ℕ) → (t.cell p == 0) ≡ (s.cell p == 0)
  same_free p = elim (cases_eq (s.cell p) 0) [
    | inl e ↦ eq-eqb (t.cell p) 0 (free_found (s.cell p) (t.cell p) (change.cells p) e) ∙ sym (eq-eqb (s.cell p) 0 e)
    | inr ne ↦ ne_eqb (t.cell p) 0 (λ e. ne (free_known (s.cell p) (t.cell p) (change.cells p) e)) ∙ sym (ne_eqb (s.cell p) 0 ne)
  ]

  notes_owned : (ledger : Ledger) → Notes (own_part s) ledger → Notes (own_part t) ledger
  notes_owned ledger notes = subst (λ (u : State). Notes u ledger) (sym own_is) record {
    law = subst Law own_is (own_law t next);
    current = notes.current;
    free = notes.free;
    logs = notes.logs;
    tails = notes.tails;
    lives = λ l lt. notes.lives l lt ∙ sym (same_live l);
    sealed = notes.sealed;
    once = notes.once;
    cells = notes.cells;
    cell = λ p lt. notes.cell p lt ∙ sym (same_free p);
    jobs = notes_same s.round_epoch s.round (own_part s).copying ledger.jobs notes.jobs (λ j. untaken (t.copying.word j)) jobs_same;
  }

  pub owned : (ledger : Ledger) (held : ℕ → Option (List ℕ)) (is_honest : Bool) → InOrder s ledger held is_honest → InOrder t ledger held is_honest
  owned ledger held is_honest h = record {
    notes = notes_owned ledger h.notes;
    far = far_owned s held h.far t change;
    honest = λ e. h.honest (ap (λ (u : State). u.honest) (sym change.rest) ∙ e);
  }

-- a row of stores, legal or not
module _ (ledger : Ledger) (held : ℕ → Option (List ℕ)) (is_honest : Bool) (m p first : ℕ) (words : List ℕ) (wide : (k : ℕ) → slice_index words k < 2 ^ 64) where
  pub stored : (is : List ℕ) (s : State) → Law s → InOrder s ledger held is_honest →
      InOrder (after_events s (map (λ i. Store m p (first + i) (slice_index words i)) is)) ledger held is_honest
  stored [] s law h = h
  stored (i ∷ is) s law h =
      let e : Event = Store m p (first + i) (slice_index words i) in
      let next : Law (step_of s e).0 = step_keeps s e law (wide i) in
      stored is (step_of s e).0 next (owned s (step_of s e).0 law next (step_changes s e law refl) ledger held is_honest h)
