-- What a round's steps leave of a book: it stays in order.
use Rattle.std.proofs.Common.{◌≡◌, ℕ, ◌+◌, ◌<◌, ◌^◌, Bool, true, false, arith, refl, sym, ap, ◌∙◌, subst, Option, Some, List}
use Rattle.std.specs.Prelude.{◌||◌}
use Rattle.std.proofs.lemmas.Bool.{false≢true}
use Rattle.far_word.specs.declared.pointer.PtrWord.TheVariants.{Near}
use Rattle.far_word.specs.declared.sizes.TheConstants.{EPOCH_END}
use Rattle.far_word.specs.Pointer.{read_of, without_evac}
use Rattle.far_word.proofs.PointerLaws.{without_evac_read}
use Rattle.far_events.specs.declared.event.Event.TheVariants.{Advance, Clear}
use Rattle.far_events.specs.events.Advance.{advanced}
use Rattle.far_events.specs.events.Clear.{evac_cleared, round_left}
use Rattle.far_events.specs.events.Legal.{Legal}
use Rattle.far_core.specs.laws.Observed.{live_bytes}
use Rattle.far_events.specs.state.Law.{Law}
use Rattle.far_events.specs.state.Spans.{names_place, spans_of}
use Rattle.far_events.specs.state.State.{State, put}
use Rattle.far_core.proofs.events.Clear.{out_still}
use Rattle.far_core.proofs.Frames.{law_with_fewer_chosen}
use Rattle.far_core.proofs.KeepJobs.{copies_fewer}
use Rattle.far_core.proofs.Owing.{keeps}
use Rattle.far_events.proofs.Put.{put_both, put_same}
use Rattle.far_book.specs.declared.ledger.Ledger.{Ledger}
use Rattle.far_hand.specs.Cleared.{cleared}
use Rattle.far_hand.specs.Finds.{Finds}
use Rattle.far_hand.specs.Known.{Forgets}
use Rattle.far_hand.specs.Rounds.{MayChoose, looked_at}
use Rattle.far_book.specs.declared.jobs.Jobs.{Jobs}
use Rattle.far_book.specs.book.FarSide.{InOrder, kept_len}
use Rattle.far_book.specs.book.Jobs.{EndsJobs, NotesJobs, lies_in}
use Rattle.far_book.specs.book.Ledger.{Notes}
use Rattle.far_book.specs.book.Own.{own_part, unread}
use Rattle.far_hand.proofs.Finding.{near_found}
use Rattle.far_book.proofs.region.Calls.{put_put}
use Rattle.far_book.proofs.region.FarHeld.{still_named}
use Rattle.far_book.proofs.region.Founds.{near_used, notes_seen}
use Rattle.far_book.proofs.region.InOrders.{found_keeps, headers_keep}
use Rattle.far_book.proofs.region.JobNotes.{good_late, good_left, notes_ended}

-- ---- of the epoch, the round and who is clear it is written down alone which jobs are good
module _ (s : State) (ledger : Ledger) (notes : Notes (own_part s) ledger) (epoch : ℕ) (round : ℕ → Bool) (round_epoch : ℕ) (clear : ℕ → Bool) where
  abbrev then : State
  then = record s { epoch = epoch; round = round; round_epoch = round_epoch; clear = clear }

  live_same : (l : ℕ) → live_bytes (own_part then) l ≡ live_bytes (own_part s) l
  unfolding spans_of
  live_same l = refl

  pub notes_in_round : (jobs : Jobs) → Law (own_part then) → NotesJobs round_epoch round (unread s.copying) jobs → Notes (own_part then) (record ledger { jobs = jobs })
  notes_in_round jobs law good = record {
    law = law;
    current = notes.current;
    free = notes.free;
    logs = notes.logs;
    tails = notes.tails;
    lives = λ l lt. notes.lives l lt ∙ sym (live_same l);
    sealed = notes.sealed;
    once = notes.once;
    cells = notes.cells;
    cell = notes.cell;
    jobs = good;
  }

-- who was seen clear is so still
clear_still : (a b : Bool) → a ≡ true → (a || b) ≡ true
clear_still true b h = refl
clear_still false b h = absurd (false≢true h)

looked_still : (s : State) (m w k : ℕ) → s.clear k ≡ true → (looked_at s m w).clear k ≡ true
looked_still s m w k h = put_both (λ b. b ≡ true) s.clear m _ k (λ e. clear_still (s.clear m) _ (ap s.clear (sym e) ∙ h)) (λ _. h)

module _ (s : State) (ledger : Ledger) (held : ℕ → Option (List ℕ)) (is_honest : Bool) (h : InOrder s ledger held is_honest) where
  -- ---- a scope is looked at
  law_looked : (clear : ℕ → Bool) → ((m : ℕ) → s.clear m ≡ true → clear m ≡ true) → Law (own_part record s { clear = clear })
  law_looked clear still = let law = h.notes.law in record {
    shape = law.shape;
    cells = law.cells;
    spans = law.spans;
    logs = law.logs;
    scopes = law.scopes;
    views = law.views;
    rounds = law.rounds;
    clears = record { clear_unviewed = λ p place v. absurd cc; late_unviewed = λ p e place v. absurd cc };
    unadopted = law.unadopted;
    copies = copies_fewer (own_part s) s.round clear law (λ l h. h) still;
    soils = law.soils;
    cleans = law.cleans;
  }

  pub looked_keeps : (m w : ℕ) → InOrder (looked_at s m w) ledger held is_honest
  looked_keeps m w = record {
    notes = notes_in_round s ledger h.notes s.epoch s.round s.round_epoch (looked_at s m w).clear ledger.jobs (law_looked (looked_at s m w).clear (looked_still s m w)) h.notes.jobs;
    far = record { long = h.far.long; same = h.far.same };
    honest = h.honest;
  }

  -- ---- a round begins
  begun : (logs : ℕ) (jobs : Jobs) → s.epoch + 1 < EPOCH_END → MayChoose s logs → EndsJobs (λ _. true) ledger.jobs jobs → InOrder (advanced s logs) (record ledger { jobs = jobs }) held is_honest
  begun logs jobs below chosen ends = record {
    notes = notes_in_round s ledger h.notes (advanced s logs).epoch (advanced s logs).round (advanced s logs).round_epoch (advanced s logs).clear jobs
        (keeps (own_part s) (Advance logs) h.notes.law tt (record { below = below; shut = chosen.shut; marked = chosen.marked }))
        (notes_ended s.round_epoch s.round (unread s.copying) ledger.jobs h.notes.jobs (s.epoch + 1) (advanced s logs).round jobs (λ _. true) ends
        (λ j job e. good_late s.round_epoch (s.epoch + 1) s.round (advanced s logs).round s.copying.since j job (h.notes.law.copies.good.begun j) (omega (arith, h.notes.law.rounds.own_epoch))));
    far = record { long = h.far.long; same = h.far.same };
    honest = h.honest;
  }

  pub advanced_keeps : (t : State) (logs : ℕ) (jobs : Jobs) → s.epoch + 1 < EPOCH_END → MayChoose s logs → EndsJobs (λ _. true) ledger.jobs jobs → t ≡ record (advanced s logs) { word = t.word } → Forgets s t →
      InOrder t (record ledger { jobs = jobs }) held is_honest
  advanced_keeps t logs jobs below chosen ends is forgot = headers_keep (advanced s logs) (record ledger { jobs = jobs }) held is_honest (begun logs jobs below chosen ends) t is
      (λ a start. forgot.headers a (ap (λ (u : State). u.starts a) is ∙ start))

-- ---- EVAC is taken from an object, and its log leaves the round
module _ (s : State) (ledger : Ledger) (held : ℕ → Option (List ℕ)) (is_honest : Bool) (h : InOrder s ledger held is_honest) (p : ℕ) (legal : Legal s (Clear p)) (jobs : Jobs) (ends : EndsJobs (lies_in (read_of (s.cell p))) ledger.jobs jobs) where
  near : read_of (evac_cleared (s.cell p)) ≡ Some (without_evac (Near legal.1.0 legal.1.1 legal.1.2 legal.1.3))
  near = without_evac_read (s.cell p) (Near legal.1.0 legal.1.1 legal.1.2 legal.1.3) (h.notes.law.cells.cell_read p).0 legal.1.4

  same_names : (l at : ℕ) → names_place (read_of (evac_cleared (s.cell p))) l at ≡ names_place (read_of (s.cell p)) l at
  same_names l at = rw (near, legal.1.4) refl

  abbrev left : ℕ → Bool
  left = round_left s.round (read_of (s.cell p))

  pub clears : InOrder (record s { cell = put s.cell p (evac_cleared (s.cell p)); round = left }) (record ledger { jobs = jobs }) held is_honest
  clears = record {
    notes = notes_seen record s { round = left } p (evac_cleared (s.cell p)) same_names
        (near_used (evac_cleared (s.cell p)) _ _ _ _ near ∙ sym (near_used (s.cell p) legal.1.0 legal.1.1 legal.1.2 legal.1.3 legal.1.4))
        (record ledger { jobs = jobs }) (keeps (own_part s) (Clear p) h.notes.law tt legal)
        (notes_in_round s ledger h.notes s.epoch left s.round_epoch s.clear jobs (law_with_fewer_chosen (own_part s) left h.notes.law (out_still s.round (read_of (s.cell p))))
        (notes_ended s.round_epoch s.round (unread s.copying) ledger.jobs h.notes.jobs s.round_epoch left jobs (lies_in (read_of (s.cell p))) ends
        (λ j job e. good_left s.round s.round_epoch s.copying.since (read_of (s.cell p)) j job)));
    far = still_named s (record s { cell = put s.cell p (evac_cleared (s.cell p)); round = left }) held held h.far p (evac_cleared (s.cell p)) refl refl (λ q _. refl) (λ q _. refl) (ap kept_len near ∙ sym (ap kept_len legal.1.4)) refl refl;
    honest = h.honest;
  }

-- the same by a word that is found
module _ (s t : State) (ledger : Ledger) (held : ℕ → Option (List ℕ)) (is_honest : Bool) (h : InOrder s ledger held is_honest) (p : ℕ) (legal : Legal s (Clear p)) (jobs : Jobs) where
  found_clears : (w : ℕ) → w < 2 ^ 64 → Finds (s.cell p) w → EndsJobs (lies_in (read_of w)) ledger.jobs jobs → InOrder (cleared s p w) (record ledger { jobs = jobs }) held is_honest
  found_clears w fits f ends =
      let seen : State = record s { cell = put s.cell p w } in
      let is : seen.cell p ≡ w = put_same s.cell p w p refl in
      let x = near_found (s.cell p) w f legal.1.0 legal.1.1 legal.1.2 legal.1.3 legal.1.4 in
      let may : Legal seen (Clear p) = (legal.0, (legal.1.0, legal.1.1, legal.1.2, x.marks, ap read_of is ∙ x.near)) in
      let twice : put seen.cell p (evac_cleared (seen.cell p)) ≡ put s.cell p (evac_cleared w) = ap (λ v. put seen.cell p (evac_cleared v)) is ∙ put_put s.cell p w (evac_cleared w) in
      subst (λ (v : ℕ). InOrder record s { cell = put s.cell p (evac_cleared w); round = round_left s.round (read_of v) } (record ledger { jobs = jobs }) held is_honest) is
      (subst (λ (cell : ℕ → ℕ). InOrder record s { cell = cell; round = round_left s.round (read_of (seen.cell p)) } (record ledger { jobs = jobs }) held is_honest) twice
      (clears seen ledger held is_honest (found_keeps s ledger held is_honest h p w fits f) p may jobs (subst (λ (v : ℕ). EndsJobs (lies_in (read_of v)) ledger.jobs jobs) (sym is) ends)))

  pub cleared_keeps : (w : ℕ) → w < 2 ^ 64 → Finds (s.cell p) w → EndsJobs (lies_in (read_of w)) ledger.jobs jobs → t ≡ record (cleared s p w) { word = t.word } → Forgets s t →
      InOrder t (record ledger { jobs = jobs }) held is_honest
  cleared_keeps w fits f ends is forgot = headers_keep (cleared s p w) (record ledger { jobs = jobs }) held is_honest (found_clears w fits f ends) t is
      (λ a start. forgot.headers a (ap (λ (u : State). u.starts a) is ∙ start))
