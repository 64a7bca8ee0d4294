-- What a beset hand knows after it has offered a job, or collected one, and why what is legal by its view is legal.
use Rattle.std.proofs.Common.{◌≡◌, ◌≢◌, ℕ, ◌+◌, ◌-◌, ◌*◌, ◌^◌, ◌<◌, Bool, true, false, cond, Some, refl, sym, ap, ◌∙◌, subst, arith}
use Rattle.std.specs.Prelude.{◌==◌}
use Rattle.std.proofs.lemmas.Bool.{cond_both, eqb-true, eqb-false, eq-eqb, ne_eqb}
use Rattle.far_word.specs.declared.job.Job.{Job}
use Rattle.far_word.specs.declared.job.JobWord.TheVariants.{Offered}
use Rattle.far_word.specs.declared.mark.Marks.{Marks}
use Rattle.far_word.specs.declared.pointer.Place.{Place}
use Rattle.far_word.specs.declared.sizes.TheConstants.{CELLS, JOBS}
use Rattle.far_word.specs.Header.{head_word}
use Rattle.far_word.specs.Job.{IsJob, job_word}
use Rattle.far_word.specs.Pointer.{read_of}
use Rattle.far_word.specs.Sizes.{words_for}
use Rattle.far_events.specs.declared.event.Event.TheVariants.{Collect, Offer}
use Rattle.far_events.specs.declared.event.Reply.{Reply}
use Rattle.far_events.specs.declared.event.Reply.TheVariants.{Done, Word}
use Rattle.far_events.specs.events.Collect.{collected}
use Rattle.far_events.specs.events.Legal.{Legal}
use Rattle.far_events.specs.events.Offer.{MayOffer, after_offer, offered}
use Rattle.far_events.specs.events.Step.{after, answer}
use Rattle.far_core.specs.state.CoreState.{core_state}
use Rattle.far_events.specs.state.Jobs.{near_place}
use Rattle.far_events.specs.state.Law.{Law}
use Rattle.far_events.specs.state.State.{State, addr, put}
use Rattle.far_events.proofs.events.Offer.{offer_layout}
use Rattle.far_hand.specs.declared.beset.Beset.{Beset}
use Rattle.far_hand.specs.BesetView.{beset_view}
use Rattle.far_hand.specs.Masked.{masked, masked_word, word_at, is_counted, AllFind, AllFindJobs}
use Rattle.far_hand.proofs.Finding.{IsNearTo, near_found}
use Rattle.far_hand.proofs.JobsFound.{empty_found}
use Rattle.far_hand.proofs.Making.{ForgetsTo}
use Rattle.far_hand.proofs.NewSpans.{header_small, new_headers, word_is}
use Rattle.far_hand.proofs.Reading.{forgets}

-- ---- a job is offered
-- what an offer that is legal by the view o is in a core where these words were found
pub record OfferTells (o s : State) (found jobs : ℕ → ℕ) (j : ℕ) (job : Job) : Type 0 where
  pub own : Legal s (Offer j job.pointer job.to)
  pub layout : IsJob job
  pub len : ℕ
  pub is : after s (Offer j job.pointer job.to) ≡ offered s j len job
  pub view : ForgetsTo o (Offer j job.pointer job.to) (masked (offered s j len job) found (λ _. false) (put jobs j (job_word (Offered job))))

module _ (s : State) (law : Law s) (found : ℕ → ℕ) (counted : ℕ → Bool) (jobs : ℕ → ℕ) (finds : AllFind found s.cell) (going : AllFindJobs jobs s.copying.word) (j p : ℕ) (from to : Place) where
  abbrev o : State
  o = masked s found counted jobs

  abbrev pub job : Job
  job = record { pointer = p; from = from; to = to }

  module _ (len ds : ℕ) (m : Marks) (low : j < JOBS) (inside : p < CELLS * s.mutators) (empty : jobs j ≡ 0) (may : MayOffer o p len ds from to m) where
    -- the cell is found as it was known
    cell : IsNearTo (read_of (s.cell p)) len ds from m.evac
    cell = near_found (found p) (s.cell p) (finds p) len ds from m may.near

    small : head_word p len ds < 2 ^ 64
    small = header_small s law (s.cell p) p len ds from cell.marks inside (law.cells.cell_read p).0 cell.near

    copies : MayOffer s p len ds from to cell.marks
    copies = search (cell.near, cell.same ∙ may.marked, may.chosen, may.seen, may.fits, may.span.next, word_is s found counted jobs (addr to) (head_word p len ds) small may.span.head, word_is s found counted jobs (addr to + 1 + (words_for len - 1)) 0 (omega arith) may.ends)

    own : Legal s (Offer j p to)
    own = (low, inside, empty_found (jobs j) (s.copying.word j) (going j) empty, (len, ds, from, cell.marks, copies))

    tells : OfferTells o s found jobs j job
    tells = record {
      own = own;
      layout = offer_layout s law j p to own len ds from cell.marks cell.near;
      len = len;
      is = ap (after_offer s j p to) cell.near;
      view = record { kept = ap (λ (u : State). record u { word = masked_word s.word (put s.starts (addr to) true) (λ _. false) }) (sym (ap (after_offer o j p to) may.near)); forgot = forgets o _ (put s.starts (addr to) true) refl s.word refl (new_headers s found counted jobs (addr to) (head_word p len ds) small may.span.head) };
    }

  -- what is legal by the view is legal, and the job lies on the layout
  pub offer_tells : Legal o (Offer j p to) → near_place (read_of (found p)) ≡ Some from → OfferTells o s found jobs j job
  offer_tells (low, inside, empty, (len, ds, at, m, may)) lies =
      let both : Some at ≡ Some from = sym (ap near_place may.near) ∙ lies in
      let same : at ≡ from = cc in
      tells len ds m low inside empty (subst (λ (x : Place). MayOffer o p len ds x to m) same may)

  pub legal_offer : Legal o (Offer j p to) → near_place (read_of (found p)) ≡ Some from → Legal s (Offer j p to)
  legal_offer legal lies = (offer_tells legal lies).own

  pub is_job : Legal o (Offer j p to) → near_place (read_of (found p)) ≡ Some from → IsJob job
  is_job legal lies = (offer_tells legal lies).layout

-- the same by the view before the turn
pub hand_offers : (before hand : Beset) → beset_view hand ≡ beset_view before → (j p : ℕ) (from to : Place) → Legal (beset_view before) (Offer j p to) → near_place (read_of ((beset_view before).cell p)) ≡ Some from →
    OfferTells (beset_view before) (core_state hand.core) (word_at hand.found.items) (word_at hand.jobs) j (record { pointer = p; from = from; to = to })
hand_offers before hand view j p from to = subst (λ (o : State). Legal o (Offer j p to) → near_place (read_of (o.cell p)) ≡ Some from → OfferTells o (core_state hand.core) (word_at hand.found.items) (word_at hand.jobs) j (record { pointer = p; from = from; to = to })) view
    (offer_tells (core_state hand.core) hand.core.law (word_at hand.found.items) (is_counted hand.counted.items) (word_at hand.jobs) hand.finds hand.finds_jobs j p from to)

-- ---- a job is collected
module _ (s : State) (j old : ℕ) where
  pub collect_won : answer s (Collect j old) ≡ Done → s.copying.word j ≡ old
  collect_won = cond_both (s.copying.word j == old) Done (Word (s.copying.word j)) (λ (r : Reply). r ≡ Done → s.copying.word j ≡ old) (λ h _. eqb-true (s.copying.word j) old h) (λ _ e. absurd cc)

  pub collect_lost : (w : ℕ) → answer s (Collect j old) ≡ Word w → s.copying.word j ≢ old
  collect_lost w = cond_both (s.copying.word j == old) Done (Word (s.copying.word j)) (λ (r : Reply). r ≡ Word w → s.copying.word j ≢ old) (λ _ e. absurd cc) (λ h _. eqb-false (s.copying.word j) old h)

  pub collect_found : (w : ℕ) → answer s (Collect j old) ≡ Word w → s.copying.word j ≡ w
  collect_found w = cond_both (s.copying.word j == old) Done (Word (s.copying.word j)) (λ (r : Reply). r ≡ Word w → s.copying.word j ≡ w) (λ _ e. absurd cc) (λ _ e. cc)

  pub collect_empties : s.copying.word j ≡ old → after s (Collect j old) ≡ collected s j
  collect_empties e = ap (λ b. cond b (collected s j) s) (eq-eqb (s.copying.word j) old e)

  pub collect_stays : s.copying.word j ≢ old → after s (Collect j old) ≡ s
  collect_stays ne = ap (λ b. cond b (collected s j) s) (ne_eqb (s.copying.word j) old ne)
