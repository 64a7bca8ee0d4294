-- Whether an object has a job.
use Rattle.std.proofs.Common.{◌≡◌, ◌∙◌, ◌<◌, ℕ, suc, zero, Bool, true, false, inl, inr, arith, ap, refl, sym, Option, Some, None}
use Rattle.std.specs.Prelude.{◌&&◌, ◌||◌, ◌==◌}
use Rattle.std.proofs.lemmas.Bool.{cases_lt, eq-eqb, eqb-true, false≢true, true≢false, false_from_ne_true}
use Rattle.far_word.specs.declared.job.Job.{Job}
use Rattle.far_word.specs.declared.pointer.Place.{Place}
use Rattle.far_word.specs.declared.sizes.TheConstants.{JOBS}
use Rattle.far_word.specs.Pointer.{read_of}
use Rattle.far_events.specs.events.Copied.{is_place}
use Rattle.far_events.specs.state.Jobs.{job_at, near_place}
use Rattle.far_events.specs.state.State.{State}
use Rattle.far_events.proofs.Guards.{parts}
use Rattle.far_events.proofs.JobPlaces.{job_low}
use Rattle.far_core.proofs.events.Look.{or_right}
use Rattle.far_book.specs.declared.ledger.Ledger.{Ledger}
use Rattle.far_book.specs.book.Jobs.{HasJob, copies_from, has_job, has_job_at, is_good, noted_at, noted_of, some_copies}
use Rattle.far_book.specs.book.Ledger.{Notes}
use Rattle.far_book.specs.book.Own.{own_part, unread}
use Rattle.far_book.proofs.region.JobNotes.{either_of}
use Rattle.far_book.proofs.region.Untaken.{same_jobs}

-- ---- one job
pub place_is : (x y : Place) → is_place x y ≡ true → x ≡ y
place_is x y h =
    let e = parts (x.log == y.log) (x.at == y.at) h in
    let a = eqb-true x.log y.log e.0 in let b = eqb-true x.at y.at e.1 in λ i. record { log = a i; at = b i }

pub place_test : (x y : Place) → x ≡ y → is_place x y ≡ true
place_test x y e = rw e (rw (eq-eqb y.log y.log refl, eq-eqb y.at y.at refl) refl)

module _ (s : State) (p : ℕ) (at : Place) (lies : near_place (read_of (s.cell p)) ≡ Some at) where
  abbrev told : ℕ → Bool
  told j = copies_from p at (noted_of (job_at s.copying.word j) (is_good s.round_epoch s.round s.copying.since j))

  fact_of : (j : ℕ) (o : Option Job) → job_at s.copying.word j ≡ o → copies_from p at (noted_of o (is_good s.round_epoch s.round s.copying.since j)) ≡ true → HasJob s p
  fact_of j None e h = absurd (false≢true h)
  fact_of j (Some job) e h =
      let a = parts (is_good s.round_epoch s.round s.copying.since j job && (job.pointer == p)) (is_place job.from at) h in
      let b = parts (is_good s.round_epoch s.round s.copying.since j job) (job.pointer == p) a.0 in
      let c = parts (s.copying.since j == s.round_epoch) (s.round job.from.log) b.0 in
      record {
        number = j;
        job = job;
        is = e;
        pointer = eqb-true job.pointer p b.1;
        good = (eqb-true (s.copying.since j) s.round_epoch c.0, c.1);
        lies = lies ∙ ap (λ x. Some x) (sym (place_is job.from at a.1));
      }

  test_of : (h : HasJob s p) → told h.number ≡ true
  test_of h =
      let same : Some at ≡ Some h.job.from = sym lies ∙ h.lies in
      let there : at ≡ h.job.from = cc in
      ap (λ o. copies_from p at (noted_of o (is_good s.round_epoch s.round s.copying.since h.number))) h.is
      ∙ rw (eq-eqb (s.copying.since h.number) s.round_epoch h.good.0, h.good.1, eq-eqb h.job.pointer p h.pointer, place_test h.job.from at (sym there)) refl

  -- ---- all of them
  some_fact : (n : ℕ) → some_copies s p at n ≡ true → (j : ℕ) × (told j ≡ true)
  some_fact zero h = absurd (false≢true h)
  some_fact (suc n) h = elim (either_of (some_copies s p at n) (told n) h) [ inl before ↦ some_fact n before | inr here ↦ (n, here) ]

  some_test : (n j : ℕ) → j < n → told j ≡ true → some_copies s p at n ≡ true
  some_test zero j lt h = absurd (omega arith)
  some_test (suc n) j lt h = elim (cases_lt j n) [
    | inl less ↦ ap (λ b. b || told n) (some_test n j less h)
    | inr more ↦ (let same : j ≡ n = omega arith in or_right (some_copies s p at n) (told n) (ap told (sym same) ∙ h))
  ]

  has_is : has_job s p ≡ some_copies s p at JOBS
  has_is = ap (has_job_at s p) lies

  module _ (ledger : Ledger) (notes : Notes (own_part s) ledger) where
    noted_is : (j : ℕ) → copies_from p at (noted_at ledger.jobs j) ≡ told j
    noted_is j = ap (copies_from p at) (notes.jobs.noted j ∙ ap (λ o. noted_of o (is_good s.round_epoch s.round s.copying.since j)) (same_jobs s.copying j))

    low : (j : ℕ) → told j ≡ true → j < JOBS
    low j h = at_job (job_at s.copying.word j) refl where
      at_job : (o : Option Job) → job_at s.copying.word j ≡ o → j < JOBS
      at_job None e = absurd (false≢true (sym (ap (λ x. copies_from p at (noted_of x (is_good s.round_epoch s.round s.copying.since j))) e) ∙ h))
      at_job (Some job) e = job_low (own_part s).word s.starts (unread s.copying).word s.copying.named notes.law.copies.jobs j job (same_jobs s.copying j ∙ e)

    -- the book's answer
    module _ (b : Bool) (some : b ≡ true → (j : ℕ) × (j < JOBS) × (copies_from p at (noted_at ledger.jobs j) ≡ true)) (none : b ≡ false → (j : ℕ) → j < JOBS → copies_from p at (noted_at ledger.jobs j) ≡ false) where
      pub has_means : (b ≡ true → HasJob s p) × (HasJob s p → b ≡ true)
      has_means = (λ h. let x = some h in fact_of x.0 (job_at s.copying.word x.0) refl (sym (noted_is x.0) ∙ x.2), λ h. by_case b refl h) where
        by_case : (x : Bool) → b ≡ x → HasJob s p → b ≡ true
        by_case true e h = e
        by_case false e h = absurd (true≢false (sym (test_of h) ∙ sym (noted_is h.number) ∙ none e h.number (low h.number (test_of h))))

      pub answers : b ≡ has_job s p
      answers = by_case b refl where
        by_case : (x : Bool) → b ≡ x → b ≡ has_job s p
        by_case true e = let x = some e in e ∙ sym (has_is ∙ some_test JOBS x.0 x.1 (sym (noted_is x.0) ∙ x.2))
        by_case false e = e ∙ sym (has_is ∙ false_from_ne_true (some_copies s p at JOBS) (λ h. let y = some_fact JOBS h in true≢false (sym y.1 ∙ sym (noted_is y.0) ∙ none e y.0 (low y.0 y.1))))
