-- The book offers a job, reads a job's word, and empties one: each is its event of the core.
use Rattle.std.proofs.Common.{◌≡◌, ◌≢◌, ◌<◌, ◌^◌, ℕ, Bool, false, List, set, refl, sym, ap, ◌∙◌, subst, arith, Some}
use Rattle.std.specs.Prelude.{is_some, slice_index, ◌==◌}
use Rattle.std.proofs.Math.Logic.{∥∥₁_elim}
use Rattle.std.proofs.Props.{props}
use mathlib.Core.Option.{none}
use prog.Atomic.{either}
use Rattle.atomic_table.specs.Table.{Me, step, Allows}
use Rattle.far_word.specs.declared.job.Job.{Job}
use Rattle.far_word.specs.declared.job.JobWord.TheVariants.{Offered}
use Rattle.far_word.specs.declared.pointer.PtrWord.TheVariants.{Near}
use Rattle.far_word.specs.declared.sizes.TheConstants.{JOBS}
use Rattle.far_word.specs.Header.{head_word}
use Rattle.far_word.specs.Job.{IsJob, job_of, job_word}
use Rattle.far_word.specs.Pointer.{read_of}
use Rattle.far_word.proofs.JobLaws.{job_only, job_says}
use Rattle.far_events.specs.declared.event.Event.{Event}
use Rattle.far_events.specs.declared.event.Event.TheVariants.{Collect, Offer, SeeJob}
use Rattle.far_events.specs.declared.event.Reply.TheVariants.{Done, Word}
use Rattle.far_events.specs.events.Legal.{Legal}
use Rattle.far_events.specs.events.Offer.{after_offer, offered}
use Rattle.far_events.specs.events.Step.{after, answer}
use Rattle.far_events.specs.state.Jobs.{near_place}
use Rattle.far_events.specs.state.State.{State, addr, put}
use Rattle.far_hand.specs.FindsJob.{FindsJob}
use Rattle.far_hand.specs.Known.{Forgets}
use Rattle.far_hand.specs.Masked.{AllFind, AllFindJobs, CountsOnRest, masked_word}
use Rattle.far_hand.proofs.Counting.{counts_none}
use Rattle.far_hand.proofs.Finding.{IsNearTo, near_found}
use Rattle.far_hand.proofs.JobsFound.{jobs_put, jobs_set}
use Rattle.far_hand.proofs.Offering.{collect_empties, collect_stays, is_job, legal_offer}
use Rattle.far_table.specs.View.{BookView, OtherViews, View, Book}
use Rattle.far_table.specs.BookPlays.{JobCollected, JobOffered, JobSeen, JobTold}
use Rattle.far_table.specs.BookTells.{BookTells}
use Rattle.far_table.specs.BookViews.{collected_view, saw_job_view}
use Rattle.far_table.specs.Layout.{cell_in, epoch_in, job_at, job_in, scope_in, word_in}
use Rattle.far_table.specs.NameViews.{exchange_reply, offered_view}
use Rattle.far_table.specs.Rows.{over}
use Rattle.far_table.specs.Rule.{Facts, Running}
use Rattle.far_table.specs.Stands.{IsPlain, Stands, book_of}
use Rattle.far_table.specs.StateOf.{book_state, copying_of, head_at, known_word, state_of}
use Rattle.far_table.proofs.BookFrames.{BookStep, Counted, CountsNone, cells_stay, counts_of}
use Rattle.far_table.proofs.BookLift.{book_makes, book_reads}
use Rattle.far_table.proofs.Exchanges.{by_case, lost_says, won_says}
use Rattle.far_table.proofs.Masks.{by_view, counts, epoch_is, finds, going, rests, ties, words_are}
use Rattle.far_table.proofs.NameRows.{begins_put}
use Rattle.far_table.proofs.NameSteps.{head_known, heads_forget, heads_words, known_heads, span_heads}
use Rattle.far_table.proofs.OwnSteps.{led_by, reads, state_is}
use Rattle.far_table.proofs.Words.{WordsAre, job_here, job_word_set}

-- ---- what is offered by the view
module _ (b : BookView) (j : ℕ) (job : Job) (h : Legal (book_state b) (Offer j job.pointer job.to)) (lies : near_place (read_of ((book_state b).cell job.pointer)) ≡ Some job.from) where
  -- where the view has the object
  here : read_of ((book_state b).cell job.pointer) ≡ Some (Near h.3.0 h.3.1 job.from h.3.3)
  here = let both : Some h.3.2 ≡ Some job.from = sym (ap near_place h.3.4.near) ∙ lies in let from : h.3.2 ≡ job.from = cc in h.3.4.near ∙ ap (λ x. Some (Near h.3.0 h.3.1 x h.3.3)) from

  -- the job lies on the layout, and its word says so
  pub offered_lies : IsPlain b → ∥ Stands b ∥₁ → IsJob job
  offered_lies plain there = ∥∥₁_elim there (hlevel props) (λ (x : Stands b).
      is_job (state_of x.words b x.others) x.facts.law (book_state b).cell (counts b) (book_state b).copying.word (finds x.words b x.others x.facts) (going x.words b x.others x.facts) j job.pointer job.from job.to
      (by_view x.words b x.others x.facts plain (Offer j job.pointer job.to) h) lies)

  pub offered_says : IsPlain b → ∥ Stands b ∥₁ → (x : ℕ) → x ≡ job_word (Offered job) → job_of x ≡ Some (Offered job)
  offered_says plain there x is = job_only x (Offered job) (offered_lies plain there) (sym is)

  abbrev next : BookView
  next = offered_view j h.3.0 h.3.1 job b

  -- the view after is what the core's event makes of the view, but for words
  pub offered_done : book_state next ≡ record (after (book_state b) (Offer j job.pointer job.to)) { word = known_word next }
  offered_done = (λ i. record (book_state next) { starts = begins_put (head_at b) (addr job.to) (head_word job.pointer h.3.0 h.3.1) i })
      ∙ ap (λ (u : State). record u { word = known_word next }) (sym (ap (after_offer (book_state b) j job.pointer job.to) here))

  pub offered_forgets : Forgets (book_state b) (book_state next)
  offered_forgets = heads_forget next (known_word b) (span_heads b job.pointer (known_word b) (head_known b) h.3.0 h.3.1 job.to h.3.4.span.head) b refl refl

-- ---- the steps
module _ (ws : List ℕ) (b : BookView) (os : OtherViews) (f : Facts ws b os) (plain : IsPlain b) (j : ℕ) where
  abbrev s : State
  s = state_of ws b os

  abbrev o : State
  o = book_state b

  abbrev n : ℕ
  n = job_in ws j

  pub see_job_step : j < JOBS → BookStep ws b os (SeeJob j) (Word n) ws (saw_job_view j n b)
  see_job_step low = record {
    legal = low;
    says = refl;
    becomes = reads f s (saw_job_view j n b) os refl refl;
    book = λ law. ties ws (saw_job_view j n b) os law (counts b) (words_are ws b os f plain) (finds ws b os f) (rests ws b os f) (epoch_is ws b os f) (jobs_put o.copying.word (job_in ws) j n (going ws b os f) refl);
    leaves = cells_stay refl refl refl (λ _ _. (refl, refl, refl, refl, refl));
  }

  -- the book leaves x in it; of all that its view has, what is read of cells, the epoch and the counts of marks stay
  job_set : (e : Event) (b' : BookView) (x : ℕ) (counted : ℕ → Bool) → j < JOBS → Legal s e → Done ≡ answer s e →
      after s e ≡ record (state_of ws b' os) { copying = record (copying_of ws b' os.copiers) { word = put (job_in ws) j x } } → known_word b' ≡ masked_word s.word (λ a. is_some (head_at b' a)) counted →
      CountsOnRest (book_state b') (over b'.cells (λ _. 0)) counted → over b'.cells (λ _. 0) ≡ o.cell → over b'.jobs (λ _. 0) ≡ put o.copying.word j x → b'.epoch ≡ b.epoch → counts_of b' ≡ counts_of b → CountsNone e Done →
      BookStep ws b os e Done (set ws (job_at j) x) b'
  job_set e b' x counted low legal says is words rest cells jobs epoch marks left = let later : List ℕ = set ws (job_at j) x in let are = job_word_set b.logs ws f.wide j x low in
      let sized = subst (λ n. WordsAre n later (epoch_in ws) (scope_in ws) (cell_in ws) (word_in ws) (put (job_in ws) j x)) (sym (ap (λ (z : Counted). z.8) marks)) are in record {
        legal = legal;
        says = says;
        becomes = led_by is (state_is later b' os sized refl refl refl refl);
        book = λ law. ties later b' os law counted (words ∙ ap (λ v. masked_word v (λ a. is_some (head_at b' a)) counted) (sym are.word_is))
            (subst (λ (z : (ℕ → ℕ) × (ℕ → ℕ)). AllFind z.0 z.1) (λ i. (sym cells i, sym are.cell_is i)) (finds ws b os f)) rest (are.epoch_is ∙ epoch_is ws b os f ∙ sym epoch)
            (subst (λ (z : (ℕ → ℕ) × (ℕ → ℕ)). AllFindJobs z.0 z.1) (λ i. (sym jobs i, sym are.job_is i)) (jobs_set o.copying.word (job_in ws) j x (going ws b os f)));
        leaves = cells_stay are.cell_is are.scope_is marks left;
      }

  -- ---- one is emptied
  module _ (old : ℕ) (h : Legal o (Collect j old)) where
    won_step : n ≡ old → BookStep ws b os (Collect j old) Done (set ws (job_at j) 0) (saw_job_view j 0 b)
    won_step won = job_set (Collect j old) (saw_job_view j 0 b) 0 (counts b) h.0 h (won_says n old won) (collect_empties s j old won) (words_are ws b os f plain) (rests ws b os f) refl refl refl refl (λ _ _. (refl, refl, refl, refl, refl))

    lost_step : n ≢ old → BookStep ws b os (Collect j old) (Word n) ws (saw_job_view j n b)
    lost_step lost = record {
      legal = h;
      says = lost_says n old lost;
      becomes = reads f (after s (Collect j old)) (saw_job_view j n b) os (collect_stays s j old lost) refl;
      book = (see_job_step h.0).book;
      leaves = cells_stay refl refl refl (λ _ _. (refl, refl, refl, refl, refl));
    }

    pub collect_step : BookStep ws b os (Collect j old) (exchange_reply old n) (set ws (job_at j) (either (n == old) 0 n)) (collected_view j old n b)
    collect_step = by_case (λ r l w. BookStep ws b os (Collect j old) r l (saw_job_view j w b)) ws (job_at j) n old 0 0 n (job_here ws j h.0) won_step lost_step

  -- ---- one is offered
  module _ (job : Job) (h : Legal o (Offer j job.pointer job.to)) (lies : near_place (read_of (o.cell job.pointer)) ≡ Some job.from) where
    legal : Legal s (Offer j job.pointer job.to)
    legal = legal_offer s f.law o.cell (counts b) o.copying.word (finds ws b os f) (going ws b os f) j job.pointer job.from job.to (by_view ws b os f plain (Offer j job.pointer job.to) h) lies

    abbrev cell : IsNearTo (read_of (s.cell job.pointer)) h.3.0 h.3.1 job.from h.3.3.evac
    cell = near_found (o.cell job.pointer) (s.cell job.pointer) (finds ws b os f job.pointer) h.3.0 h.3.1 job.from h.3.3 (here b j job h lies)

    -- the header is written at the target
    head : s.word (addr job.to) ≡ head_word job.pointer h.3.0 h.3.1
    head =
        let word = legal.3.4.span.head in
        let both : Some (Near legal.3.0 legal.3.1 legal.3.2 legal.3.3) ≡ Some (Near h.3.0 h.3.1 job.from cell.marks) = sym legal.3.4.near ∙ cell.near in cc

    pub offer_step : BookStep ws b os (Offer j job.pointer job.to) Done (set ws (job_at j) (job_word (Offered job))) (next b j job h lies)
    offer_step = let b' : BookView = next b j job h lies in job_set (Offer j job.pointer job.to) b' (job_word (Offered job)) (λ _. false) h.0 legal refl
        (ap (after_offer s j job.pointer job.to) cell.near ∙ (λ i. record (offered s j h.3.0 job) { starts = sym (begins_put (head_at b) (addr job.to) (head_word job.pointer h.3.0 h.3.1)) i }))
        (heads_words b' s.word (span_heads b job.pointer s.word (known_heads ws b os f) h.3.0 h.3.1 job.to head)) (counts_none (book_state b') o.cell) refl refl refl refl (λ _ _. (refl, refl, refl, refl, refl))

-- ---- what a step on the table asks
module _ {S : Type 0} (slots id : ℕ) (me : Me S View) (is : me.0 ≡ Book (book_of me.0)) (plain : IsPlain (book_of me.0)) (j : ℕ) where
  abbrev view : BookView
  view = book_of me.0

  -- what was found, and what the step tells of the job that its word is
  seen_at : (ws : List ℕ) (os : OtherViews) (f : Facts ws view os) → j < JOBS → (q : ℕ) → job_at j ≡ job_at q → (told : ℕ → Type 0) → told j → FindsJob ((book_state view).copying.word q) (slice_index ws (job_at j)) × told q
  seen_at ws os f low q e told t =
      let same : j ≡ q = omega arith in
      subst (λ z. FindsJob ((book_state view).copying.word z) (slice_index ws (job_at j)) × told z) same (subst (FindsJob ((book_state view).copying.word j)) (job_here ws j low) (going ws view os f j), t)

  pub sees_job : j < JOBS → Allows Running slots id me (job_at j) (λ n. n) (JobSeen (step slots (job_at j) 0 0 none) me)
  sees_job low = book_reads slots id (job_at j) me is (SeeJob j) refl (λ n. Word n) (λ n. saw_job_view j n view) (JobSeen (step slots (job_at j) 0 0 none) me) tt
      (λ ws os f _. subst (λ n. BookStep ws view os (SeeJob j) (Word n) ws (saw_job_view j n view)) (job_here ws j low) (see_job_step ws view os f plain j low))
      (λ ws os f _ t q e. let n : ℕ = slice_index ws (job_at j) in seen_at ws os f low q e (λ z. BookTells me.0 (Book (saw_job_view j n view)) (SeeJob z) (Word n) (saw_job_view z n view)) t)

  pub collects : (old : ℕ) → old < 2 ^ 64 → Legal (book_state view) (Collect j old) → Allows Running slots id me (job_at j) (λ n. either (n == old) 0 n) (JobCollected (step slots (job_at j) old 0 none) me)
  collects old fits h = book_makes slots id (job_at j) me is (Collect j old) refl (exchange_reply old) (λ n. collected_view j old n view) (JobCollected (step slots (job_at j) old 0 none) me) (λ n. either (n == old) 0 n) fits
      (λ ws os f _. subst (λ n. BookStep ws view os (Collect j old) (exchange_reply old n) (set ws (job_at j) (either (n == old) 0 n)) (collected_view j old n view)) (job_here ws j h.0) (collect_step ws view os f plain j old h))
      (λ ws os f _ t q e. let n : ℕ = slice_index ws (job_at j) in
      seen_at ws os f h.0 q e (λ z. BookTells me.0 (Book (collected_view j old n view)) (Collect z old) (exchange_reply old n) (collected_view z old n view)) t)

  pub offers : (job : Job) (x : ℕ) → Legal (book_state view) (Offer j job.pointer job.to) → near_place (read_of ((book_state view).cell job.pointer)) ≡ Some job.from → job_of x ≡ Some (Offered job) →
      Allows Running slots id me (job_at j) (λ _. x) (λ _. JobOffered (step slots (job_at j) x 0 none) me x)
  offers job x h lies says = book_makes slots id (job_at j) me is (Offer j job.pointer job.to) refl (λ _. Done) (λ _. offered_view j h.3.0 h.3.1 job view) (λ _. JobOffered (step slots (job_at j) x 0 none) me x) (λ _. x) tt
      (λ ws os f _. subst (λ z. BookStep ws view os (Offer j job.pointer job.to) Done (set ws (job_at j) z) (offered_view j h.3.0 h.3.1 job view)) (job_says x (Offered job) says).1 (offer_step ws view os f plain j job h lies))
      (λ ws os f _ t q other e its. let same : j ≡ q = omega arith in let both : Some (Offered job) ≡ Some (Offered other) = sym says ∙ its in let one : job ≡ other = cc in
      subst (λ (z : ℕ × Job). JobTold me.0 (Book (offered_view j h.3.0 h.3.1 job view)) z.0 z.1) (λ i. (same i, one i)) (h, t))
