-- What the event Offer owes.
use Rattle.std.proofs.Common.{◌≡◌, ◌≢◌, ℕ, ◌-◌, ◌*◌, ◌/◌, ◌^◌, ◌<◌, ◌≤◌, ◌∙◌, Bool, true, false, nat_lt, arith, inl, inr, ap, refl, subst, sym, Option, Some, None}
use Rattle.std.specs.Prelude.{◌⊎◌, IsSome}
use Rattle.std.proofs.lemmas.Bool.{eq-eqb, false≢true, true≢false}
use Rattle.std.proofs.lemmas.Bool.Decides.{nat_tests}
use Rattle.std.proofs.lemmas.Nat.{pow_pos}
use mathlib.Core.Path.{fun_ext}
use Rattle.far_word.specs.declared.job.Job.{Job}
use Rattle.far_word.specs.declared.job.JobWord.TheVariants.{Empty, Offered, Taken, Finished}
use Rattle.far_word.specs.declared.mark.Marks.{Marks}
use Rattle.far_word.specs.declared.pointer.Place.{Place}
use Rattle.far_word.specs.declared.pointer.PtrWord.{PtrWord}
use Rattle.far_word.specs.declared.pointer.PtrWord.TheVariants.{Free, Near, Far}
use Rattle.far_word.specs.declared.sizes.TheConstants.{CELLS, JOBS}
use Rattle.far_word.specs.Header.{head_of}
use Rattle.far_word.specs.Job.{IsJob, job_of, job_word}
use Rattle.far_word.specs.Pointer.{IsPtr, read_of}
use Rattle.far_word.specs.Sizes.{words_for}
use Rattle.far_word.proofs.HeaderLaws.{head_back}
use Rattle.far_word.proofs.JobLaws.{job_back, job_fits}
use Rattle.far_word.proofs.PointerLaws.{read_says}
use Rattle.far_log.specs.Spans.{pointer_in}
use Rattle.far_events.specs.declared.event.Event.TheVariants.{Offer}
use Rattle.far_events.specs.declared.event.Task.{Task}
use Rattle.far_events.specs.events.Copies.{EndsPadded}
use Rattle.far_events.specs.events.NewSpans.{with_begun}
use Rattle.far_events.specs.events.Offer.{MayOffer, Offers, after_offer, offered, with_job}
use Rattle.far_events.specs.events.Legal.{Legal}
use Rattle.far_events.specs.events.Step.{change_of}
use Rattle.far_events.specs.events.Touch.{JobAt, BookView, Touches}
use Rattle.far_core.specs.laws.Worlds.{Caused}
use Rattle.far_events.specs.state.Jobs.{AimLaw, GoodLaw, IsGood, JobLaw, JobSpans, SameAs, TakenLaw, is_finished, job_at, job_said, near_place}
use Rattle.far_events.specs.state.Law.{Law, Padded}
use Rattle.far_events.specs.state.State.{Copying, State, addr, put}
use Rattle.far_core.specs.world.Steps.{Holds}
use Rattle.far_core.specs.world.WorldOf.{world_of}
use Rattle.far_events.proofs.Bounds.{span_len, header}
use Rattle.far_events.proofs.Copies.{padded_all}
use Rattle.far_events.proofs.JobPlaces.{not_target, unworded}
use Rattle.far_core.proofs.KeepJobs.{law_with_copying}
use Rattle.far_core.proofs.KeepPlace.{law_with_begun, none_here, out}
use Rattle.far_events.proofs.NewSpans.{at_tail, unsealed}
use Rattle.far_core.proofs.NewSpans.{groups_then, takes_begun}
use Rattle.far_core.proofs.Owed.{Owed, replies}
use Rattle.far_events.proofs.Put.{put_both, put_cases_of, put_other, put_same}
use Rattle.far_core.proofs.Touching.{one_job, untouched}
use Rattle.far_core.proofs.Worlds.{World-ext}
use Rattle.far_events.proofs.events.Offer.{job_lies, legal_offer, offer_test}

-- ---- the law
module _ (s : State) (law : Law s) (j p len ds : ℕ) (from to : Place) (m : Marks) (below : j < JOBS) (cell : p < CELLS * s.mutators) (empty : s.copying.word j ≡ 0) (h : MayOffer s p len ds from to m) where
  abbrev job : Job
  job = record { pointer = p; from = from; to = to }

  abbrev w : ℕ
  w = job_word (Offered job)

  abbrev k : Copying
  k = s.copying

  abbrev n : Copying
  n = with_job s.copying j s.round_epoch job

  ptr : IsPtr (Near len ds from m)
  ptr = (read_says (s.cell p) (Near len ds from m) (law.cells.cell_read p).0 h.near).0

  -- the job lies on the layout, and its word says it
  on_layout : IsJob job
  on_layout = job_lies s law p len ds from to m cell h

  reads : job_of w ≡ Some (Offered job)
  reads = job_back (Offered job) on_layout

  head : head_of (s.word (addr to)) ≡ Some (header p len ds)
  head = ap head_of h.span.head ∙ head_back (header p len ds) (record { some = omega (arith, ptr); most = omega (arith, ptr); structure = omega (arith, ptr); cell = omega (arith, cell, law.shape.few_mutators) })

  ends : EndsPadded s.word len to
  ends =
      let some : 0 < 2 ^ (8 * (len - 8 * (words_for len - 1))) = pow_pos (8 * (len - 8 * (words_for len - 1))) in
      subst (λ x. x < 2 ^ (8 * (len - 8 * (words_for len - 1)))) (sym h.ends) some

  pads : Padded s.word (addr to) len
  pads = padded_all s.word law.spans.word_fits len to (omega (arith, ptr)) ends

  -- what holds where the span is begun
  begun : Law (with_begun s len to)
  begun = law_with_begun s law p len ds to cell (omega (arith, ptr)) (omega (arith, ptr)) h.fits h.span.next.0 (unsealed s to h.span.next) (at_tail s law to h.span.next) head pads

  outside : s.round to.log ≡ false
  outside = out s law p len ds to cell (omega (arith, ptr)) (omega (arith, ptr)) h.fits h.span.next.0 (unsealed s to h.span.next) (at_tail s law to h.span.next) head pads

  fresh : s.starts (addr to) ≡ false
  fresh = none_here s law p len ds to cell (omega (arith, ptr)) (omega (arith, ptr)) h.fits h.span.next.0 (unsealed s to h.span.next) (at_tail s law to h.span.next) head pads

  -- the target is no place where a span began
  no_span : (x : Place) → s.starts (addr x) ≡ true → x ≢ to
  no_span x is e = true≢false (sym is ∙ ap (λ (y : Place). s.starts (addr y)) e ∙ fresh)

  placed : s.starts (addr from) ≡ true
  placed = (law.cells.cell_near p len ds from m h.near).placed

  -- a job is the new one, or was one
  either : (i : ℕ) (x : Job) → job_at n.word i ≡ Some x → ((i ≡ j) × (job ≡ x)) ⊎ ((i ≢ j) × (job_at k.word i ≡ Some x))
  either i x is = elim (put_cases_of k.word j w i (λ y. job_said (job_of y) ≡ Some x) is) [
    | inl (e, is) ↦ (let both : Some job ≡ Some x = sym (ap job_said reads) ∙ is in inl (e, cc))
    | inr both ↦ inr both
  ]

  -- no copier has it
  another : (c : ℕ) (t : Task) → k.task c ≡ Some t → t.number ≢ j
  another c t is e = let odd : Some Empty ≡ Some (Taken t.job c) = sym unworded ∙ ap job_of (sym empty) ∙ ap (λ i. job_of (k.word i)) (sym e) ∙ law.copies.taken.takes c t is in cc

  was_good : (i : ℕ) (x : Job) → i ≢ j → IsGood s.round_epoch s.round n.since i x → IsGood s.round_epoch s.round k.since i x
  was_good i x ne g = (sym (put_other k.since j s.round_epoch i ne) ∙ g.0, g.1)

  was_unnamed : (i : ℕ) (b : Bool) → i ≢ j → n.named i ≡ b → k.named i ≡ b
  was_unnamed i b ne is = sym (put_other k.named j false i ne) ∙ is

  spans_new : JobSpans s.word (put s.starts (addr to) true) job
  spans_new = record {
    pointer = ap pointer_in (span_len s law p len ds from m h.near);
    alike = h.span.head ∙ sym (law.cells.cell_near p len ds from m h.near).head;
    from = put_both (λ b. b ≡ true) s.starts (addr to) true (addr from) (λ _. refl) (λ _. placed);
    to = put_same s.starts (addr to) true (addr to) refl;
  }

  jobs_offer : JobLaw s.word (put s.starts (addr to) true) n.word n.named
  jobs_offer =
      let old = begun.copies.jobs in
      record {
        job_read = λ i. put_both (λ x. (x < 2 ^ 64) × IsSome (job_of x)) k.word j w i (λ _. (job_fits (Offered job) on_layout, rw reads refl)) (λ _. old.job_read i);
        job_range = λ i. put_both (λ x. x ≢ 0 → i < JOBS) k.word j w i (λ e _. rw e below) (λ _. old.job_range i);
        job_spans = λ i x e. elim (either i x e) [
          | inl (_, is) ↦ subst (JobSpans s.word (put s.starts (addr to) true)) is spans_new
          | inr (_, at) ↦ old.job_spans i x at
        ];
        targets_differ = λ i q a b e f is. elim (either i a e) [
          | inl (x, new) ↦ elim (either q b f) [
            | inl (y, _) ↦ x ∙ sym y
            | inr (_, at) ↦ absurd (no_span b.to (law.copies.jobs.job_spans q b at).to (sym is ∙ sym (ap (λ (o : Job). o.to) new)))
          ]
          | inr (_, at) ↦ elim (either q b f) [
            | inl (_, new) ↦ absurd (no_span a.to (law.copies.jobs.job_spans i a at).to (is ∙ sym (ap (λ (o : Job). o.to) new)))
            | inr (_, also) ↦ old.targets_differ i q a b at also is
          ]
        ];
        target_no_source = λ i q a b e f unnamed is. elim (either i a e) [
          | inl (x, new) ↦ elim (either q b f) [
            | inl (y, also) ↦ no_span from placed (ap (λ (o : Job). o.from) also ∙ sym is ∙ sym (ap (λ (o : Job). o.to) new))
            | inr (_, at) ↦ no_span b.from (law.copies.jobs.job_spans q b at).from (sym is ∙ sym (ap (λ (o : Job). o.to) new))
          ]
          | inr (ne, at) ↦ elim (either q b f) [
            | inl (_, new) ↦ not_target s law p len ds from m h.near i a at (was_unnamed i false ne unnamed) (ap (λ (o : Job). addr o.from) new ∙ ap addr (sym is))
            | inr (_, also) ↦ old.target_no_source i q a b at also (was_unnamed i false ne unnamed) is
          ]
        ];
        unfinished_unnamed = λ i x e undone. elim (either i x e) [
          | inl (is, _) ↦ put_same k.named j false i is
          | inr (ne, at) ↦ put_other k.named j false i ne ∙ old.unfinished_unnamed i x at (ap (λ y. is_finished (job_of y)) (sym (put_other k.word j w i ne)) ∙ undone)
        ];
      }

  taken_offer : TakenLaw s.word n.word k.task k.length k.read
  taken_offer =
      let old = law.copies.taken in
      record {
        taken_by = λ i c x is. elim (put_cases_of k.word j w i (λ y. job_of y ≡ Some (Taken x c)) is) [
          | inl (e, is) ↦ (let odd : Some (Offered job) ≡ Some (Taken x c) = sym reads ∙ is in absurd cc)
          | inr (ne, is) ↦ old.taken_by i c x is
        ];
        takes = λ c t is. ap job_of (put_other k.word j w t.number (another c t is)) ∙ old.takes c t is;
        long = old.long;
        fits = old.fits;
      }

  aims_offer : AimLaw s.cell n.word n.named
  aims_offer =
      let old = law.copies.aims in
      record {
        unnamed = λ i x e none is. elim (either i x e) [
          | inl (_, new) ↦ (let both : Some from ≡ Some x.to = sym (ap near_place h.near) ∙ ap (λ (o : Job). near_place (read_of (s.cell o.pointer))) new ∙ is in
              let one : from ≡ x.to = cc in
              no_span from placed (one ∙ sym (ap (λ (o : Job). o.to) new)))
          | inr (ne, at) ↦ old.unnamed i x at (was_unnamed i false ne none) is
        ];
        left = λ i x e done. elim (either i x e) [
          | inl (is, _) ↦ absurd (false≢true (sym (put_same k.named j false i is) ∙ done))
          | inr (ne, at) ↦ old.left i x at (was_unnamed i true ne done)
        ];
      }

  good_offer : GoodLaw s.round_epoch s.round s.clear n.word n.since
  good_offer =
      let old = law.copies.good in
      record {
        begun = λ i. put_both (λ x. x ≤ s.round_epoch) k.since j s.round_epoch i (λ _. omega arith) (λ _. old.begun i);
        seen = λ i x e g. elim (either i x e) [
          | inl (_, new) ↦ ap (λ (o : Job). s.clear (o.pointer / CELLS)) (sym new) ∙ h.seen
          | inr (ne, at) ↦ old.seen i x at (was_good i x ne g)
        ];
        outside = λ i x e g. elim (either i x e) [
          | inl (_, new) ↦ ap (λ (o : Job). s.round o.to.log) (sym new) ∙ outside
          | inr (ne, at) ↦ old.outside i x at (was_good i x ne g)
        ];
      }

  same_offer : SameAs s.round_epoch s.round s.word n
  same_offer =
      let old = law.copies.same in
      record {
        read = λ c i v t is g. old.read c i v t is (was_good t.number t.job (another c t is) g);
        written = λ c i t is g. old.written c i t is (was_good t.number t.job (another c t is) g);
        finished = λ i c x is g none. elim (put_cases_of k.word j w i (λ y. job_of y ≡ Some (Finished x c)) is) [
          | inl (e, is) ↦ (let odd : Some (Offered job) ≡ Some (Finished x c) = sym reads ∙ is in absurd cc)
          | inr (ne, is) ↦ old.finished i c x is (was_good i x ne g) (was_unnamed i false ne none)
        ];
      }

  keeps_offer : Law (offered s j len job)
  keeps_offer = law_with_copying (with_begun s len to) n begun (record { jobs = jobs_offer; taken = taken_offer; aims = aims_offer; good = good_offer; same = same_offer })

  -- ---- the world, and what is told
  holds_group : Holds (world_of s) to.log (world_of (offered s j len job))
  unfolding world_of
  holds_group = World-ext _ _ refl refl refl refl (fun_ext (groups_then s.kind s.current to.log law.logs.is_open)) refl

  offers : Offers s j len job (offered s j len job)
  offers =
      let x = takes_begun s law len to in
      record {
        says = ap job_of (put_same k.word j w j refl) ∙ reads;
        since = put_same k.since j s.round_epoch j refl ∙ law.rounds.own_epoch;
        unnamed = put_same k.named j false j refl;
        others = λ i ne. (put_other k.word j w i ne, put_other k.since j s.round_epoch i ne, put_other k.named j false i ne);
        takes = record { ends = x.ends; opens = x.opens; seals = x.seals; others = x.others; begins = x.begins; starts = x.starts; round = refl; clear = refl; stored = refl };
      }

module _ (s : State) (j p : ℕ) (to : Place) where
  touch_offer : (o : Option PtrWord) → Touches s (record { word = Some (JobAt j); part = BookView }) (after_offer s j p to o)
  touch_offer None = untouched s _
  touch_offer (Some Free) = untouched s _
  touch_offer (Some (Near len ds from m)) = record {
    words = one_job s.epoch s.scope s.cell s.word s.copying.word j _;
    remembered = λ k a b. refl;
    used = λ q a. refl;
    held = λ q a b. refl;
    soiled = λ q a b. refl;
    book = λ ne. absurd (ne refl);
    copiers = λ c ne. record { task = refl; length = refl; read = refl; written = refl };
    rest = (refl, refl, refl, refl);
  }
  touch_offer (Some (Far len ds m)) = untouched s _

module _ (j p : ℕ) (to : Place) where
  pub offer_owed : Owed (Offer j p to)
  offer_owed = record {
    fact = λ s law h. legal_offer s j p to h;
    test = λ s h.
        let low : j < JOBS = h.0 in
        let cell : p < CELLS * s.mutators = h.1 in
        let a : nat_lt j JOBS ≡ true = grind (arith, nat_tests) in
        let b : nat_lt p (CELLS * s.mutators) ≡ true = grind (arith, nat_tests) in
        rw (a, b, eq-eqb _ 0 h.2, offer_test s p h.3.0 h.3.1 h.3.2 to h.3.3 h.3.4) refl;
    keeps = λ s law fits h. rw h.3.4.near (keeps_offer s law j p h.3.0 h.3.1 h.3.2 to h.3.3 h.0 h.1 h.2 h.3.4);
    does = λ s law fits h. rw h.3.4.near (holds_group s law j p h.3.0 h.3.1 h.3.2 to h.3.3 h.0 h.1 h.2 h.3.4);
    within = λ s. touch_offer s j p to (read_of (s.cell p));
    part = λ s h. inr (inr (inr (inr (inr (j, p, to, refl)))));
    word = λ s h. inl (p, to, refl);
    reports = λ s law h len ds from m is. offered_so s law h len ds from m is;
    silent = λ s t h. h;
    answers = λ s x. cc;
    causes = replies (λ r. Caused (Offer j p to) (change_of (Offer j p to) r)) tt (j, p, to, refl, refl) (λ n. tt) (λ x. tt) (λ place. tt);
  } where
    offered_so : (s : State) → Law s → Legal s (Offer j p to) → (len ds : ℕ) (from : Place) (m : Marks) → read_of (s.cell p) ≡ Some (Near len ds from m) → Offers s j len (record { pointer = p; from = from; to = to }) (after_offer s j p to (read_of (s.cell p)))
    offered_so s law (low, cell, empty, (n, d, at, k, h)) len ds from m is =
        let same : Some (Near n d at k) ≡ Some (Near len ds from m) = sym h.near ∙ is in
        let long : n ≡ len = cc in
        let there : at ≡ from = cc in
        rw h.near (subst (λ l. Offers s j l (record { pointer = p; from = from; to = to }) (offered s j n (record { pointer = p; from = at; to = to }))) long
        (subst (λ (f : Place). Offers s j n (record { pointer = p; from = f; to = to }) (offered s j n (record { pointer = p; from = at; to = to }))) there (offers s law j p n d at to k low cell empty h)))
