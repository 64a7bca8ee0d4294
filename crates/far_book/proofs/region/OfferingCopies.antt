-- The copy of an object is offered: that is allowed, and a book stays in order.
use Rattle.std.proofs.Common.{◌≡◌, ◌≢◌, ◌∙◌, ℕ, ◌+◌, ◌-◌, ◌*◌, ◌/◌, ◌%◌, ◌<◌, Bool, true, false, cond, arith, ap, inl, inr, refl, sym, subst, Option, Some, List}
use Rattle.std.specs.Vec.{vec_len}
use Rattle.std.proofs.lemmas.Bool.{cases_eq, cond_both, eq-eqb, false≢true, false_from_ne_true}
use mathlib.Core.Path.{fun_ext}
use Rattle.far_word.specs.declared.job.Job.{Job}
use Rattle.far_word.specs.declared.job.JobWord.TheVariants.{Offered}
use Rattle.far_word.specs.declared.pointer.Place.{Place}
use Rattle.far_word.specs.declared.pointer.PtrWord.TheVariants.{Near}
use Rattle.far_word.specs.declared.sizes.TheConstants.{LOG_WORDS}
use Rattle.far_word.specs.Header.{head_word}
use Rattle.far_word.specs.Job.{IsJob, job_of, job_word}
use Rattle.far_word.specs.Pointer.{read_of}
use Rattle.far_word.specs.Sizes.{size_of, words_for}
use Rattle.far_word.proofs.HeaderLaws.{head_fits}
use Rattle.far_word.proofs.JobLaws.{job_back}
use Rattle.far_word.proofs.PointerLaws.{read_back}
use Rattle.far_events.specs.declared.event.Event.TheVariants as events
use Rattle.far_events.specs.events.Copies.{data_at}
use Rattle.far_events.specs.events.Legal.{Legal}
use Rattle.far_events.specs.events.Naming.{unmarked}
use Rattle.far_events.specs.events.Offer as core
use Rattle.far_events.specs.events.Offer.{MayOffer, after_offer, with_job}
use Rattle.far_events.specs.events.Step.{after}
use Rattle.far_core.specs.laws.Observed.{live_bytes}
use Rattle.far_events.specs.state.Jobs.{job_at, job_said}
use Rattle.far_events.specs.state.Law.{Law}
use Rattle.far_events.specs.state.Spans.{spans_of}
use Rattle.far_events.specs.state.State.{State, addr, put}
use Rattle.far_core.proofs.Owing.{keeps}
use Rattle.far_events.proofs.Put.{put_other, put_same}
use Rattle.far_events.proofs.events.Offer.{offer_layout}
use Rattle.far_hand.specs.Known.{Forgets}
use Rattle.far_book.specs.declared.jobs.Jobs.{Jobs}
use Rattle.far_book.specs.declared.ledger.Filled.{Filled}
use Rattle.far_book.specs.declared.ledger.Ledger.{Ledger}
use Rattle.far_book.specs.book.Effects.{near_word, with_free_cell}
use Rattle.far_book.specs.book.FarSide.{HoldsFar, InOrder}
use Rattle.far_book.specs.book.Jobs.{NotesJobs, WritesJob, is_good}
use Rattle.far_book.specs.book.Ledger.{Begins, MayBegin, Notes, filled_of, is_noted_free}
use Rattle.far_book.specs.book.Offering.{IsCopyable, with_ends}
use Rattle.far_book.specs.book.Own.{own_part, untaken}
use Rattle.far_book.specs.book.Placeable.{Placeable, with_object}
use Rattle.far_book.proofs.region.Calls.{free_unplaced, put_put}
use Rattle.far_book.proofs.region.Carrying.{LiesIn, dropped, may_leave, notes_dropped}
use Rattle.far_book.proofs.region.JobNotes.{notes_wrote}
use Rattle.far_book.proofs.region.JobSteps.{untaken_put}
use Rattle.far_book.proofs.region.NotesKept.{current_taken, free_then, once_then, order_short, sealed_then, tail_then}
use Rattle.far_book.proofs.region.Owns.{own_bare, own_forgets}
use Rattle.far_book.proofs.region.Places as places
use Rattle.far_book.proofs.region.Places.{law_then, next_unsealed}
use Rattle.far_book.proofs.region.Retires as retires
use Rattle.far_book.proofs.region.Untaken.{empty_kept, offered_kept}

-- ---- what the hand is asked
module _ (s : State) (j p len ds : ℕ) (from to : Place) (h : IsCopyable s j p len ds from to) where
  ends_at : addr to + 1 + (words_for len - 1) ≡ addr to + words_for len
  ends_at = omega (arith, h.layout)

  head_apart : addr to ≢ addr to + words_for len
  head_apart e = omega (arith, h.layout)

  pub may_offer : MayOffer (with_ends s p len ds to) p len ds from to h.marks
  may_offer = record {
    near = h.near;
    marked = h.wanted;
    chosen = h.chosen;
    seen = h.clear;
    fits = omega (arith, h.layout);
    span = record {
      next = h.next;
      head = put_other (put s.word (addr to) (head_word p len ds)) (addr to + words_for len) 0 (addr to) head_apart ∙ put_same s.word (addr to) (head_word p len ds) (addr to) refl;
    };
    ends = ap (put (put s.word (addr to) (head_word p len ds)) (addr to + words_for len) 0) ends_at ∙ put_same (put s.word (addr to) (head_word p len ds)) (addr to + words_for len) 0 (addr to + words_for len) refl;
  }

  pub offer_legal : Legal (with_ends s p len ds to) (events.Offer j p to)
  offer_legal = (h.number, h.pointer, h.empty, (len, ds, from, h.marks, may_offer))

  pub ends_second : (t u : State) (head words : ℕ) → head ≡ head_word p len ds → words ≡ words_for len → t ≡ after s (events.Put to.log to.at head) → u ≡ after t (events.Put to.log (to.at + words) 0) →
      u ≡ with_ends s p len ds to
  ends_second t u head words is few first second =
      let at : to.log * LOG_WORDS + (to.at + words) ≡ addr to + words_for len = omega (arith, few) in
      second ∙ ap (λ (x : State). after x (events.Put to.log (to.at + words) 0)) first
      ∙ (λ i. record s { word = put (put s.word (addr to) (is i)) (at i) 0 })

-- ---- what it leaves
module _ (s : State) (ledger : Ledger) (held : ℕ → Option (List ℕ)) (is_honest : Bool) (order : InOrder s ledger held is_honest) (j p len ds : ℕ) (from to : Place) (h : IsCopyable s j p len ds from to) where
  abbrev o : State
  o = own_part s

  abbrev law : Law o
  law = order.notes.law

  abbrev job : Job
  job = record { pointer = p; from = from; to = to }

  abbrev headed : State
  headed = record o { word = put o.word (addr to) (head_word p len ds) }

  at : to.at ≡ s.tail to.log
  at = sym h.ends

  law_headed : Law headed
  law_headed = keeps o (events.Put to.log to.at (head_word p len ds)) law (head_fits (record { pointer = p; len = len; ds = ds }) h.head) (h.next.0, next_unsealed o to h.next, omega (arith, at), omega (arith, h.layout))

  -- no span begins past the tail
  none_past : (k : ℕ) → to.at + k < LOG_WORDS → s.starts (addr to + k) ≡ false
  none_past k lt = false_from_ne_true _ (λ start.
      let span = law.spans.span (addr to + k) start in
      let q : ((addr to + k) / LOG_WORDS ≡ to.log) × ((addr to + k) % LOG_WORDS ≡ to.at + k) = (omega arith, omega arith) in
      let fits = span.fits in
      let tails : o.tail ((addr to + k) / LOG_WORDS) ≡ o.tail to.log = ap s.tail q.0 in
      omega (arith, at, fits, tails, q.1))

  bare_end : data_at headed.word to (words_for len - 1) ≡ 0
  bare_end =
      let there : addr to + 1 + (words_for len - 1) ≡ addr to + words_for len = omega (arith, h.layout) in
      ap headed.word there ∙ put_other o.word (addr to) (head_word p len ds) (addr to + words_for len) (λ e. omega (arith, h.layout)) ∙ own_bare s (addr to + words_for len) (none_past (words_for len) (omega (arith, h.layout)))

  legal_own : Legal headed (events.Offer j p to)
  legal_own = (
    h.number,
    h.pointer,
    ap untaken h.empty ∙ empty_kept,
    (
      len,
      ds,
      from,
      h.marks,
      record {
        near = h.near;
        marked = h.wanted;
        chosen = h.chosen;
        seen = h.clear;
        fits = omega (arith, h.layout);
        span = record { next = h.next; head = put_same o.word (addr to) (head_word p len ds) (addr to) refl };
        ends = bare_end;
      },
    ),
  )

  abbrev now : State
  now = core.offered headed j len job

  law_now : Law now
  law_now = subst Law (ap (after_offer headed j p to) h.near) (keeps headed (events.Offer j p to) law_headed tt legal_own)

  on_layout : IsJob job
  on_layout = offer_layout headed law_headed j p to legal_own len ds from h.marks h.near

  -- ---- the book's own part
  abbrev made : State
  made = core.offered (with_ends s p len ds to) j len job

  pub made_is : after (with_ends s p len ds to) (events.Offer j p to) ≡ made
  made_is = ap (after_offer (with_ends s p len ds to) j p to) h.near

  own_word : (a : ℕ) → cond (put s.starts (addr to) true a) ((with_ends s p len ds to).word a) 0 ≡ headed.word a
  own_word a = elim (cases_eq a (addr to)) [
    | inl e ↦ ap (λ b. cond b ((with_ends s p len ds to).word a) 0) (put_same s.starts (addr to) true a e)
        ∙ put_other (put s.word (addr to) (head_word p len ds)) (addr to + words_for len) 0 a (λ x. omega (arith, x, e, h.layout)) ∙ put_same s.word (addr to) (head_word p len ds) a e
        ∙ sym (put_same o.word (addr to) (head_word p len ds) a e)
    | inr ne ↦ ap (λ b. cond b ((with_ends s p len ds to).word a) 0) (put_other s.starts (addr to) true a ne)
        ∙ cond_both (s.starts a) ((with_ends s p len ds to).word a) 0 (λ w. w ≡ cond (s.starts a) (s.word a) 0)
        (λ begun. put_other (put s.word (addr to) (head_word p len ds)) (addr to + words_for len) 0 a
        (λ x. false≢true (sym (none_past (words_for len) (omega (arith, h.layout))) ∙ ap s.starts (sym x) ∙ begun))
        ∙ put_other s.word (addr to) (head_word p len ds) a ne ∙ sym (ap (λ b. cond b (s.word a) 0) begun))
        (λ not_begun. sym (ap (λ b. cond b (s.word a) 0) not_begun))
        ∙ sym (put_other o.word (addr to) (head_word p len ds) a ne)
  ]

  own_jobs : (λ i. untaken (put s.copying.word j (job_word (Offered job)) i)) ≡ put o.copying.word j (job_word (Offered job))
  own_jobs = untaken_put s.copying.word j (job_word (Offered job)) ∙ ap (put o.copying.word j) (offered_kept (job_word (Offered job)) job (job_back (Offered job) on_layout))

  own_made : own_part made ≡ now
  own_made = λ i. record now { word = fun_ext own_word i; copying = record (with_job o.copying j s.round_epoch job) { word = own_jobs i } }

  module _ (t : State) (leads : t ≡ record (after (with_ends s p len ds to) (events.Offer j p to)) { word = t.word }) (forgot : Forgets (after (with_ends s p len ds to) (events.Offer j p to)) t) where
    leads_made : t ≡ record made { word = t.word }
    leads_made = leads ∙ ap (λ (x : State). record x { word = t.word }) made_is

    own_now : own_part t ≡ now
    own_now = own_forgets made t leads_made (subst (λ (x : State). Forgets x t) made_is forgot) ∙ own_made

  -- ---- live bytes: no cell names the new span
  lies : LiesIn s ledger held is_honest p len ds from h.marks
  lies = record { order = order; pointer = h.pointer; near = h.near }

  abbrev bare : State
  bare = with_free_cell (own_part (dropped lies)) p

  law_bare : Law bare
  law_bare = retires.law_freed (own_part (dropped lies)) (notes_dropped lies).law p h.pointer (may_leave lies).dropped

  able : Placeable bare p len ds to
  able = record {
    pointer = h.pointer;
    unplaced = free_unplaced bare p (put_same (dropped lies).cell p 0 p refl);
    layout = h.layout;
    next = h.next;
    bare = own_bare s;
  }

  abbrev placed : State
  placed = with_object bare true p len ds to

  law_placed : Law placed
  law_placed = law_then bare law_bare p len ds to able refl refl true (λ odd. absurd (false≢true (sym odd)))

  says_placed : read_of (placed.cell p) ≡ Some (Near len ds to (unmarked true))
  says_placed = ap read_of (put_same bare.cell p (near_word true len ds to) p refl) ∙ read_back (Near len ds to (unmarked true)) h.layout

  bare_same : (l : ℕ) → live_bytes bare l ≡ live_bytes (with_free_cell o p) l
  unfolding spans_of
  bare_same l = ap (λ (c : ℕ → ℕ). live_bytes (record o { cell = c }) l) (put_put s.cell p _ 0)

  freed_same : (l : ℕ) → live_bytes (with_free_cell placed p) l ≡ live_bytes (with_free_cell now p) l
  unfolding spans_of
  freed_same l = ap (λ (c : ℕ → ℕ). live_bytes (record now { cell = c }) l) (put_put bare.cell p (near_word true len ds to) 0 ∙ put_put (dropped lies).cell p 0 0 ∙ put_put s.cell p _ 0)

  -- without p's object both have the same
  without : (l : ℕ) → live_bytes (with_free_cell now p) l ≡ live_bytes (with_free_cell o p) l
  without l = sym (freed_same l) ∙ elim (cases_eq l to.log) [
    | inl same ↦ (let a = places.live_here bare law_bare p len ds to able true law_placed in
        let b = retires.live_here placed law_placed p len ds to (unmarked true) says_placed in
        let here : live_bytes (with_free_cell placed p) to.log ≡ live_bytes bare to.log = omega (arith, a, b) in
        subst (λ k. live_bytes (with_free_cell placed p) k ≡ live_bytes bare k) (sym same) here)
    | inr ne ↦ retires.live_there placed law_placed p len ds to (unmarked true) says_placed l ne ∙ places.live_there bare law_bare p len ds to able true law_placed l ne
  ] ∙ bare_same l

  live_now : (l : ℕ) → live_bytes now l ≡ live_bytes o l
  live_now l = elim (cases_eq l from.log) [
    | inl same ↦ (let a = retires.live_here now law_now p len ds from h.marks h.near in
        let b = retires.live_here o law p len ds from h.marks h.near in
        let both = without from.log in
        let here : live_bytes now from.log ≡ live_bytes o from.log = omega (arith, a, b, both) in
        subst (λ k. live_bytes now k ≡ live_bytes o k) (sym same) here)
    | inr ne ↦ sym (retires.live_there now law_now p len ds from h.marks h.near l ne) ∙ without l ∙ retires.live_there o law p len ds from h.marks h.near l ne
  ]

  -- ---- what is written down
  pub may_begin : MayBegin ledger (size_of len) to
  may_begin = record {
    few = omega (arith, h.next.0, law.shape.few_logs);
    log = omega (arith, h.next.0, order.notes.logs);
    tail = omega (arith, order.notes.tails to.log h.next.0, at, h.layout);
    order = λ _. order_short o ledger order.notes;
    taken = current_taken o ledger order.notes;
  }

  module _ (begun : Ledger) (b : Begins ledger begun (size_of len) to) (jobs : Jobs) (writes : WritesJob begun.jobs jobs j (Some record { job = job; good = true })) where
    jobs_before : begun.jobs ≡ ledger.jobs
    jobs_before = ap (λ (n : Ledger). n.jobs) b.opens.rest

    good_now : is_good s.round_epoch s.round now.copying.since j job ≡ true
    good_now = rw (put_same s.copying.since j s.round_epoch j refl, eq-eqb s.round_epoch s.round_epoch refl, h.chosen) refl

    says_now : job_at now.copying.word j ≡ Some job
    says_now = ap (λ w. job_said (job_of w)) (put_same o.copying.word j (job_word (Offered job)) j refl) ∙ ap job_said (job_back (Offered job) on_layout)

    jobs_now : NotesJobs s.round_epoch s.round now.copying jobs
    jobs_now = notes_wrote s.round_epoch s.round o.copying begun.jobs (subst (NotesJobs s.round_epoch s.round o.copying) (sym jobs_before) order.notes.jobs) now.copying jobs j (Some job)
        (subst (λ g. WritesJob begun.jobs jobs j (Some record { job = job; good = g })) (sym good_now) writes) says_now
        (λ i ne. ap (λ w. job_said (job_of w)) (put_other o.copying.word j (job_word (Offered job)) i ne)) (λ i ne. put_other s.copying.since j s.round_epoch i ne)

    live_then : (l : ℕ) → l < s.logs → (filled_of begun l).live ≡ live_bytes now l
    live_then l lt = elim (cases_eq l to.log) [
      | inl same ↦ ap (λ k. (filled_of begun k).live) same ∙ ap (λ (f : Filled). f.live) b.here ∙ sym (ap (λ k. (filled_of ledger k).live) same) ∙ order.notes.lives l lt ∙ sym (live_now l)
      | inr ne ↦ ap (λ (f : Filled). f.live) (b.there l ne) ∙ order.notes.lives l lt ∙ sym (live_now l)
    ]

    notes_now : Notes now (record begun { jobs = jobs })
    notes_now = record {
      law = law_now;
      current = b.opens.current;
      free = free_then o ledger order.notes to h.next begun.free_logs b.opens.free;
      logs = b.logs ∙ order.notes.logs;
      tails = tail_then o ledger order.notes to h.next begun (size_of len) at (ap (λ (f : Filled). f.tail) b.here) b.there;
      lives = live_then;
      sealed = sealed_then o ledger order.notes to h.next begun.order b.opens.order;
      once = once_then o ledger order.notes to h.next begun.order b.opens.order;
      cells = ap (λ (n : Ledger). vec_len n.free_cells) b.opens.rest ∙ order.notes.cells;
      cell = λ q lt. ap (λ (n : Ledger). is_noted_free n q) b.opens.rest ∙ order.notes.cell q lt;
      jobs = jobs_now;
    }

    pub offered_keeps : (t : State) → t ≡ record (after (with_ends s p len ds to) (events.Offer j p to)) { word = t.word } → Forgets (after (with_ends s p len ds to) (events.Offer j p to)) t →
        InOrder t (record begun { jobs = jobs }) held is_honest
    offered_keeps t leads forgot = record {
      notes = subst (λ (x : State). Notes x (record begun { jobs = jobs })) (sym (own_now t leads forgot)) notes_now;
      far = subst (λ (x : State). HoldsFar x held) (sym (leads_made t leads forgot)) record { long = order.far.long; same = order.far.same };
      honest = λ e. order.honest (ap (λ (x : State). x.honest) (sym (leads_made t leads forgot)) ∙ e);
    }
