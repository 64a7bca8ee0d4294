-- A pointer is named to the copy that a finished job has made: that is allowed, and a book stays in order.
use Rattle.std.proofs.Common.{◌≡◌, ◌≢◌, ◌∙◌, ℕ, ◌*◌, ◌/◌, ◌%◌, ◌<◌, ◌≤◌, Bool, true, false, arith, ap, inl, inr, refl, sym, subst, Option, Some, None, List}
use Rattle.std.specs.Prelude.{◌==◌, eqb, is_some}
use Rattle.std.specs.List.{IsDistinct, list_any}
use Rattle.std.specs.Vec.{vec_len}
use Rattle.std.proofs.lemmas.Bool.{cases_eq, eq-eqb, eqb-true, false≢true, true≢false}
use Rattle.far_word.specs.declared.job.Job.{Job}
use Rattle.far_word.specs.declared.job.JobWord.TheVariants.{Finished}
use Rattle.far_word.specs.declared.mark.Marks.{Marks}
use Rattle.far_word.specs.declared.pointer.Place.{Place}
use Rattle.far_word.specs.declared.pointer.PtrWord.{PtrWord}
use Rattle.far_word.specs.declared.pointer.PtrWord.TheVariants.{Near}
use Rattle.far_word.specs.declared.sizes.TheConstants.{CELLS, LOG_WORDS}
use Rattle.far_word.specs.Job.{job_of}
use Rattle.far_word.specs.Pointer.{IsPtr, read_of}
use Rattle.far_word.specs.Sizes.{size_of}
use Rattle.far_word.proofs.PointerLaws.{read_back, read_says, word_fits}
use Rattle.far_events.specs.declared.event.Event.TheVariants as events
use Rattle.far_events.specs.declared.naming.Naming.TheVariants.{Moves}
use Rattle.far_events.specs.events.Copied.{IsCopied, copied_job, with_named}
use Rattle.far_events.specs.events.Name.{after_naming}
use Rattle.far_events.specs.events.Naming.{is_dropped, no_marks, unmarked}
use Rattle.far_events.specs.events.namings.Moves.{after_move}
use Rattle.far_events.specs.events.Step.{after}
use Rattle.far_core.specs.laws.Observed.{live_bytes}
use Rattle.far_events.specs.state.Jobs.{job_at, job_said, near_place}
use Rattle.far_events.specs.state.Law.{Law, head_len, is_dirty}
use Rattle.far_events.specs.state.Spans.{names_place, spans_of}
use Rattle.far_events.specs.state.State.{State, addr}
use Rattle.far_events.proofs.Bounds.{span_len}
use Rattle.far_events.proofs.Copied.{copied_fact, copied_outside, copied_stands, copied_test}
use Rattle.far_core.proofs.Copied.{keeps_named}
use Rattle.far_events.proofs.Guards.{parts}
use Rattle.far_events.proofs.JobPlaces.{job_bounds}
use Rattle.far_events.proofs.Namings.{naming_only}
use Rattle.far_events.proofs.Put.{put_both, put_same}
use Rattle.far_hand.specs.Finds.{Finds}
use Rattle.far_hand.specs.Known.{Forgets}
use Rattle.far_hand.proofs.Finding.{IsNearTo, finds_more, near_found}
use Rattle.far_book.specs.declared.ledger.Filled.{Filled}
use Rattle.far_book.specs.declared.ledger.Ledger.{Ledger}
use Rattle.far_book.specs.book.Collecting.{IsNamed, MayBeNamed, named, named_of}
use Rattle.far_book.specs.book.Effects.{near_word, with_free_cell}
use Rattle.far_book.specs.book.FarSide.{HoldsFar, InOrder, kept_len}
use Rattle.far_book.specs.book.Jobs.{NotesJobs}
use Rattle.far_book.specs.book.Ledger.{Notes, Passes, filled_of, is_noted_free}
use Rattle.far_book.specs.book.NumberSet.{has}
use Rattle.far_book.specs.book.Own.{own_part}
use Rattle.far_book.specs.book.Renaming.{MayRenameNear, Renamed, RenamedNear, seen}
use Rattle.far_book.proofs.region.Calls.{put_put}
use Rattle.far_book.proofs.region.Dirt.{not_dropped, same_dirt}
use Rattle.far_book.proofs.region.FarHeld.{still_named}
use Rattle.far_book.proofs.region.Founds.{near_used}
use Rattle.far_book.proofs.region.HavingJobs.{place_is}
use Rattle.far_book.proofs.region.InOrders.{found_keeps}
use Rattle.far_book.proofs.region.JobNotes.{job_pointer}
use Rattle.far_book.proofs.region.Moved.{drop_of, near_leads, no_stay, not_to_near}
use Rattle.far_book.proofs.region.Notings.{live_small}
use Rattle.far_book.proofs.region.Owns.{own_forgets}
use Rattle.far_book.proofs.region.Retires as retires
use Rattle.far_book.proofs.region.Untaken.{finished_kept}

at_place : (len ds : ℕ) (place from : Place) (m : Marks) (o : Option PtrWord) → o ≡ Some (Near len ds place m) → names_place o from.log from.at ≡ true → o ≡ Some (Near len ds from m)
at_place len ds place from m o e h =
    let here : names_place (Some (Near len ds place m)) from.log from.at ≡ true = subst (λ x. names_place x from.log from.at ≡ true) e h in
    e ∙ ap (λ x. Some (Near len ds x m)) (place_is place from here)

-- ---- a job may be named, whose object's length and data structure are known
module _ (s : State) (law : Law (own_part s)) (j : ℕ) (job : Job) (cell len ds : ℕ) (place : Place) (m : Marks) (may : MayBeNamed s j job cell) (says : read_of cell ≡ Some (Near len ds place m)) where
  abbrev o : State
  o = own_part s

  abbrev p : ℕ
  p = job.pointer

  abbrev new : ℕ
  new = near_word m.dirty len ds job.to

  near : read_of (s.cell p) ≡ Some (Near len ds job.from m)
  near = ap read_of (sym may.found) ∙ at_place len ds place job.from m (read_of cell) says may.lies

  alive : m.dropped ≡ false
  alive = drop_of (read_of cell) len ds place m says may.alive

  good : (s.copying.since j ≡ s.round_epoch) × (s.round job.from.log ≡ true)
  good = let x = parts (s.copying.since j == s.round_epoch) (s.round job.from.log) may.good in (eqb-true (s.copying.since j) s.round_epoch x.0, x.1)

  wanted : m.evac ≡ true
  wanted = law.rounds.round_evac p len ds job.from m near good.1

  says_own : job_of (o.copying.word j) ≡ Some (Finished job may.copier)
  says_own = ap job_of (finished_kept (s.copying.word j) job may.copier may.finished) ∙ may.finished

  copied : IsCopied o p job.from job.to j may.copier
  copied = record { low = may.number; lies = ap near_place near; finished = says_own; good = good }

  pub pointer : p < CELLS * s.mutators
  pointer = job_pointer s law j job (ap job_said may.finished)

  outside : s.round job.to.log ≡ false
  outside = copied_outside o law p job.from job.to j may.copier copied

  pub apart : job.from.log ≢ job.to.log
  apart e = true≢false (sym good.1 ∙ ap s.round e ∙ outside)

  stands : (s.starts (addr job.to) ≡ true) × (job.to.log < s.logs)
  stands = copied_stands o law p job.from job.to j may.copier copied

  pub layout_from : IsPtr (Near len ds job.from m)
  layout_from = (read_says (s.cell p) (Near len ds job.from m) (law.cells.cell_read p).0 near).0

  -- the copy is as long as the object
  pub layout : IsPtr (Near len ds job.to no_marks)
  layout =
      let at : job_at o.copying.word j ≡ Some job = ap job_said says_own in
      let spans = law.copies.jobs.job_spans j job at in
      let span = law.spans.span (addr job.to) spans.to in
      let bounds = (job_bounds o.copying j job at).to in
      let long : head_len (o.word (addr job.to)) ≡ len = ap head_len spans.alike ∙ rw (span_len o law p len ds job.from m near) refl in
      let sized : size_of (head_len (o.word (addr job.to))) ≡ size_of len = ap size_of long in
      let here : addr job.to % LOG_WORDS ≡ job.to.at = omega (arith, bounds) in
      (omega (arith, layout_from), omega (arith, layout_from), omega (arith, layout_from), omega (arith, stands, law.shape.few_logs), omega (arith, span.fits, sized, here, law.logs.tail_end (addr job.to / LOG_WORDS)))

  pub new_read : read_of new ≡ Some (Near len ds job.to (unmarked m.dirty))
  new_read = read_back (Near len ds job.to (unmarked m.dirty)) layout

  -- ---- by a word that is found
  module _ (w : ℕ) (f : Finds (s.cell p) w) (kept : is_dropped (read_of w) ≡ false) where
    abbrev u : State
    u = seen s p w

    here : u.cell p ≡ w
    here = put_same s.cell p w p refl

    pub found : (k : Marks) × (read_of w ≡ Some (Near len ds job.from k)) × (k.dropped ≡ false) × (k.evac ≡ true)
    found = let x = near_found (s.cell p) w f len ds job.from m near in (x.marks, x.near, drop_of (read_of w) len ds job.from x.marks x.near kept, x.same ∙ wanted)

    copied_here : IsCopied u p job.from job.to j may.copier
    copied_here = record { low = may.number; lies = ap (λ v. near_place (read_of v)) here ∙ ap near_place found.1; finished = may.finished; good = good }

    -- it is the job that is named, since no other copies there
    only : copied_job u p job.from job.to ≡ Some j
    only = at_job (copied_job u p job.from job.to) refl where
      at_job : (x : Option ℕ) → copied_job u p job.from job.to ≡ x → x ≡ Some j
      at_job None e = absurd (false≢true (sym (ap is_some e) ∙ copied_test u p job.from job.to (j, may.copier, copied_here)))
      at_job (Some i) e =
          let x = copied_fact u p job.from job.to i e in
          let other : job_at o.copying.word i ≡ Some job = ap job_said (ap job_of (finished_kept (s.copying.word i) job x.0 x.1.finished) ∙ x.1.finished) in
          ap (λ n. Some n) (law.copies.jobs.targets_differ i j job job other (ap job_said says_own) refl)

    -- with DIRTY as it was found
    abbrev pub fresh : ℕ
    fresh = near_word found.0.dirty len ds job.to

    named_is : after u (events.Name p w fresh) ≡ with_named u p fresh j
    named_is = rw (eq-eqb (u.cell p) w here)
        (ap (after_naming u p fresh) (naming_only (Moves len ds job.from job.to) (read_of w) (read_of fresh) ((found.0, found.1, found.2, no_stay job.from job.to found.0 found.3), read_back (Near len ds job.to (unmarked found.0.dirty)) layout)) ∙ ap (after_move u p fresh len job.to) only)

    -- the same as the state that is told of
    pub told : named u p job.to ≡ with_named u p fresh j
    told = ap (named_of u p job.to) (ap read_of here ∙ found.1) ∙ ap (λ v. after u (events.Name p v fresh)) here ∙ named_is

  pub may_rename : MayRenameNear s p len ds job.to
  may_rename w fits f kept =
      let x = found w f kept in
      let says_new = read_back (Near len ds job.to (unmarked (is_dirty (read_of w)))) layout ∙ ap (λ b. Some (Near len ds job.to (unmarked b))) (ap is_dirty x.1) in (
        (pointer, (Moves len ds job.from job.to, ((x.0, x.1, x.2, no_stay job.from job.to x.0 x.3), says_new), inr (j, may.copier, copied_here w f kept))),
        λ n at y none i lt. absurd (not_to_near (is_dirty (read_of w)) w len ds n job.to at layout y),
      )

  -- ---- once it is named
  module _ (t : State) (r : Renamed s t p new) where
    kept : is_dropped (read_of r.word) ≡ false
    kept = not_dropped (s.cell p) r.word r.alive

    same_word : new ≡ fresh r.word r.found kept
    same_word = ap (λ b. near_word b len ds job.to) (sym (ap is_dirty near) ∙ sym (same_dirt (s.cell p) r.word r.found r.alive) ∙ ap is_dirty (found r.word r.found kept).1)

    leads : t ≡ record (with_named (seen s p r.word) p new j) { word = t.word }
    leads = near_leads s t p m.dirty len ds job.to layout r
        ∙ ap (λ v. record (after (seen s p r.word) (events.Name p r.word v)) { word = t.word }) same_word
        ∙ ap (λ (x : State). record x { word = t.word }) (named_is r.word r.found kept)
        ∙ ap (λ v. record (with_named (seen s p r.word) p v j) { word = t.word }) (sym same_word)

    pub is_named : IsNamed s t job
    is_named =
        let is = ap (λ v. with_named (seen s p r.word) p v j) same_word ∙ sym (told r.word r.found kept) in
        record {
          cell = r.word;
          sees = r.found;
          alive = kept;
          leads = leads ∙ ap (λ (x : State). record x { word = t.word }) is;
          forgot = subst (λ (x : State). Forgets x t) is (record { known = r.forgot.known; headers = r.forgot.headers });
        }

    pub jobs_stay : t.copying.word ≡ s.copying.word
    jobs_stay = ap (λ (x : State). x.copying.word) leads

    -- ---- the book's own part
    abbrev now : State
    now = with_named o p new j

    own_now : own_part t ≡ now
    own_now = own_forgets (with_named (seen s p r.word) p new j) t leads (record { known = r.forgot.known; headers = r.forgot.headers }) ∙ (λ i. record now { cell = put_put s.cell p r.word new i })

    law_now : Law now
    law_now = keeps_named o law p new len ds job.from job.to m j may.copier copied near alive new_read (word_fits (Near len ds job.to (unmarked m.dirty)) layout) pointer

    freed_same : (l : ℕ) → live_bytes (with_free_cell now p) l ≡ live_bytes (with_free_cell o p) l
    unfolding spans_of
    freed_same l = ap (λ (c : ℕ → ℕ). live_bytes (record o { cell = c }) l) (put_put s.cell p new 0)

    module _ (ledger : Ledger) (notes : Notes o ledger) (after : Ledger) (passes : Passes ledger after job.from.log job.to.log (size_of len)) where
      in_from : job.from.log < s.logs
      in_from = law.logs.log_range job.from.log (λ free. let odd = sym (law.rounds.round_sealed job.from.log good.1) ∙ free in absurd cc)

      live_now : (l : ℕ) → l < s.logs → (filled_of after l).live ≡ live_bytes now l
      live_now l lt = elim (cases_eq l job.from.log) [
        | inl same ↦ (let mine : (filled_of ledger job.from.log).live ≡ live_bytes o job.from.log = notes.lives job.from.log in_from in
            let old = retires.live_here o law p len ds job.from m near in
            let other = freed_same job.from.log in
            let there = retires.live_there now law_now p len ds job.to (unmarked m.dirty) (ap read_of (put_same s.cell p new p refl) ∙ new_read) job.from.log apart in
            let here : (filled_of after job.from.log).live ≡ live_bytes now job.from.log = omega (arith, passes.less, mine, old, other, there) in
            subst (λ k. (filled_of after k).live ≡ live_bytes now k) (sym same) here)
        | inr ne ↦ elim (cases_eq l job.to.log) [
          | inl same ↦ (let mine : (filled_of ledger job.to.log).live ≡ live_bytes o job.to.log = notes.lives job.to.log stands.1 in
              let old = retires.live_there o law p len ds job.from m near job.to.log (λ e. apart (sym e)) in
              let other = freed_same job.to.log in
              let more = retires.live_here now law_now p len ds job.to (unmarked m.dirty) (ap read_of (put_same s.cell p new p refl) ∙ new_read) in
              let here : (filled_of after job.to.log).live ≡ live_bytes now job.to.log = omega (arith, passes.more, mine, old, other, more) in
              subst (λ k. (filled_of after k).live ≡ live_bytes now k) (sym same) here)
          | inr other ↦ ap (λ (f : Filled). f.live) (passes.there l ne other) ∙ notes.lives l lt ∙ sym (retires.live_there o law p len ds job.from m near l ne)
              ∙ sym (freed_same l) ∙ retires.live_there now law_now p len ds job.to (unmarked m.dirty) (ap read_of (put_same s.cell p new p refl) ∙ new_read) l other
        ]
      ]

      notes_now : Notes now after
      notes_now = record {
        law = law_now;
        current = ap (λ (n : Ledger). n.current) passes.rest ∙ notes.current;
        free = λ l few. ap (λ (n : Ledger). has n.free_logs l) passes.rest ∙ notes.free l few;
        logs = passes.logs ∙ notes.logs;
        tails = λ l lt. passes.tails l ∙ notes.tails l lt;
        lives = live_now;
        sealed = λ l. ap (λ (n : Ledger). list_any (eqb l) n.order) passes.rest ∙ notes.sealed l;
        once = subst (λ (n : Ledger). IsDistinct eqb n.order) (sym passes.rest) notes.once;
        cells = ap (λ (n : Ledger). vec_len n.free_cells) passes.rest ∙ notes.cells;
        cell = λ q lt. ap (λ (n : Ledger). is_noted_free n q) passes.rest ∙ notes.cell q lt ∙ put_both (λ c. (s.cell q == 0) ≡ (c == 0)) s.cell p new q
            (λ e. ap (λ k. s.cell k == 0) e ∙ near_used (s.cell p) len ds job.from m near ∙ sym (near_used new len ds job.to (unmarked m.dirty) new_read)) (λ _. refl);
        jobs = subst (λ (n : Ledger). NotesJobs s.round_epoch s.round now.copying n.jobs) (sym passes.rest) (record { sized = notes.jobs.sized; noted = notes.jobs.noted; waiting = notes.jobs.waiting });
      }

      pub named_keeps : (held : ℕ → Option (List ℕ)) (is_honest : Bool) → HoldsFar s held → (s.honest ≡ true → is_honest ≡ true) → InOrder t after held is_honest
      named_keeps held is_honest far honest = record {
        notes = subst (λ (x : State). Notes x after) (sym own_now) notes_now;
        far = still_named s t held held far p new (ap (λ (x : State). x.honest) leads) (ap (λ (x : State). x.cell) leads ∙ put_put s.cell p r.word new) (λ q _. ap (λ (x : State). x.stored q) leads) (λ q _. refl)
            (ap kept_len new_read ∙ sym (ap kept_len near)) refl (ap (λ (x : State). x.stored p) leads);
        honest = λ e. honest (ap (λ (x : State). x.honest) (sym leads) ∙ e);
      }

  -- ---- what is asked of the ledger
  module _ (ledger : Ledger) (notes : Notes o ledger) where
    pub passes_from : job.from.log < vec_len ledger.filled
    passes_from = omega (arith, in_log, notes.logs) where
      in_log : job.from.log < s.logs
      in_log = law.logs.log_range job.from.log (λ free. let odd = sym (law.rounds.round_sealed job.from.log good.1) ∙ free in absurd cc)

    pub passes_to : job.to.log < vec_len ledger.filled
    passes_to = omega (arith, stands, notes.logs)

    pub passes_live : 8 * size_of len ≤ (filled_of ledger job.from.log).live
    passes_live =
        let in_log : job.from.log < s.logs = law.logs.log_range job.from.log (λ free. let odd = sym (law.rounds.round_sealed job.from.log good.1) ∙ free in absurd cc) in
        omega (arith, retires.live_here o law p len ds job.from m near, notes.lives job.from.log in_log)

    pub passes_room : (filled_of ledger job.to.log).live ≤ 8 * LOG_WORDS
    passes_room = omega (arith, live_small o ledger job.to.log (notes, stands.1), notes.tails job.to.log stands.1, law.logs.tail_end job.to.log)

-- ---- by the word that the naming was told of
-- what is named once a word was found is named
named_before : (s t : State) (job : Job) (w : ℕ) → Finds (s.cell job.pointer) w → IsNamed (seen s job.pointer w) t job → IsNamed s t job
named_before s t job w f x =
    let same : seen (seen s job.pointer w) job.pointer x.cell ≡ seen s job.pointer x.cell = (λ i. record s { cell = put_put s.cell job.pointer w x.cell i }) in
    record {
      cell = x.cell;
      sees = finds_more (s.cell job.pointer) w x.cell f (subst (λ v. Finds v x.cell) (put_same s.cell job.pointer w job.pointer refl) x.sees);
      alive = x.alive;
      leads = x.leads ∙ ap (λ (u : State). record (named u job.pointer job.to) { word = t.word }) same;
      forgot = subst (λ (u : State). Forgets (named u job.pointer job.to) t) same x.forgot;
    }

module _ (s : State) (ledger : Ledger) (held : ℕ → Option (List ℕ)) (is_honest : Bool) (h : InOrder s ledger held is_honest) (j : ℕ) (job : Job) (cell len ds : ℕ) (place : Place) (m : Marks)
    (may : MayBeNamed s j job cell) (says : read_of cell ≡ Some (Near len ds place m)) (t : State) (r : RenamedNear s t job.pointer len ds job.to) where
  abbrev then : State
  then = seen s job.pointer r.from

  order : InOrder then ledger held is_honest
  order = found_keeps s ledger held is_honest h job.pointer r.from r.fits r.finds

  first : IsNearTo (read_of r.from) len ds job.from m.evac
  first = near_found (s.cell job.pointer) r.from r.finds len ds job.from m (near s h.notes.law j job cell len ds place m may says)

  may_then : MayBeNamed then j job r.from
  may_then = record {
    number = may.number;
    copier = may.copier;
    finished = may.finished;
    good = may.good;
    found = sym (put_same s.cell job.pointer r.from job.pointer refl);
    lies = rw (first.near, eq-eqb job.from.log job.from.log refl, eq-eqb job.from.at job.from.at refl) refl;
    alive = r.alive;
  }

  renamed : Renamed then t job.pointer (near_word first.marks.dirty len ds job.to)
  renamed = subst (λ b. Renamed then t job.pointer (near_word b len ds job.to)) (ap is_dirty first.near) r.named

  pub is_named_by : IsNamed s t job
  is_named_by = named_before s t job r.from r.finds (is_named then order.notes.law j job r.from len ds job.from first.marks may_then first.near t renamed)

  pub jobs_stay_by : t.copying.word ≡ s.copying.word
  jobs_stay_by = jobs_stay then order.notes.law j job r.from len ds job.from first.marks may_then first.near t renamed

  pub named_keeps_by : (after : Ledger) → Passes ledger after job.from.log job.to.log (size_of len) → InOrder t after held is_honest
  named_keeps_by after passes = named_keeps then order.notes.law j job r.from len ds job.from first.marks may_then first.near t renamed ledger order.notes after passes held is_honest order.far order.honest

-- a naming by the word that the cell has is the naming to the target
pub named_exactly : (s u : State) (p cell len ds : ℕ) (to from : Place) (marks : Marks) → cell ≡ s.cell p → read_of cell ≡ Some (Near len ds from marks) →
    u ≡ after s (events.Name p cell (near_word (is_dirty (read_of cell)) len ds to)) → u ≡ named s p to
named_exactly s u p cell len ds to from marks found says set =
    set
    ∙ ap (λ w. after s (events.Name p cell (near_word (is_dirty w) len ds to))) says
    ∙ ap (λ v. after s (events.Name p v (near_word marks.dirty len ds to))) found
    ∙ sym (ap (named_of s p to) (ap read_of (sym found) ∙ says))
