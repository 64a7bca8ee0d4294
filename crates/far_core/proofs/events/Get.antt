-- What the event Get owes.
use Rattle.std.proofs.Common.{inl, inr, ◌≡◌, ◌≢◌, ℕ, ◌+◌, ◌*◌, ◌/◌, ◌%◌, ◌<◌, ◌≤◌, ◌∙◌, Bool, true, false, cond, nat_lt, nat_eq, arith, ap, refl, sym, Option, Some, None}
use Rattle.std.proofs.lemmas.Bool.{cases_eq, cond_both, eq-eqb, eqb-true, false≢true, true≢false, ne_eqb, false_from_ne_true}
use Rattle.std.proofs.lemmas.Bool.Decides.{nat_tests}
use mathlib.Core.Path.{fun_ext}
use Rattle.std.specs.Prelude.{◌⊎◌, ◌||◌, ◌&&◌}
use Rattle.far_word.specs.declared.job.Job.{Job}
use Rattle.far_word.specs.Job.{job_of}
use Rattle.far_word.specs.declared.mark.Marks.{Marks}
use Rattle.far_word.specs.declared.pointer.Place.{Place}
use Rattle.far_word.specs.declared.pointer.PtrWord.{PtrWord}
use Rattle.far_word.specs.declared.pointer.PtrWord.TheVariants as pointer
use Rattle.far_word.specs.declared.pointer.PtrWord.TheVariants.{Near, Far}
use Rattle.far_word.specs.declared.sizes.TheConstants.{JOBS, LOG_WORDS}
use Rattle.far_word.specs.Header.{head_of}
use Rattle.far_word.specs.Pointer.{read_of}
use Rattle.far_word.specs.Sizes.{size_of}
use Rattle.far_word.proofs.PointerLaws.{read_says}
use Rattle.far_log.specs.Spans.{pointer_in}
use Rattle.far_events.specs.declared.event.Event.TheVariants.{Get}
use Rattle.far_events.specs.declared.event.Kind.TheVariants.{Free, Open, Sealed}
use Rattle.far_events.specs.declared.event.Reply.{Reply}
use Rattle.far_events.specs.declared.event.Reply.TheVariants.{Word}
use Rattle.far_events.specs.events.Get.{is_copied_at, none_copied, IsUncopied, is_live_at, none_live, IsVacant, may_free, MayFree, with_free_log, Frees, FreeReports, after_get, part_of}
use Rattle.far_events.specs.events.Legal.{Legal}
use Rattle.far_events.specs.events.Step.{after, change_of, touches}
use Rattle.far_events.specs.events.Touch.{Touches}
use Rattle.far_core.specs.laws.Leaves.{PartBy}
use Rattle.far_core.specs.laws.Worlds.{Caused}
use Rattle.far_events.specs.state.Law.{Law, SpanAt}
use Rattle.far_events.specs.state.Spans.{names_place}
use Rattle.far_events.specs.state.Jobs.{job_at, job_said}
use Rattle.far_events.specs.state.State.{Copying, State, put, addr}
use Rattle.far_core.specs.world.Happens.{Happens}
use Rattle.far_core.specs.world.Steps as world
use Rattle.far_core.specs.world.World.{Object, Group, FarSide}
use Rattle.far_core.specs.world.WorldOf.{world_of, object_of, is_group}
use Rattle.far_events.proofs.Bounds.{span_len}
use Rattle.far_events.proofs.Cells.{live_names}
use Rattle.far_core.proofs.Frames.{fewer_clear}
use Rattle.far_events.specs.events.Mark.{is_sealed}
use Rattle.far_events.proofs.Guards.{parts, sealed_fact}
use Rattle.far_events.proofs.JobPlaces.{job_bounds, unworded}
use Rattle.far_core.proofs.KeepJobs.{copies_fewer, keeps_jobs}
use Rattle.far_core.proofs.Owed.{Owed, replies}
use Rattle.far_events.proofs.Put.{put_both, put_two, put_same, put_other}
use Rattle.far_core.proofs.Touching.{same_copier, untouched}
use Rattle.far_core.proofs.Worlds.{World-ext}
use Rattle.far_events.proofs.events.Get.{none_below, none_all, uncopied_below, uncopied_all}

module _ (s : State) (law : Law s) (l : ℕ) where
  -- a pointer that lies in the log has a live span there
  live_here : (p len ds : ℕ) (place : Place) (m : Marks) → read_of (s.cell p) ≡ Some (Near len ds place m) → place.log ≡ l → is_live_at s l place.at ≡ true
  live_here p len ds place m e is =
      let back = law.cells.cell_near p len ds place m e in
      let at : l * LOG_WORDS + place.at ≡ addr place = ap (λ k. k * LOG_WORDS + place.at) (sym is) in
      let named : pointer_in (head_of (s.word (addr place))) ≡ p = ap pointer_in (span_len s law p len ds place m e) in
      rw (at, back.placed, named, e, eq-eqb place.log l is, eq-eqb place.at place.at refl) refl

  vacant_fact : none_live s l LOG_WORDS ≡ true → IsVacant s l
  vacant_fact h p len ds place m e is =
      let says = read_says (s.cell p) (Near len ds place m) (law.cells.cell_read p).0 e in
      false≢true (sym (none_below s l LOG_WORDS place.at h (omega (arith, says.0))) ∙ live_here p len ds place m e is)

vacant_test : (s : State) (l : ℕ) → IsVacant s l → none_live s l LOG_WORDS ≡ true
vacant_test s l vacant = none_all s l LOG_WORDS (λ i lt. false_from_ne_true _ (λ live.
    let p : ℕ = pointer_in (head_of (s.word (l * LOG_WORDS + i))) in
    let named : names_place (read_of (s.cell (pointer_in (head_of (s.word (l * LOG_WORDS + i)))))) l i ≡ true = grind (arith, nat_tests) in
    let names = live_names (read_of (s.cell (pointer_in (head_of (s.word (l * LOG_WORDS + i)))))) l i named in
    vacant p names.0 names.1 names.2 names.3 names.4 names.5))

apart_fact : (l : ℕ) (job : Job) → is_copied_at l (Some job) ≡ false → (job.from.log ≢ l) × (job.to.log ≢ l)
apart_fact l job h = (λ e. absurd (true≢false (sym (either_is _ _ (inl (eq-eqb job.from.log l e))) ∙ h)), λ e. absurd (true≢false (sym (either_is _ _ (inr (eq-eqb job.to.log l e))) ∙ h))) where
  either_is : (a b : Bool) → (a ≡ true) ⊎ (b ≡ true) → (a || b) ≡ true
  either_is true b h = refl
  either_is false b (inl e) = absurd (false≢true e)
  either_is false b (inr e) = e

uncopied_fact : (s : State) → Law s → (l : ℕ) → none_copied s.copying l JOBS ≡ true → IsUncopied s.copying l
uncopied_fact s law l h j job at =
    let there : s.copying.word j ≢ 0 = (λ z. let odd : None ≡ Some job = sym (ap job_said unworded) ∙ sym (ap (λ w. job_said (job_of w)) z) ∙ at in cc) in
    apart_fact l job (ap (is_copied_at l) (sym at) ∙ uncopied_below s.copying l JOBS j h (law.copies.jobs.job_range j there))

apart_test : (l : ℕ) (o : Option Job) → ((job : Job) → o ≡ Some job → (job.from.log ≢ l) × (job.to.log ≢ l)) → is_copied_at l o ≡ false
apart_test l None h = refl
apart_test l (Some job) h = rw (ne_eqb job.from.log l (h job refl).0, ne_eqb job.to.log l (h job refl).1) refl

uncopied_test : (k : Copying) (l : ℕ) → IsUncopied k l → none_copied k l JOBS ≡ true
uncopied_test k l h = uncopied_all k l JOBS (λ j lt. apart_test l (job_at k.word j) (h j))

free_fact : (s : State) → Law s → (l : ℕ) (free : Bool) → may_free s l free ≡ true → MayFree s l free
free_fact s law l false h = tt
free_fact s law l true h =
    let x = parts (is_sealed (s.kind l) && none_live s l LOG_WORDS) (none_copied s.copying l JOBS) h in
    let y = parts (is_sealed (s.kind l)) (none_live s l LOG_WORDS) x.0 in
    (sealed_fact (s.kind l) y.0, vacant_fact s law l y.1, uncopied_fact s law l x.1)

free_test : (s : State) (l : ℕ) (free : Bool) → MayFree s l free → may_free s l free ≡ true
free_test s l false h = refl
free_test s l true h = rw (h.0, vacant_test s l h.1, uncopied_test s.copying l h.2) refl

-- ---- a log given back
module _ (s : State) (law : Law s) (l : ℕ) (shut : s.kind l ≡ Sealed) (vacant : IsVacant s l) (uncopied : IsUncopied s.copying l) where
  abbrev starts : ℕ → Bool
  starts a = cond (nat_eq (a / LOG_WORDS) l) false (s.starts a)

  -- what begins still, began, and in another log
  began : (a : ℕ) → starts a ≡ true → (s.starts a ≡ true) × (a / LOG_WORDS ≢ l)
  began a = cond_both (nat_eq (a / LOG_WORDS) l) false (s.starts a) (λ b. b ≡ true → (s.starts a ≡ true) × (a / LOG_WORDS ≢ l))
      (λ _ h. absurd (false≢true h)) (λ ne h. (h, λ e. false≢true (sym ne ∙ eq-eqb _ _ e)))

  begins_still : (a : ℕ) → a / LOG_WORDS ≢ l → s.starts a ≡ true → starts a ≡ true
  begins_still a ne h = cond_both (nat_eq (a / LOG_WORDS) l) false (s.starts a) (λ b. b ≡ true) (λ e. absurd (ne (eqb-true _ _ e))) (λ _. h)

  not_begun : (a : ℕ) → s.starts a ≡ false → starts a ≡ false
  not_begun a h = cond_both (nat_eq (a / LOG_WORDS) l) false (s.starts a) (λ b. b ≡ false) (λ _. refl) (λ _. h)

  tail_is : (a : ℕ) → a / LOG_WORDS ≢ l → put s.tail l 0 (a / LOG_WORDS) ≡ s.tail (a / LOG_WORDS)
  tail_is a ne = put_other s.tail l 0 (a / LOG_WORDS) ne

  span_stays : (a n : ℕ) → a / LOG_WORDS ≢ l → SpanAt s.tail s.starts a n → SpanAt (put s.tail l 0) starts a n
  span_stays a n ne span = record {
    some = span.some;
    most = span.most;
    fits = rw (tail_is a ne) span.fits;
    alone = λ k low high. not_begun (a + k) (span.alone k low high);
    next = λ more.
        let old : a % LOG_WORDS + size_of n < s.tail (a / LOG_WORDS) = rw (tail_is a ne) at more in
        let same : (a + size_of n) / LOG_WORDS ≡ a / LOG_WORDS = omega (arith, law.logs.tail_end (a / LOG_WORDS)) in
        begins_still (a + size_of n) (λ e. ne (sym same ∙ e)) (span.next old);
  }

  not_current : s.current ≢ l
  not_current e = let odd : Open ≡ Sealed = sym law.logs.is_open ∙ ap s.kind e ∙ shut in cc

  -- the spans of jobs stand in other logs
  job_stands : (j : ℕ) (job : Job) → job_at s.copying.word j ≡ Some job →
      (starts (addr job.from) ≡ true) × (starts (addr job.to) ≡ true) × (s.word (addr job.from) ≡ s.word (addr job.from)) × (s.word (addr job.to) ≡ s.word (addr job.to))
  job_stands j job at =
      let x = law.copies.jobs.job_spans j job at in
      let bounds = job_bounds s.copying j job at in
      let from = bounds.from in let to = bounds.to in
      let a : addr job.from / LOG_WORDS ≡ job.from.log = omega arith in
      let b : addr job.to / LOG_WORDS ≡ job.to.log = omega arith in
      (begins_still (addr job.from) (λ e. (uncopied j job at).0 (sym a ∙ e)) x.from, begins_still (addr job.to) (λ e. (uncopied j job at).1 (sym b ∙ e)) x.to, refl, refl)

  pub law_with_free_log : Law (with_free_log s l)
  law_with_free_log = record {
    shape = law.shape;
    cells = record {
      cell_read = law.cells.cell_read;
      cell_range = law.cells.cell_range;
      cell_near = λ p len ds place m e.
          let back = law.cells.cell_near p len ds place m e in
          let says = read_says (s.cell p) (Near len ds place m) (law.cells.cell_read p).0 e in
          let log : addr place / LOG_WORDS ≡ place.log = omega (arith, says.0) in
          record { placed = begins_still (addr place) (λ is. vacant p len ds place m e (sym log ∙ is)) back.placed; head = back.head };
      cell_far = law.cells.cell_far;
    };
    spans = record {
      word_fits = law.spans.word_fits;
      first_span = λ k some. elim (cases_eq k l) [
        | inl e ↦ absurd (omega (arith, put_same s.tail l 0 k e))
        | inr ne ↦ begins_still (k * LOG_WORDS) (λ e. ne (omega arith)) (law.spans.first_span k (rw (put_other s.tail l 0 k ne) at some))
      ];
      span = λ a h. span_stays a _ (began a h).1 (law.spans.span a (began a h).0);
      span_header = λ a head h. law.spans.span_header a head (began a h).0;
      span_padding = λ a h. law.spans.span_padding a (began a h).0;
    };
    logs = record {
      tail_end = λ k. put_both (λ t. t ≤ LOG_WORDS) s.tail l 0 k (λ _. omega arith) (λ _. law.logs.tail_end k);
      free_tail = λ k is. elim (cases_eq k l) [
        | inl e ↦ put_same s.tail l 0 k e
        | inr ne ↦ put_other s.tail l 0 k ne ∙ law.logs.free_tail k (sym (put_other s.kind l Free k ne) ∙ is)
      ];
      log_range = λ k. put_both (λ x. x ≢ Free → k < s.logs) s.kind l Free k (λ _ ne. absurd (ne refl)) (λ _. law.logs.log_range k);
      is_open = put_other s.kind l Free s.current not_current ∙ law.logs.is_open;
      one_open = λ k. put_both (λ x. x ≡ Open → k ≡ s.current) s.kind l Free k (λ _ is. absurd cc) (λ _. law.logs.one_open k);
    };
    scopes = law.scopes;
    views = law.views;
    rounds = record {
      round_sealed = λ k. put_two (λ b x. b ≡ true → x ≡ Sealed) s.round s.kind l false Free k (λ _ h. absurd (false≢true h)) (λ _. law.rounds.round_sealed k);
      round_evac = λ p len ds place m e. put_both (λ b. b ≡ true → m.evac ≡ true) s.round l false place.log (λ _ h. absurd (false≢true h)) (λ _. law.rounds.round_evac p len ds place m e);
      own_epoch = law.rounds.own_epoch;
    };
    clears = fewer_clear s (put s.round l false) law (λ k out. put_both (λ b. b ≡ false) s.round l false k (λ _. refl) (λ _. out));
    unadopted = law.unadopted;
    copies =
        let fewer = copies_fewer s (put s.round l false) s.clear law (λ k. put_both (λ b. b ≡ true → s.round k ≡ true) s.round l false k (λ _ h. absurd (false≢true h)) (λ _ h. h)) (λ m h. h) in
        record { jobs = keeps_jobs s.word s.starts s.word starts s.copying law.copies.jobs job_stands; taken = fewer.taken; aims = fewer.aims; good = fewer.good; same = fewer.same };
    soils = law.soils;
    cleans = law.cleans;
  }

  no_object : (p : ℕ) (c : Option PtrWord) → read_of (s.cell p) ≡ c → (o : Object) → object_of s.word (s.stored p) p c ≡ Some o → o.home ≢ Group l
  no_object p None e o h home = absurd cc
  no_object p (Some pointer.Free) e o h home = absurd cc
  no_object p (Some (Near len ds place m)) e o h home = vacant p len ds place m e (at_object m.dropped place.log _ o refl h home) where
    at_object : (b : Bool) (g : ℕ) (x o : Object) → x.home ≡ Group g → cond b None (Some x) ≡ Some o → o.home ≡ Group l → g ≡ l
    at_object true g x o is h home = absurd cc
    at_object false g x o is h home = let same : Group g ≡ Group l = sym is ∙ ap (λ (y : Object). y.home) (let eq : x ≡ o = cc in eq) ∙ home in cc
  no_object p (Some (Far len ds m)) e o h home = far_away m.dropped _ o refl h home where
    far_away : (b : Bool) (x o : Object) → x.home ≡ FarSide → cond b None (Some x) ≡ Some o → o.home ≢ Group l
    far_away true x o is h home = absurd cc
    far_away false x o is h home = let same : FarSide ≡ Group l = sym is ∙ ap (λ (y : Object). y.home) (let eq : x ≡ o = cc in eq) ∙ home in cc

  pub free_releases : world.Releases (world_of s) l (world_of (with_free_log s l))
  unfolding world_of
  free_releases = record {
    held = ap is_group shut;
    empty = λ p o h. no_object p (read_of (s.cell p)) refl o h;
    after = World-ext _ _ refl refl refl refl
        (fun_ext (λ k. put_both (λ x. is_group x ≡ put (λ j. is_group (s.kind j)) l false k) s.kind l Free k
        (λ e. sym (put_same (λ j. is_group (s.kind j)) l false k e)) (λ ne. sym (put_other (λ j. is_group (s.kind j)) l false k ne))))
        refl;
  }

frees : (s : State) (l : ℕ) → Frees s l (with_free_log s l)
frees s l = record {
  free = (put_same s.kind l Free l refl, put_same s.tail l 0 l refl, put_same s.round l false l refl);
  begins = λ a e. cond_both (nat_eq (a / LOG_WORDS) l) false (s.starts a) (λ b. b ≡ false) (λ _. refl) (λ ne. absurd (false≢true (sym ne ∙ eq-eqb _ _ e)));
  others = λ k ne. (put_other s.kind l Free k ne, put_other s.tail l 0 k ne, put_other s.round l false k ne);
  starts = λ a ne. cond_both (nat_eq (a / LOG_WORDS) l) false (s.starts a) (λ b. b ≡ s.starts a) (λ e. absurd (ne (eqb-true _ _ e))) (λ _. refl);
  rest = refl;
}

-- ---- by whether the log is given back
module _ (l at : ℕ) where
  keeps_get : (free : Bool) (s : State) → Law s → Legal s (Get l at free) → Law (after s (Get l at free))
  keeps_get false s law h = law
  keeps_get true s law h = law_with_free_log s law l h.2.0 h.2.1 h.2.2

  does_get : (free : Bool) (s : State) → Law s → Legal s (Get l at free) → Happens (world_of s) (Get l at free) (Word (s.word (l * LOG_WORDS + at))) (world_of (after s (Get l at free)))
  does_get false s law h = refl
  does_get true s law h = free_releases s law l h.2.0 h.2.1 h.2.2

  touch_get : (free : Bool) (s : State) → Touches s (touches s (Get l at free)) (after s (Get l at free))
  touch_get false s = untouched s _
  touch_get true s = record { words = λ a ne. refl; remembered = λ k a b. refl; used = λ q a. refl; held = λ q a b. refl; soiled = λ q a b. refl; book = λ ne. absurd (ne refl); copiers = λ c ne. same_copier; rest = (refl, refl, refl, refl) }

  part_get : (free : Bool) → PartBy (Get l at free) (part_of free)
  part_get false = tt
  part_get true = inr (inl (l, at, refl))

  reports_get : (free : Bool) (s : State) → FreeReports s l free (after_get s l free)
  reports_get false s = refl
  reports_get true s = frees s l

  get_causes : (free : Bool) (r : Reply) → Caused (Get l at free) (change_of (Get l at free) r)
  get_causes false = replies (λ r. Caused (Get l at false) (change_of (Get l at false) r)) tt tt (λ n. tt) (λ x. tt) (λ place. tt)
  get_causes true = replies (λ r. Caused (Get l at true) (change_of (Get l at true) r)) tt tt (λ n. tt) (λ x. (at, refl)) (λ place. tt)

-- what the event owes
module _ (l at : ℕ) (free : Bool) where
  pub get_owed : Owed (Get l at free)
  get_owed = record {
    fact = λ s law h. (grind (arith, nat_tests), grind (arith, nat_tests), free_fact s law l free (grind (arith, nat_tests)));
    test = λ s h.
        let log : l < s.logs = h.0 in let inside : at < LOG_WORDS = h.1 in
        let a : nat_lt l s.logs ≡ true = grind (arith, nat_tests) in
        let b : nat_lt at LOG_WORDS ≡ true = grind (arith, nat_tests) in
        rw (a, b, free_test s l free h.2) refl;
    keeps = λ s law fits h. keeps_get l at free s law h;
    does = λ s law fits h. does_get l at free s law h;
    within = λ s. touch_get l at free s;
    part = λ s h. part_get l at free;
    word = λ s h. tt;
    reports = λ s law h. (refl, reports_get l at free s);
    silent = λ s t h. h;
    answers = λ s x. cc;
    causes = get_causes l at free;
  }
