-- What an owner's event changes, and a copier's.
use Rattle.std.proofs.Common.{◌≡◌, ℕ, ◌+◌, ◌^◌, Bool, true, false, Option, Some, None, inl, inr, refl, sym, ap, ◌∙◌, subst, bit_or}
use Rattle.std.specs.Prelude.{◌==◌, is_some}
use Rattle.std.proofs.lemmas.Bool.{false≢true, cond_both, eqb-true, false_from_ne_true}
use Rattle.far_word.specs.declared.job.JobWord.TheVariants.{Offered, Taken, Finished}
use Rattle.far_word.specs.declared.mark.Mark.{Mark as MarkKind}
use Rattle.far_word.specs.declared.mark.Mark.TheVariants.{Hot, Evac, Moved, Dropped, Dirty}
use Rattle.far_word.specs.declared.mark.Marks.{Marks}
use Rattle.far_word.specs.declared.pointer.Place.{Place}
use Rattle.far_word.specs.declared.pointer.PtrWord.{PtrWord}
use Rattle.far_word.specs.declared.pointer.PtrWord.TheVariants.{Free, Near, Far}
use Rattle.far_word.specs.Job.{job_of, job_word}
use Rattle.far_word.specs.Mark.{position}
use Rattle.far_word.specs.Pointer.{read_of}
use Rattle.far_word.proofs.JobLaws.{job_back, job_says}
use Rattle.far_events.specs.declared.event.Event.{Event}
use Rattle.far_events.specs.declared.event.Event.TheVariants.{ReadEpoch, Open, Pin, Load, Store, Soil, Close, Adopt, Put, Name, See, Mark, Ask, Get, Clear, Advance, Look, Offer, PeekJob, SeeJob, Claim, ReadLength, Read, Write, Finish, Collect}
use Rattle.far_events.specs.declared.event.Reply.{Reply}
use Rattle.far_events.specs.declared.event.Reply.TheVariants.{Refused}
use Rattle.far_events.specs.declared.event.Task.{Task}
use Rattle.far_events.specs.events.Ask.{is_request}
use Rattle.far_events.specs.events.Claim.{claimed}
use Rattle.far_events.specs.events.Legal.{Legal}
use Rattle.far_events.specs.events.Step.{after, answer, is_legal, step_of, data_word}
use Rattle.far_events.specs.state.Jobs.{is_finished}
use Rattle.far_events.specs.state.Law.{Law, is_dirty}
use Rattle.far_events.specs.state.State.{State, addr, put}
use Rattle.far_events.proofs.Calls.{word_behind}
use Rattle.far_events.proofs.Cells.{map_mark}
use Rattle.far_events.proofs.JobPlaces.{task_at}
use Rattle.far_core.proofs.Marking as marking
use Rattle.far_core.proofs.Marking.{read_mark}
use Rattle.far_core.proofs.Owing.{is_fact}
use Rattle.far_core.proofs.events.Soil.{reads, soiled_word}
use Rattle.far_events.proofs.Put.{put_both, put_other}
use Rattle.far_events.proofs.Quieting.{quiet_fact, quiet_unheld}
use Rattle.far_events.specs.events.Quiet.{is_quiet_cell}
use Rattle.far_hand.specs.Beside.{IsBeside}
use Rattle.far_hand.specs.Finds.{Finds}
use Rattle.far_hand.specs.FindsJob.{FindsJob}
use Rattle.far_hand.specs.Makers.{is_others}
use Rattle.far_hand.specs.MayBe.{job_itself}
use Rattle.far_hand.specs.Others.{IsLoudAt, OthersChange}
use Rattle.far_hand.specs.Quiet.{IsQuietNear, is_quiet}
use Rattle.far_hand.proofs.Finding.{finds_is, finds_same, finds_mark, finds_dirty}
use Rattle.far_hand.proofs.JobsFound.{finished_found, job_is, taken_found}

-- nothing in cells, words and jobs changes
module _ (s t : State) (cells : t.cell ≡ s.cell) (words : t.word ≡ s.word) (jobs : t.copying.word ≡ s.copying.word) (rest : IsBeside s t) where
  stays : OthersChange s t
  stays = record {
    cells = λ p. finds_is (s.cell p) (t.cell p) (ap (λ f. f p) cells);
    clean = λ p _. ap (λ (f : ℕ → ℕ). is_dirty (read_of (f p))) cells;
    words = λ a _. ap (λ f. f a) words;
    jobs = λ j. job_is (s.copying.word j) (t.copying.word j) (ap (λ f. f j) jobs);
    rest = rest;
  }

-- an owner's mark leaves DIRTY as it was
dirty_mark : (k : MarkKind) (o : Option PtrWord) → marking.is_owners k ≡ true → is_dirty (map_mark k o) ≡ is_dirty o
dirty_mark k None h = refl
dirty_mark k (Some Free) h = refl
dirty_mark Hot (Some (Near len ds place m)) h = refl
dirty_mark Evac (Some (Near len ds place m)) h = absurd (false≢true h)
dirty_mark Moved (Some (Near len ds place m)) h = refl
dirty_mark Dropped (Some (Near len ds place m)) h = refl
dirty_mark Dirty (Some (Near len ds place m)) h = absurd (false≢true h)
dirty_mark k (Some (Far len ds m)) h = refl

-- the cell of a pointer that is used takes a mark more
module _ (s t : State) (law : Law s) (p : ℕ) (k : MarkKind) (own : marking.is_owners k ≡ true) (used : s.used p ≡ true)
    (cells : t.cell ≡ put s.cell p (bit_or (s.cell p) (2 ^ position k))) (words : t.word ≡ s.word) (jobs : t.copying.word ≡ s.copying.word) (rest : IsBeside s t) where
  marked : (q : ℕ) → Finds (s.cell q) (put s.cell p (bit_or (s.cell p) (2 ^ position k)) q)
  marked q = put_both (λ w. Finds (s.cell q) w) s.cell p (bit_or (s.cell p) (2 ^ position k)) q
      (λ e. subst (λ v. Finds v (bit_or (s.cell p) (2 ^ position k))) (ap s.cell (sym e))
      (finds_mark k (s.cell p) (bit_or (s.cell p) (2 ^ position k)) own (read_mark k (s.cell p) own (law.cells.cell_read p).0 (law.views.used_cell p used)).0))
      (λ _. finds_same (s.cell q))

  as_dirty : (q : ℕ) → is_dirty (read_of (put s.cell p (bit_or (s.cell p) (2 ^ position k)) q)) ≡ is_dirty (read_of (s.cell q))
  as_dirty q = put_both (λ w. is_dirty (read_of w) ≡ is_dirty (read_of (s.cell q))) s.cell p (bit_or (s.cell p) (2 ^ position k)) q
      (λ e. ap is_dirty (read_mark k (s.cell p) own (law.cells.cell_read p).0 (law.views.used_cell p used)).0 ∙ dirty_mark k (read_of (s.cell p)) own ∙ ap (λ x. is_dirty (read_of (s.cell x))) (sym e))
      (λ _. refl)

  marks : OthersChange s t
  marks = record { cells = λ q. subst (λ (f : ℕ → ℕ). Finds (s.cell q) (f q)) (sym cells) (marked q); clean = λ q _. ap (λ (f : ℕ → ℕ). is_dirty (read_of (f q))) cells ∙ as_dirty q; words = λ a _. ap (λ f. f a) words; jobs = λ j. job_is (s.copying.word j) (t.copying.word j) (ap (λ f. f j) jobs); rest = rest }

-- what is held isn't quiet
held_loud : (s : State) → Law s → (p len ds : ℕ) (place : Place) (m : Marks) → s.held p ≡ Some place → read_of (s.cell p) ≡ Some (Near len ds place m) →
    is_quiet s.round s.clear p place m ≡ false
held_loud s law p len ds place m held near = false_from_ne_true _ (λ quiet.
    let odd : None ≡ Some place = sym (quiet_unheld s law p (quiet_fact s p (ap (is_quiet_cell s p) near ∙ quiet))) ∙ held in cc)

-- a word of an object that is held is stored into
module _ (s : State) (law : Law s) (m p i w : ℕ) (legal : Legal s (Store m p i w)) where
  loud : IsLoudAt s (data_word s p i)
  loud = let held = legal.1 in let object = held.1 in let near = object.near in inl record {
    p = p;
    len = legal.0;
    ds = near.0;
    place = held.0;
    marks = near.1;
    index = i;
    near = near.2;
    loud = held_loud s law p legal.0 near.0 held.0 near.1 object.rests near.2;
    inside = held.2;
    here = word_behind s law p i held.0 object.rests;
  }

  stores : OthersChange s (after s (Store m p i w))
  stores = record {
    cells = λ q. finds_same (s.cell q);
    clean = λ _ _. refl;
    words = λ a quiet. put_other s.word (data_word s p i) w a (λ e. quiet (subst (IsLoudAt s) (sym e) loud));
    jobs = λ j. job_itself (s.copying.word j);
    rest = refl;
  }

requests : (k : MarkKind) → is_request k ≡ true → marking.is_owners k ≡ true
requests Hot h = absurd (false≢true h)
requests Evac h = absurd (false≢true h)
requests Moved h = refl
requests Dropped h = refl
requests Dirty h = absurd (false≢true h)

-- a quiet object isn't held
unheld : (s : State) → Law s → (p : ℕ) → IsQuietNear s p → s.held p ≡ None
unheld s law p q = quiet_unheld s law p (quiet_fact s p (ap (is_quiet_cell s p) q.near ∙ q.quiet))

-- the cell of an object that is held gets DIRTY
soils : (s : State) → Law s → (m p : ℕ) → Legal s (Soil m p) → OthersChange s (after s (Soil m p))
soils s law m p legal = record {
  cells = λ q. put_both (λ w. Finds (s.cell q) w) s.cell p (soiled_word (s.cell p)) q
      (λ e. subst (λ v. Finds v (soiled_word (s.cell p))) (ap s.cell (sym e)) (finds_dirty (s.cell p) (soiled_word (s.cell p)) (reads s law p legal.1).0)) (λ _. finds_same (s.cell q));
  clean = λ q quiet. put_both (λ w. is_dirty (read_of w) ≡ is_dirty (read_of (s.cell q))) s.cell p (soiled_word (s.cell p)) q
      (λ e. absurd (false≢true (sym (ap is_some (unheld s law q quiet)) ∙ ap (λ x. is_some (s.held x)) e ∙ legal.1))) (λ _. refl);
  words = λ a _. refl;
  jobs = λ j. job_itself (s.copying.word j);
  rest = refl;
}

-- ---- copiers
-- a job's word goes on, and what copiers have changes
went_on : (s : State) (j w : ℕ) (task : ℕ → Option Task) (length : ℕ → Option ℕ) (read : ℕ → ℕ → Option ℕ) (written : ℕ → ℕ → Bool) → FindsJob (s.copying.word j) w →
    OthersChange s record s { copying = record s.copying { word = put s.copying.word j w; task = task; length = length; read = read; written = written } }
went_on s j w task length read written found = record {
  cells = λ p. finds_same (s.cell p);
  clean = λ _ _. refl;
  words = λ a _. refl;
  jobs = λ i. put_both (λ x. FindsJob (s.copying.word i) x) s.copying.word j w i (λ e. subst (λ k. FindsJob (s.copying.word k) w) (sym e) found) (λ _. job_itself (s.copying.word i));
  rest = refl;
}

-- a copier takes a job
claims : (s : State) (c j old : ℕ) → Legal s (Claim c j old) → OthersChange s (after s (Claim c j old))
claims s c j old (few, low, none, (job, offers), has) = rw offers (cond_both (s.copying.word j == old) (claimed s c j job) s (OthersChange s)
    (λ e.
    let was : job_of (s.copying.word j) ≡ Some (Offered job) = ap job_of (eqb-true (s.copying.word j) old e) ∙ offers in
    let is : job_of (job_word (Taken job c)) ≡ Some (Taken job c) = job_back (Taken job c) ((job_says (s.copying.word j) (Offered job) was).0, few) in
    went_on s j (job_word (Taken job c)) _ _ _ _ (taken_found (s.copying.word j) (job_word (Taken job c)) job c was is))
    (λ _. stays s s refl refl refl refl))

-- and has finished it
finishes : (s : State) → Law s → (c : ℕ) → Legal s (Finish c) → OthersChange s (after s (Finish c))
finishes s law c (t, has, all) =
    let was = law.copies.taken.takes c t has in
    let is : job_of (job_word (Finished t.job c)) ≡ Some (Finished t.job c) = job_back (Finished t.job c) (job_says (s.copying.word t.number) (Taken t.job c) was).0 in
    rw has (went_on s t.number (job_word (Finished t.job c)) _ _ _ _ (finished_found (s.copying.word t.number) (job_word (Finished t.job c)) t.job c was is))

-- it writes a word to the job's target
writes : (s : State) → Law s → (c i : ℕ) → Legal s (Write c i) → OthersChange s (after s (Write c i))
writes s law c i (t, w, has, got) = rw (has, got) (record {
  cells = λ p. finds_same (s.cell p);
  clean = λ _ _. refl;
  words = λ a quiet. put_other s.word (addr t.job.to + 1 + i) w a (λ e. quiet (inr (record {
    number = t.number;
    job = t.job;
    index = i;
    says = task_at s.word s.copying law.copies.taken c t has;
    unfinished = ap is_finished (law.copies.taken.takes c t has);
    inside = (law.copies.taken.fits c i w t has got).0;
    here = e;
  })));
  jobs = λ j. job_itself (s.copying.word j);
  rest = refl;
})

-- what a legal event of an owner or a copier changes
pub change : (s : State) (e : Event) → Law s → is_others e ≡ true → Legal s e → OthersChange s (after s e)
change s (ReadEpoch m) law own legal = stays s (after s (ReadEpoch m)) refl refl refl refl
change s (Open m) law own legal = stays s (after s (Open m)) refl refl refl refl
change s (Pin m p) law own legal = marks s (after s (Pin m p)) law p Hot refl legal.2 refl refl refl refl
change s (Load m p i) law own legal = stays s s refl refl refl refl
change s (Store m p i w) law own legal = stores s law m p i w legal
change s (Soil m p) law own legal = soils s law m p legal
change s (Close m) law own legal = stays s (after s (Close m)) refl refl refl refl
change s (Adopt m p) law own legal = stays s (after s (Adopt m p)) refl refl refl refl
change s (Ask m p k) law own legal = marks s (after s (Ask m p k)) law p k (requests k legal.0) legal.3 refl refl refl refl
change s (Put l at w) law own legal = absurd (false≢true own)
change s (Name p old new) law own legal = absurd (false≢true own)
change s (See p) law own legal = absurd (false≢true own)
change s (Mark p) law own legal = absurd (false≢true own)
change s (Clear p) law own legal = absurd (false≢true own)
change s (Get l at free) law own legal = absurd (false≢true own)
change s (Advance logs) law own legal = absurd (false≢true own)
change s (Look m) law own legal = absurd (false≢true own)
change s (Offer j p to) law own legal = absurd (false≢true own)
change s (PeekJob c j) law own legal = stays s s refl refl refl refl
change s (SeeJob j) law own legal = absurd (false≢true own)
change s (Claim c j old) law own legal = claims s c j old legal
change s (ReadLength c) law own legal = stays s (after s (ReadLength c)) refl refl refl refl
change s (Read c i) law own legal = stays s (after s (Read c i)) refl refl refl refl
change s (Write c i) law own legal = writes s law c i legal
change s (Finish c) law own legal = finishes s law c legal
change s (Collect j old) law own legal = absurd (false≢true own)

-- the same of a step, legal or not
pub step_changes : (s : State) (e : Event) → Law s → is_others e ≡ true → OthersChange s (step_of s e).0
step_changes s e law own = cond_both (is_legal s e) (after s e, answer s e) (s, Refused) (λ (x : State × Reply). OthersChange s x.0)
    (λ h. change s e law own (is_fact s e law h)) (λ _. stays s s refl refl refl refl)

pub made_changes : (s t : State) (e : Event) (r : Reply) → Law s → is_others e ≡ true → (t, r) ≡ step_of s e → OthersChange s t
made_changes s t e r law own is = subst (λ (x : State × Reply). OthersChange s x.0) (sym is) (step_changes s e law own)
