-- What leaves jobs as they are held: nobody offers or empties one, and one that isn't void then wasn't before.
use Rattle.std.proofs.Common.{◌≡◌, ◌≢◌, ◌≤◌, ◌+◌, ℕ, ◌||◌, Bool, true, false, Option, Some, None, List, [], ◌∷◌, length, map, arith, ap, sym, refl, ◌∙◌, subst}
use Rattle.std.specs.List.{range_with_len}
use Rattle.std.specs.Prelude.{slice_index}
use Rattle.std.proofs.lemmas.Bool.{cond_both, false≢true, ne_eqb}
use Rattle.far_word.specs.declared.job.Job.{Job}
use Rattle.far_word.specs.declared.mark.Marks.{Marks}
use Rattle.far_word.specs.declared.pointer.Place.{Place}
use Rattle.far_word.specs.declared.pointer.PtrWord.{PtrWord}
use Rattle.far_word.specs.declared.pointer.PtrWord.TheVariants.{Free, Near, Far}
use Rattle.far_word.specs.Job.{job_of}
use Rattle.far_word.specs.Pointer.{read_of}
use Rattle.far_events.specs.declared.event.Event.TheVariants.{Store}
use Rattle.far_events.specs.declared.event.Reply.{Reply}
use Rattle.far_events.specs.declared.event.Reply.TheVariants.{Refused}
use Rattle.far_events.specs.events.Get.{IsUncopied}
use Rattle.far_events.specs.events.Ranges.{after_events, stores}
use Rattle.far_events.specs.events.Step.{after, answer, is_legal, step_of}
use Rattle.far_events.specs.state.Jobs.{job_said, near_place}
use Rattle.far_events.specs.state.Law.{Law}
use Rattle.far_events.specs.state.State.{State}
use Rattle.far_events.proofs.JobPlaces.{unworded}
use Rattle.far_events.proofs.Put.{put_both}
use Rattle.far_hand.specs.Masked.{AllFindJobs}
use Rattle.far_hand.specs.Others.{OthersChange}
use Rattle.far_hand.proofs.Finding.{place_found}
use Rattle.far_hand.proofs.JobsFound.{empty_found, job_is, job_more, same_job}
use Rattle.far_book.specs.book.Own.{HasNoJob, own_part}
use Rattle.far_book.specs.book.Releasing.{released}
use Rattle.far_book.specs.book.SealedLogs.{KeepsSealed}
use Rattle.far_evac.specs.declared.phase.Phase.{Phase}
use Rattle.far_evac.specs.declared.phase.Phase.TheVariants.{Evacuating}
use Rattle.far_evac.specs.AnyHand.{Knows}
use Rattle.far_evac.specs.RoundSteps.{among}
use Rattle.far_evac.specs.Standing.{HoldsJobs}
use Rattle.far_evac.specs.StillCopies.{StillCopies}
use Rattle.far_evac.proofs.Framed.{framed}

pub record KeepsJobs (s t : State) : Type 0 where
  pub words : AllFindJobs s.copying.word t.copying.word
  pub still : (j : ℕ) (job : Job) → StillCopies t j job → StillCopies s j job

pub jobs_more : (s t u : State) → KeepsJobs s t → KeepsJobs t u → KeepsJobs s u
jobs_more s t u f g = record {
  words = λ j. job_more (s.copying.word j) (t.copying.word j) (u.copying.word j) (f.words j) (g.words j);
  still = λ j job h. f.still j job (g.still j job h);
}

-- ---- none is offered
no_job : (s : State) → HasNoJob s → (j : ℕ) (job : Job) → StillCopies s j job → ⊥
no_job s none j job h = let odd : None ≡ Some job = sym (ap (λ w. job_said (job_of w)) (none j) ∙ ap job_said unworded) ∙ h.says in absurd cc

-- no job reads or writes a log
pub none_copied : (s : State) → HasNoJob s → (l : ℕ) → IsUncopied s.copying l
none_copied s none l j job at = let odd : None ≡ Some job = sym (ap (λ w. job_said (job_of w)) (none j) ∙ ap job_said unworded) ∙ at in absurd cc

-- so what is said of one that isn't void is so
pub none_held : (s : State) (phase : Phase) (held : List ℕ) → HasNoJob s → (j : ℕ) (job : Job) → StillCopies s j job → (phase ≡ Evacuating) × (among held job.from.log ≡ true)
none_held s phase held none j job h = absurd (no_job s none j job h)

-- ---- a job was such before
module _ (s t : State) (words : AllFindJobs s.copying.word t.copying.word) (since : t.copying.since ≡ s.copying.since) (epoch : t.round_epoch ≡ s.round_epoch) (j : ℕ) (job : Job)
    (round : t.round job.from.log ≡ true → s.round job.from.log ≡ true)
    (lies : near_place (read_of (t.cell job.pointer)) ≡ Some job.from → t.round job.from.log ≡ true → near_place (read_of (s.cell job.pointer)) ≡ Some job.from) where
  pub still_before : StillCopies t j job → StillCopies s j job
  still_before h = record {
    says = sym (same_job (s.copying.word j) (t.copying.word j) (words j)) ∙ h.says;
    good = (sym (ap (λ (f : ℕ → ℕ). f j) since) ∙ h.good.0 ∙ epoch, round h.good.1);
    lies = lies h.lies h.good.1;
  }

-- ---- what keeps jobs
pub keeps_same : (s : State) → KeepsJobs s s
keeps_same s = record { words = λ j. job_is (s.copying.word j) (s.copying.word j) refl; still = λ j job h. h }

-- marks were found, and words read or forgotten
pub knows_jobs : (s t : State) → Knows s t → KeepsJobs s t
knows_jobs s t known =
    let words : AllFindJobs s.copying.word t.copying.word = λ j. job_is (s.copying.word j) (t.copying.word j) (ap (λ (u : State). u.copying.word j) known.rest) in record {
      words = words;
      still = λ j job. still_before s t words (ap (λ (u : State). u.copying.since) known.rest) (ap (λ (u : State). u.round_epoch) known.rest) j job
          (λ is. sym (ap (λ (u : State). u.round job.from.log) known.rest) ∙ is)
          (λ is _. place_found (s.cell job.pointer) (t.cell job.pointer) (known.found job.pointer) ∙ is);
    }

-- owners or copiers had a turn
pub keeps_others : (s t : State) → OthersChange s t → KeepsJobs s t
keeps_others s t change = record {
  words = change.jobs;
  still = λ j job. still_before s t change.jobs (ap (λ (u : State). u.copying.since) change.rest) (ap (λ (u : State). u.round_epoch) change.rest) j job
      (λ is. sym (ap (λ (u : State). u.round job.from.log) change.rest) ∙ is)
      (λ is _. place_found (s.cell job.pointer) (t.cell job.pointer) (change.cells job.pointer) ∙ is);
}

-- words were stored
module _ (m p first : ℕ) (words : List ℕ) where
  keeps_word : (s : State) (word : ℕ → ℕ) → KeepsJobs s (record s { word = word })
  keeps_word s word = record { words = λ j. job_is (s.copying.word j) (s.copying.word j) refl; still = λ j job h. record { says = h.says; good = h.good; lies = h.lies } }

  one_store : (s : State) (i w : ℕ) → KeepsJobs s (step_of s (Store m p i w)).0
  one_store s i w = cond_both (is_legal s (Store m p i w)) (after s (Store m p i w), answer s (Store m p i w)) (s, Refused) (λ (x : State × Reply). KeepsJobs s x.0)
      (λ _. keeps_word s _) (λ _. keeps_same s)

  keeps_stores : (s : State) (is : List ℕ) → KeepsJobs s (after_events s (map (λ i. Store m p (first + i) (slice_index words i)) is))
  keeps_stores s [] = keeps_same s
  keeps_stores s (i ∷ is) =
      let next = (step_of s (Store m p (first + i) (slice_index words i))).0 in
      jobs_more s next (after_events next (map (λ k. Store m p (first + k) (slice_index words k)) is)) (one_store s (first + i) (slice_index words i)) (keeps_stores next is)

pub keeps_stored : (s t : State) (m p first : ℕ) (words : List ℕ) → t ≡ after_events s (stores m p first words) → KeepsJobs s t
keeps_stored s t m p first words is = subst (KeepsJobs s) (sym is) (keeps_stores m p first words s (range_with_len 0 (length words)))

-- where an object lies near
pub record LiesNear (o : Option PtrWord) (place : Place) : Type 0 where
  pub len : ℕ
  pub ds : ℕ
  pub marks : Marks
  pub near : o ≡ Some (Near len ds place marks)

pub lies_near : (o : Option PtrWord) (place : Place) → near_place o ≡ Some place → LiesNear o place
lies_near None place e = absurd cc
lies_near (Some Free) place e = absurd cc
lies_near (Some (Near len ds at m)) place e = let same : at ≡ place = cc in record { len = len; ds = ds; marks = m; near = ap (λ x. Some (Near len ds x m)) same }
lies_near (Some (Far len ds m)) place e = absurd cc

-- an object came to a log that isn't sealed, or left
pub keeps_named : (s t : State) → Law (own_part s) → KeepsSealed s t → t ≡ framed s t → KeepsJobs s t
keeps_named s t law keeps frame =
    let words : AllFindJobs s.copying.word t.copying.word = λ j. job_is (s.copying.word j) (t.copying.word j) (ap (λ (u : State). u.copying.word j) frame) in record {
      words = words;
      still = λ j job. still_before s t words (ap (λ (u : State). u.copying.since) frame) (ap (λ (u : State). u.round_epoch) frame) j job
          (λ is. sym (ap (λ (u : State). u.round job.from.log) frame) ∙ is)
          (λ is in_round.
          let x = lies_near (read_of (t.cell job.pointer)) job.from is in
          let sealed = law.rounds.round_sealed job.from.log (sym (ap (λ (u : State). u.round job.from.log) frame) ∙ in_round) in
          let was = keeps.near job.pointer x.len x.ds job.from x.marks x.near sealed in
          ap near_place was.1);
    }

-- a log was given back
pub keeps_released : (s : State) (l : ℕ) → KeepsJobs s (released s l)
keeps_released s l =
    let words : AllFindJobs s.copying.word s.copying.word = λ j. job_is (s.copying.word j) (s.copying.word j) refl in record {
      words = words;
      still = λ j job. still_before s (released s l) words refl refl j job
          (put_both (λ b. b ≡ true → s.round job.from.log ≡ true) s.round l false job.from.log (λ _ odd. absurd (false≢true odd)) (λ _ is. is))
          (λ is _. is);
    }

-- ---- what is held stays so
module _ (s t : State) (copying : Bool) (keeps : KeepsJobs s t) where
  pub alone_kept : (copying ≡ false → HasNoJob s) → copying ≡ false → HasNoJob t
  alone_kept alone e j = empty_found (s.copying.word j) (t.copying.word j) (keeps.words j) (alone e j)

  pub jobs_kept : (phase : Phase) (held : List ℕ) → HoldsJobs s copying phase held → HoldsJobs t copying phase held
  jobs_kept phase held h = record { alone = alone_kept h.alone; held = λ j job still. h.held j job (keeps.still j job still) }

  -- where no objects left before, whatever the phase is then
  pub jobs_left : (phase later : Phase) (held left : List ℕ) → phase ≢ Evacuating → HoldsJobs s copying phase held → HoldsJobs t copying later left
  jobs_left phase later held left other h = record { alone = alone_kept h.alone; held = λ j job still. absurd (other (h.held j job (keeps.still j job still)).0) }

  -- where a log of the collection set is out of the round, and not in the set any more
  pub jobs_freed : (phase : Phase) (l : ℕ) (ls : List ℕ) → t.round l ≡ false → HoldsJobs s copying phase (l ∷ ls) → HoldsJobs t copying phase ls
  jobs_freed phase l ls out h = record {
    alone = alone_kept h.alone;
    held = λ j job still.
        let x = h.held j job (keeps.still j job still) in
        let other : job.from.log ≢ l = λ e. false≢true (sym out ∙ sym (ap t.round e) ∙ still.good.1) in
        (x.0, sym (ap (λ b. b || among ls job.from.log) (ne_eqb job.from.log l other)) ∙ x.1);
  }

-- once no log is in the collection set
pub jobs_over : (s : State) (copying : Bool) (phase later : Phase) → HoldsJobs s copying phase [] → HoldsJobs s copying later []
jobs_over s copying phase later h = record { alone = h.alone; held = λ j job still. absurd (false≢true (h.held j job still).1) }

-- ---- the epoch rises
module _ (s : State) (law : Law (own_part s)) (t : State) (since : t.copying.since ≡ s.copying.since) (rises : t.round_epoch ≡ s.epoch + 1) where
  pub none_copies : (j : ℕ) (job : Job) → StillCopies t j job → ⊥
  none_copies j job h = let old : s.copying.since j ≤ s.round_epoch = law.copies.good.begun j in omega (arith, old, ap (λ (f : ℕ → ℕ). f j) since, h.good.0, rises, law.rounds.own_epoch)
