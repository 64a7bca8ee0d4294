-- What the struct of a copier's seat keeps over a step, for all kinds of step, and what is so of a job that it has.
use Rattle.std.proofs.Common.{◌≡◌, ◌≢◌, ◌+◌, ◌*◌, ◌^◌, ◌<◌, ◌≤◌, ℕ, zero, suc, List, true, refl, sym, ap, ◌∙◌, subst, arith, inl, inr, Option, Some, None}
use Rattle.std.specs.Prelude.{◌-◌, IsSome, option_map}
use Rattle.std.proofs.Math.Logic.{∥∥₁_elim}
use Rattle.std.proofs.Props.{props}
use mathlib.Core.Option.{some}
use lib.ListN.{get_elem?}
use Rattle.atomic_table.proofs.Lists.{set_here}
use Rattle.atomic_table.specs.Seated.{TableId}
use Rattle.far_word.specs.declared.job.JobWord.TheVariants.{Offered, Taken}
use Rattle.far_word.specs.declared.sizes.TheConstants.{JOBS, LOG_WORDS, MOST_COPIERS, MOST_LOGS}
use Rattle.far_word.specs.Job.{job_in, job_of, job_sum}
use Rattle.far_word.specs.Sizes.{words_for}
use Rattle.far_word.proofs.JobLaws.{job_says}
use Rattle.far_events.specs.declared.event.Event.{Event}
use Rattle.far_events.specs.declared.event.Event.TheVariants.{PeekJob, Read, Write}
use Rattle.far_events.specs.declared.event.Reply.{Reply}
use Rattle.far_events.specs.declared.event.Reply.TheVariants.{Done, Word}
use Rattle.far_events.specs.declared.event.Task.{Task}
use Rattle.far_events.specs.events.Step.{after}
use Rattle.far_events.specs.state.Jobs.{is_finished, job_said}
use Rattle.far_events.specs.state.State.{State, addr}
use Rattle.far_core.proofs.JobLaws.{jobs_stand}
use Rattle.far_events.proofs.JobPlaces.{source_lies, task_lies}
use Rattle.far_events.proofs.Put.{put_both, put_other, put_same}
use Rattle.far_table.specs.CopierViews.{word_read_view, word_written_view, words_read, words_written}
use Rattle.far_table.specs.CopySeats.{CopiedNext, CopyJob, IsCopied, IsJobOf, IsKept, IsTakenBy, Missed, MissedFirst, OnlyLooked, OnlyWord, copied_on, first_at, job_kept}
use Rattle.far_table.specs.Layout.{table_words, data_at, job_at}
use Rattle.far_table.specs.Seats.{CopierSeated}
use Rattle.far_table.specs.StateOf.{state_of}
use Rattle.far_table.specs.Tells.{CopierMade, CopierMayBe, CopierStands, CopierTells, copier_of}
use Rattle.far_table.specs.View.{CopierView, OtherViews, View, Copier, with_copier}
use Rattle.far_table.proofs.CopyFrames.{copier_is}
use Rattle.far_table.proofs.CopySteps.{has, knows, task_fits}
use Rattle.far_table.proofs.Places.{below}

-- ---- the struct
abbrev pub CopierOk : TableId → TableId → View → ℕ → ℕ → Type 0
CopierOk id here v taking finishing = (id ≡ here) × (id.words ≡ table_words (copier_of v).logs) × (v ≡ Copier (copier_of v)) × (taking ≡ (copier_of v).number * 2 ^ 58 + 1 * 2 ^ 62)
    × (finishing ≡ (copier_of v).number * 2 ^ 58 + 2 * 2 ^ 62) × ((copier_of v).number < MOST_COPIERS) × CopierStands (copier_of v)

-- a call left a state beside the view
copier_left : (e : Event) (v : CopierView) (r : Reply) (w : CopierView) → CopierMade e v r w → CopierStands w
copier_left e v r w made =
    let others : OtherViews = with_copier made.others v.number w in
    let here : get_elem? others.copiers v.number ≡ some w = set_here made.others.copiers v.number w (below made.others.copiers v.number v made.stands) in
    let number : w.number ≡ v.number = made.keeps.copiers v.number w here in
    ∣ (state_of made.later made.book others, record { words = made.later; book = made.book; others = others; facts = made.keeps; stands = ap (get_elem? others.copiers) number ∙ here; is = refl }) ∣₁

-- and as many logs
logs_kept : (e : Event) (v : CopierView) (r : Reply) (w : CopierView) → CopierMade e v r w → v.logs ≡ w.logs
logs_kept e v r w made = made.facts.copier_logs v.number v made.stands
    ∙ sym (made.keeps.copier_logs v.number w (set_here made.others.copiers v.number w (below made.others.copiers v.number v made.stands)))

pub copier_stays : (id later here : TableId) (v v' : View) (taking finishing : ℕ) (e : Event) (r : Reply) (w : CopierView) → CopierOk id here v taking finishing → later ≡ id →
    CopierTells v v' e r w → CopierOk later here v' taking finishing
copier_stays id later here v v' taking finishing e r w i same t =
    let view : copier_of v' ≡ w = ap copier_of t.after_is in
    let number : (copier_of v).number ≡ (copier_of v').number = sym (ap (λ (z : CopierView). z.number) view ∙ t.number) in (
      same ∙ i.0,
      ap (λ (z : TableId). z.words) same ∙ (i.1 ∙ ap (λ n. table_words n) (logs_kept e (copier_of v) r w t.made ∙ ap (λ (z : CopierView). z.logs) (sym view))),
      t.after_is ∙ ap (λ z. Copier (copier_of z)) (sym t.after_is),
      i.3 ∙ ap (λ n. n * 2 ^ 58 + 1 * 2 ^ 62) number,
      i.4 ∙ ap (λ n. n * 2 ^ 58 + 2 * 2 ^ 62) number,
      subst (λ n. n < MOST_COPIERS) number i.5,
      subst CopierStands (sym view) (copier_left e (copier_of v) r w t.made),
    )

-- the event that a step tells of, as a caller names it
pub copier_made : (v v' : View) (old : CopierView) (e : CopierView → Event) (r : Reply) (w : CopierView) → copier_of v ≡ old → CopierTells v v' (e (copier_of v)) r w → CopierMade (e old) old r (copier_of v')
copier_made v v' old e r w is t = subst (λ z. CopierMade (e z) z r (copier_of v')) is (subst (λ z. CopierMade (e (copier_of v)) (copier_of v) r z) (sym (ap copier_of t.after_is)) t.made)

-- ---- looks
-- what looks have found is all that changes
looked_on : (v u w : CopierView) (rows : List (ℕ × ℕ)) → OnlyLooked v u → w ≡ record u { seen = rows } → OnlyLooked v w
looked_on v u w rows only is = is ∙ ap (λ (z : CopierView). record z { seen = rows }) only ∙ ap (λ r. record v { seen = r }) (sym (ap (λ (z : CopierView). z.seen) is))

missed_on : (j : ℕ) (v u w : CopierView) → OnlyLooked v u → Missed j u w → OnlyLooked v w
missed_on j v u w only m = elim m.2 [
  | inl none ↦ looked_on v u w _ only none.1
  | inr lost ↦ looked_on v u w _ only lost.3
]

pub missed_only : (n : ℕ) (v w : CopierView) → MissedFirst n v w → OnlyLooked v w
missed_only zero v w same = same ∙ ap (λ r. record v { seen = r }) (sym (ap (λ (z : CopierView). z.seen) same))
missed_only (suc n) v w h = missed_on n v h.0 w (missed_only n v h.0 h.1) h.2

pub still_free : (n : ℕ) (v w : CopierView) → MissedFirst n v w → v.task ≡ None → w.task ≡ None
still_free n v w h free = ap (λ (z : CopierView). z.task) (missed_only n v w h) ∙ free

-- as many jobs, by another number
pub missed_as : (n m : ℕ) (v w : CopierView) → n ≡ m → MissedFirst n v w → MissedFirst m v w
missed_as n m v w same h = subst (λ k. MissedFirst k v w) same h

-- one job more
pub missed_more : (n : ℕ) (v u w : CopierView) → MissedFirst n v u → Missed n u w → MissedFirst (n + 1) v w
missed_more n v u w first m = let one : suc n ≡ n + 1 = omega arith in subst (λ k. MissedFirst k v w) one (u, first, m)

-- the view after, as a caller names the one before
pub view_after : (v v' : View) (old : CopierView) (e : Event) (r : Reply) (w : CopierView → CopierView) → copier_of v ≡ old → CopierTells v v' e r (w (copier_of v)) → copier_of v' ≡ w old
view_after v v' old e r w is t = ap copier_of t.after_is ∙ ap w is

-- ---- the words of a job
-- a copier adds its number and a stage or two to the word that offers it
pub staged_word : (word c add stages : ℕ) → job_of word ≡ Some (Offered (job_in word)) → c < MOST_COPIERS → stages ≤ 2 → add ≡ c * 2 ^ 58 + stages * 2 ^ 62 →
    (word + add ≡ job_sum (job_in word) c (1 + stages)) × (word + add < 2 ^ 64)
staged_word word c add stages offers few two is =
    let said = job_says word (Offered (job_in word)) offers in
    let sum = said.1 in
    let cell = said.0.cell in
    let from = said.0.from in
    let to = said.0.to in
    (omega (arith, sum, is), omega (arith, sum, is, cell, from, to))

-- a word that was peeked reads
pub peeked_reads : (j n : ℕ) (v w : CopierView) → CopierMade (PeekJob v.number j) v (Word n) w → IsSome (job_of n)
peeked_reads j n v w made =
    let x : State = state_of made.words made.book made.others in
    let both : Word n ≡ Word (x.copying.word j) = made.says in
    let is : n ≡ x.copying.word j = cc in
    subst (λ k. IsSome (job_of k)) (sym is) (made.facts.law.copies.jobs.job_read j).1

-- ---- what a job keeps
module _ (at offered from to end : ℕ) (k : IsKept at offered from to end) where
  abbrev kept : CopyJob
  kept = job_kept at offered from end

  -- where the next words of source and target stand
  pub next_from : from ≡ data_at (addr kept.task.job.from + 1 + kept.copied)
  next_from = omega (arith, k.begun)

  pub next_to : to ≡ data_at (addr kept.task.job.to + 1 + kept.copied)
  next_to = omega (arith, k.begun, k.along)

  pub some_left : from ≢ end → kept.copied < kept.words
  some_left ne = omega (arith, k.begun, k.some, ne)

  -- and the job's word
  pub word_stands : at ≡ job_at kept.task.number
  word_stands = omega (arith, k.low)

  -- a word more is copied
  pub kept_on : job_kept at offered (from + 1) end ≡ copied_on kept
  kept_on = let one : from + 1 - first_at (job_in offered).from ≡ from - first_at (job_in offered).from + 1 = omega (arith, k.begun) in λ i. record kept { copied = one i }

-- the job of a call, as its seat has it
pub own_here : {job job' : CopyJob} {z z' : CopierSeated} → job ≡ job' → z ≡ z' → IsJobOf job' z'.view → IsJobOf job z.view
own_here e f own = subst (λ (x : CopyJob × CopierSeated). IsJobOf x.0 x.1.view) (λ i. (sym e i, sym f i)) own

-- ---- where the words of its job stand
pub task_within : (v : CopierView) (t : Task) → CopierStands v → v.task ≡ Some t → (t.number < JOBS) × (addr t.job.from < v.logs * LOG_WORDS)
task_within v t there task = ∥∥₁_elim there (hlevel props) (λ (x : (s : State) × CopierMayBe v s).
    let may = x.1 in
    let s : State = state_of may.words may.book may.others in
    let k = has may.words may.book may.others may.facts v may.stands t task in
    let source = (source_lies s may.facts.law v.number t k).0 in
    let many = may.facts.copier_logs v.number v may.stands in
    ((task_lies s may.facts.law v.number t k).0, omega (arith, source, many)))

-- the length of which the words are
length_of : (x : Option ℕ) (w : ℕ) → option_map words_for x ≡ Some w → (n : ℕ) × (x ≡ Some n) × (words_for n ≡ w)
length_of None w e = absurd cc
length_of (Some n) w e = let is : words_for n ≡ w = cc in (n, refl, is)

module _ (v : CopierView) (job : CopyJob) (own : IsJobOf job v) where
  pub len : (n : ℕ) × (v.length ≡ Some n) × (words_for n ≡ job.words)
  len = length_of v.length job.words own.long

  pub job_fits : CopierStands v → (addr job.task.job.from + 1 + job.words ≤ MOST_LOGS * LOG_WORDS) × (addr job.task.job.to + 1 + job.words ≤ MOST_LOGS * LOG_WORDS)
      × (addr job.task.job.from + 1 + job.words ≤ v.logs * LOG_WORDS) × (addr job.task.job.to + 1 + job.words ≤ v.logs * LOG_WORDS)
  job_fits there = ∥∥₁_elim there (hlevel props) (λ (x : (s : State) × CopierMayBe v s).
      let may = x.1 in
      let k = has may.words may.book may.others may.facts v may.stands job.task own.task in
      let long = may.facts.law.copies.taken.long v.number len.0 job.task k (ap (λ (y : CopierView). y.length) (copier_is may.others.copiers v.number v v may.stands) ∙ len.1) in
      let words = sym len.2 ∙ ap words_for long in
      let fits = task_fits may.words may.book may.others may.facts v may.stands job.task own.task in
      let many = may.facts.copier_logs v.number v may.stands in
      (omega (arith, fits.0, words), omega (arith, fits.1, words), omega (arith, fits.2, words, many), omega (arith, fits.3, words, many)))

  pub all_written : IsCopied job → (i : ℕ) → i < words_for len.0 → words_written v i ≡ true
  all_written whole i low = own.written i (let words = len.2 in omega (arith, whole, words, low))

  -- it is the copier's alone
  pub taken_by : (s : State) → CopierMayBe v s → IsTakenBy v.number job s
  taken_by s may =
      let x : State = state_of may.words may.book may.others in
      let k = has may.words may.book may.others may.facts v may.stands job.task own.task in
      let taken = may.facts.law.copies.taken in
      let says = taken.takes v.number job.task k in
      let long = taken.long v.number len.0 job.task k (ap (λ (y : CopierView). y.length) (copier_is may.others.copiers v.number v v may.stands) ∙ len.1) in
      let at : job_said (job_of (x.copying.word job.task.number)) ≡ Some job.task.job = ap job_said says in
      let stands = jobs_stand x may.facts.law in
      subst (IsTakenBy v.number job) (sym may.is) record {
        says = says;
        has = k;
        alone = λ d t other same.
            let both : Some (Taken t.job d) ≡ Some (Taken job.task.job v.number) = sym (taken.takes d t other) ∙ ap (λ j. job_of (x.copying.word j)) same ∙ says in cc;
        words = sym len.2 ∙ ap words_for long;
        logs = stands.logs job.task.number job.task.job at;
        stay = λ l word which legal. let none = legal.2.2 job.task.number job.task.job at in elim which [
          | inl e ↦ none.0 (sym e)
          | inr e ↦ none.1 (sym e)
        ];
        nobodys = stands.dead job.task.number job.task.job at (may.facts.law.copies.jobs.unfinished_unnamed job.task.number job.task.job at (ap is_finished says));
      }

-- a write changes the next word of the target alone
pub only_word : (v : CopierView) (t : Task) (i w : ℕ) → v.task ≡ Some t → words_read v i ≡ Some w → (s : State) → CopierMayBe v s → OnlyWord (addr t.job.to + 1 + i) w s (after s (Write v.number i))
only_word v t i w task got s may =
    let x : State = state_of may.words may.book may.others in
    let k = has may.words may.book may.others may.facts v may.stands t task in
    let r = knows may.words may.book may.others may.facts v may.stands t task i w got in
    subst (λ (z : State). OnlyWord (addr t.job.to + 1 + i) w z (after z (Write v.number i))) (sym may.is)
    (rw (k, r) record { here = put_same x.word (addr t.job.to + 1 + i) w _ refl; words = λ b ne. put_other x.word (addr t.job.to + 1 + i) w b ne; rest = (refl, refl, refl, refl) })

-- ---- a word is copied: it was read, and then written
module _ (v mid : View) (job : CopyJob) (own : IsJobOf job (copier_of v)) (word : ℕ) (reads : CopierTells v mid (Read (copier_of v).number job.copied) (Word word) (word_read_view job.copied word (copier_of v))) where
  abbrev between : CopierView
  between = word_read_view job.copied word (copier_of v)

  pub read_on : copier_of mid ≡ between
  read_on = ap copier_of reads.after_is

  pub task_on : (copier_of mid).task ≡ Some job.task
  task_on = ap (λ (z : CopierView). z.task) read_on ∙ own.task

  pub got_on : words_read (copier_of mid) job.copied ≡ Some word
  got_on = ap (λ (z : CopierView). words_read z job.copied) read_on ∙ put_same (words_read (copier_of v)) job.copied (Some word) job.copied refl

  module _ (v' : View) (writes : CopierTells mid v' (Write (copier_of mid).number job.copied) Done (word_written_view job.copied (copier_of mid))) where
    written_on : copier_of v' ≡ word_written_view job.copied between
    written_on = ap copier_of writes.after_is ∙ ap (word_written_view job.copied) read_on

    pub own_on : job.copied ≢ job.words → IsJobOf (copied_on job) (copier_of v')
    own_on left = subst (IsJobOf (copied_on job)) (sym written_on) record {
      task = own.task;
      long = own.long;
      some = let most = own.some in omega arith;
      written = λ i lt. put_both (λ b. b ≡ true) (words_written (copier_of v)) job.copied true i (λ _. refl) (λ ne. own.written i (omega (arith, lt)));
    }

    pub copied_next : CopiedNext job (copier_of v) (copier_of v')
    copied_next = record {
      word = word;
      reads = reads.made;
      writes = subst (λ (z : CopierView × CopierView). CopierMade (Write z.0.number job.copied) z.0 Done z.1) (λ i. (read_on i, sym (ap copier_of writes.after_is) i)) writes.made;
      view = written_on;
      alone = only_word between job.task job.copied word own.task (put_same (words_read (copier_of v)) job.copied (Some word) job.copied refl);
    }
