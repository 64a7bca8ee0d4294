-- A log may be given back where its book gives it back.
use Rattle.std.proofs.Common.{◌≡◌, ◌≢◌, ◌++◌, ◌↔◌, ◌==◌, ◌+◌, ◌<◌, ◌≤◌, ℕ, zero, suc, Bool, true, false, cond, None, Some, Option, List, [], ◌∷◌, filter, length, arith, ap, sym, refl, ◌∙◌, subst}
use Rattle.std.proofs.lemmas.Bool.{and_from, and_parts, eq-eqb, false_from_ne_true, ne_eqb, true≢false}
use Rattle.std.proofs.lemmas.List.{length-append}
use Rattle.far_word.specs.declared.job.Job.{Job}
use Rattle.far_word.specs.declared.refused.Refused.{Refused}
use Rattle.far_word.specs.declared.sizes.TheConstants.{JOBS}
use Rattle.far_word.specs.Job.{job_of}
use Rattle.far_word.specs.Pointer.{read_of}
use Rattle.far_log.specs.declared.span.Span.{Span}
use Rattle.far_events.specs.events.Get.{IsUncopied, IsVacant, is_copied_at, none_copied}
use Rattle.far_events.specs.state.Jobs.{job_at, job_said}
use Rattle.far_events.specs.state.Law.{Law}
use Rattle.far_events.specs.state.Spans.{is_live, spans_of}
use Rattle.far_events.specs.state.State.{Copying, State}
use Rattle.far_events.proofs.JobPlaces.{unworded}
use Rattle.far_events.proofs.events.Get.{copied_at}
use Rattle.far_book.specs.book.BookOf.{BookOf}
use Rattle.far_book.specs.book.Own.{own_part}
use Rattle.far_book.specs.book.Releasing.{order_without, released}
use Rattle.far_book.proofs.region.Untaken.{untaken_said}
use Rattle.far_evac.specs.declared.answers.Progress.{Progress}
use Rattle.far_evac.specs.AnyHand.{Knows, KnowsWalked}
use Rattle.far_evac.specs.declared.evac.beside.Passage.{Passage}
use Rattle.far_evac.specs.declared.evac.beside.Passage.TheVariants.{Fails, On, Stops}
use Rattle.far_evac.specs.Beside.{At, Behind, freed_if, may_free}
use Rattle.far_evac.specs.BookStands.{end_of, is_failed, stands}
use Rattle.far_evac.specs.Live.{is_empty, live_in, pointers_of}
use Rattle.far_evac.specs.Moment.{Tally, objects_in, tally_of}
use Rattle.far_evac.specs.Walk.{Walked, freed}
use Rattle.far_evac.proofs.Bools.{or_left, or_right}
use Rattle.far_evac.proofs.Fronts.{vacant_in}
use Rattle.far_evac.proofs.LiveOnce.{near_at}
use Rattle.far_evac.proofs.SmallSteps.{none_there}

-- ---- where no object lies, none is live
none_passes : (f : Span → Bool) (xs : List Span) → ((x : Span) → f x ≡ false) → filter f xs ≡ []
none_passes f [] h = refl
none_passes f (x ∷ xs) h = ap (λ b. cond b (x ∷ filter f xs) (filter f xs)) (h x) ∙ none_passes f xs h

none_live : (s : State) (l : ℕ) → IsVacant s l → live_in s l ≡ []
unfolding live_in
none_live s l vacant = ap pointers_of (none_passes (is_live s l) (spans_of s l) (λ x. false_from_ne_true (is_live s l x) (λ live.
    let n = near_at (read_of (s.cell x.p)) l x.at live in vacant x.p n.len n.ds n.place n.marks n.near n.log)))

-- ---- which jobs read or write it
uncopied_all : (k : Copying) (l n : ℕ) → ((j : ℕ) → is_copied_at l (job_at k.word j) ≡ false) → none_copied k l n ≡ true
uncopied_all k l zero h = refl
uncopied_all k l (suc n) h = rw (uncopied_all k l n h, h n) refl

neither_end : (l : ℕ) (o : Option Job) → ((job : Job) → o ≡ Some job → (job.from.log ≢ l) × (job.to.log ≢ l)) → is_copied_at l o ≡ false
neither_end l None h = refl
neither_end l (Some job) h = rw (ne_eqb job.from.log l (h job refl).0, ne_eqb job.to.log l (h job refl).1) refl

ends_apart : (l : ℕ) (job : Job) → is_copied_at l (Some job) ≡ false → (job.from.log ≢ l) × (job.to.log ≢ l)
ends_apart l job none = (
  λ e. true≢false (sym (or_left (job.from.log == l) (job.to.log == l) (eq-eqb job.from.log l e)) ∙ none),
  λ e. true≢false (sym (or_right (job.from.log == l) (job.to.log == l) (eq-eqb job.to.log l e)) ∙ none),
)

-- where nothing lies in a log, and no job reads or writes it, it may be given back
pub so_may : (s : State) (l : ℕ) → IsVacant s l → IsUncopied s.copying l → may_free s l ≡ true
so_may s l vacant apart =
    and_from (is_empty (live_in s l)) (none_copied s.copying l JOBS) (ap is_empty (none_live s l vacant))
    (uncopied_all s.copying l JOBS (λ j. neither_end l (job_at s.copying.word j) (apart j)))

module _ (s : State) (law : Law (own_part s)) (l : ℕ) where
  in_range : (j : ℕ) (job : Job) → job_at s.copying.word j ≡ Some job → j < JOBS
  in_range j job at = law.copies.jobs.job_range j (λ none.
      let odd : None ≡ Some job = sym (ap job_said unworded) ∙ sym (ap (λ w. job_said (job_of w)) none) ∙ untaken_said (s.copying.word j) ∙ at in cc)

  uncopied : none_copied s.copying l JOBS ≡ true → IsUncopied s.copying l
  uncopied none j job at =
      let apart = false_from_ne_true (is_copied_at l (job_at s.copying.word j)) (λ there. true≢false (sym none ∙ copied_at s.copying l JOBS j (in_range j job at) there)) in
      ends_apart l job (ap (is_copied_at l) (sym at) ∙ apart)

  may_so : may_free s l ≡ true → IsVacant s l × IsUncopied s.copying l
  may_so may =
      let both = and_parts (is_empty (live_in s l)) (none_copied s.copying l JOBS) may in
      (vacant_in s law l 0 (λ p len ds place marks near log. omega arith) (none_there (live_in s l) both.0), uncopied both.1)

  -- the book gives it back exactly then
  pub frees_so : (freed : Bool) → (freed ≡ true) ↔ (IsVacant s l × IsUncopied s.copying l) → freed ≡ may_free s l
  frees_so true so = let is = so.0 refl in sym (so_may s l is.0 is.1)
  frees_so false so = sym (false_from_ne_true (may_free s l) (λ may. true≢false (sym (so.1 (may_so may)))))

-- ---- so a walk stands as it is told
pub freed_when : (w t : Walked) (l : ℕ) → may_free w.moment.core l ≡ true → KnowsWalked (freed w l) t → KnowsWalked (freed_if w l) t
freed_when w t l may known = subst (λ b. KnowsWalked (cond b (freed w l) w) t) (sym may) known

pub kept_when : (w t : Walked) (l : ℕ) → may_free w.moment.core l ≡ false → KnowsWalked w t → KnowsWalked (freed_if w l) t
kept_when w t l may known = subst (λ b. KnowsWalked (cond b (freed w l) w) t) (sym may) known

pub freed_stands : {N D : Type 0} (view : N → State) (old new : BookOf N D) (before after : Progress) (held : List ℕ) (l : ℕ) → Knows (released (view old.near) l) (view new.near) → new.order ≡ order_without l old.order →
    tally_of after ≡ record (tally_of before) { freed = (tally_of before).freed + 1 } → KnowsWalked (freed (stands view old before held) l) (stands view new after held)
freed_stands view old new before after held l known order tally = record {
  moment = record { core = known; rest = λ i. record (stands view new after held).moment { order = order i } };
  tally = tally;
}

-- and what is known of the core then, and counted
core_by_test : (b : Bool) (w t : Walked) (l : ℕ) → KnowsWalked (cond b (freed w l) w) t → Knows (cond b (released w.moment.core l) w.moment.core) t.moment.core
core_by_test true w t l h = h.moment.core
core_by_test false w t l h = h.moment.core

pub core_if : (w t : Walked) (l : ℕ) → KnowsWalked (freed_if w l) t → Knows (cond (may_free w.moment.core l) (released w.moment.core l) w.moment.core) t.moment.core
core_if w t l h = core_by_test (may_free w.moment.core l) w t l h

counts_by_test : (b : Bool) (w t : Walked) (l : ℕ) → KnowsWalked (cond b (freed w l) w) t → (objects_in t.tally ≡ objects_in w.tally) × (t.tally.freed ≤ w.tally.freed + 1)
counts_by_test true w t l h = (ap objects_in h.tally, subst (λ (x : Tally). x.freed ≤ w.tally.freed + 1) (sym h.tally) (omega arith))
counts_by_test false w t l h = (ap objects_in h.tally, subst (λ (x : Tally). x.freed ≤ w.tally.freed + 1) (sym h.tally) (omega arith))

pub counts_if : (w t : Walked) (l : ℕ) → KnowsWalked (freed_if w l) t → (objects_in t.tally ≡ objects_in w.tally) × (t.tally.freed ≤ w.tally.freed + 1)
counts_if w t l h = counts_by_test (may_free w.moment.core l) w t l h

pub few_if : (b : Bool) (kept next : List ℕ) (l i : ℕ) → next ≡ cond b kept (kept ++ l ∷ []) → length kept ≤ i → length next ≤ i + 1
few_if true kept next l i is few = let same = ap length is in omega (arith, same, few)
few_if false kept next l i is few = let same = ap length is ∙ length-append kept (l ∷ []) in omega (arith, same, few)

pub not_behind : (x : Passage) → x ≢ On → end_of x ≢ Behind
not_behind On other e = other refl
not_behind Stops other e = absurd cc
not_behind (Fails p why) other e = absurd cc

-- ---- where none was refused
pub not_refused : (x : Passage) → ((p : ℕ) (why : Refused) → x ≢ Fails p why) → (p : ℕ) (why : Refused) → end_of x ≡ At p why → ⊥
not_refused On other p why e = absurd cc
not_refused Stops other p why e = absurd cc
not_refused (Fails q cause) other p why e = other q cause refl

pub none_failed : (x : Passage) → ((p : ℕ) (why : Refused) → x ≢ Fails p why) → is_failed (end_of x) ≡ false
none_failed On other = refl
none_failed Stops other = refl
none_failed (Fails p why) other = absurd (other p why refl)
