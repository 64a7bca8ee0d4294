-- What others make of a state that may be beside a hand may be so too.
use Rattle.std.proofs.Common.{◌≡◌, ◌∙◌, ℕ, ◌<◌, Bool, true, false, inl, inr, ap, sym, subst}
use Rattle.std.proofs.lemmas.Bool.{cond_both, false_from_ne_true, true≢false}
use Rattle.far_word.specs.Job.{job_of}
use Rattle.far_word.specs.Sizes.{words_for}
use Rattle.far_events.specs.declared.event.Event.{Event}
use Rattle.far_events.specs.declared.event.Reply.{Reply}
use Rattle.far_events.specs.declared.event.Reply.TheVariants.{Refused}
use Rattle.far_events.specs.events.Step.{Fits, after, answer, is_legal, step_of}
use Rattle.far_events.specs.state.Jobs.{is_finished}
use Rattle.far_events.specs.state.Law.{Law, head_len}
use Rattle.far_events.specs.state.State.{State, addr}
use Rattle.far_core.proofs.Owing.{is_fact, keeps}
use Rattle.far_hand.specs.Beside.{beside}
use Rattle.far_hand.specs.Finds.{marks_in}
use Rattle.far_hand.specs.Makers.{is_others}
use Rattle.far_hand.specs.Masked.{masked, AllFind, AllFindJobs, CountsOnRest}
use Rattle.far_hand.specs.MayBe.{MayBeBeside, Shows, masked_shows}
use Rattle.far_hand.specs.Others.{IsLoudAt, OthersChange}
use Rattle.far_hand.specs.Quiet.{IsQuietNear, is_quiet}
use Rattle.far_hand.proofs.Finding.{finds_more, near_found}
use Rattle.far_hand.proofs.JobsFound.{job_more, same_job}
use Rattle.far_hand.proofs.Masking.{header_still, known_loud, quiet_found, same_finds, same_jobs, same_view}
use Rattle.far_hand.proofs.OthersWork.{step_changes}

-- two changes, one after the other
module _ (s t u : State) (law : Law s) (one : OthersChange s t) (two : OthersChange t u) where
  -- what isn't finished yet wasn't before
  unfinished_before : (j : ℕ) → is_finished (job_of (t.copying.word j)) ≡ false → is_finished (job_of (s.copying.word j)) ≡ false
  unfinished_before j undone = false_from_ne_true _ (λ done. true≢false (sym done ∙ ap (λ w. is_finished (job_of w)) (sym ((one.jobs j).ended done)) ∙ undone))

  loud_before : (a : ℕ) → IsLoudAt t a → IsLoudAt s a
  loud_before a (inl x) =
      let loud = subst (λ (v : State). is_quiet v.round v.clear x.p x.place x.marks ≡ false) one.rest x.loud in
      let k = known_loud (s.cell x.p) (t.cell x.p) (one.cells x.p) s.round s.clear x.p x.len x.ds x.place x.marks x.near loud in
      inl record { p = x.p; len = x.len; ds = x.ds; place = x.place; marks = k.marks; index = x.index; near = k.near; loud = k.loud; inside = x.inside; here = x.here }
  loud_before a (inr x) =
      let says = sym (same_job (s.copying.word x.number) (t.copying.word x.number) (one.jobs x.number)) ∙ x.says in
      let head = one.words (addr x.job.from) (header_still s law (addr x.job.from) (law.copies.jobs.job_spans x.number x.job says).from) in
      inr record {
        number = x.number;
        job = x.job;
        index = x.index;
        says = says;
        unfinished = unfinished_before x.number x.unfinished;
        inside = subst (λ w. x.index < words_for (head_len w)) head x.inside;
        here = x.here;
      }

  -- what was quiet is quiet still
  quiet_then : (p : ℕ) → IsQuietNear s p → IsQuietNear t p
  quiet_then p q =
      let x = near_found (s.cell p) (t.cell p) (one.cells p) q.len q.ds q.place q.marks q.near in
      let moved : q.marks.moved ≡ true → x.marks.moved ≡ true = (λ h. sym (ap (λ o. (marks_in o).moved) x.near) ∙ (one.cells p).moved (ap (λ o. (marks_in o).moved) q.near ∙ h)) in record {
        len = q.len;
        ds = q.ds;
        place = q.place;
        marks = x.marks;
        near = x.near;
        quiet = subst (λ (v : State). is_quiet v.round v.clear p q.place x.marks ≡ true) (sym one.rest) (quiet_found s.round s.clear p q.place q.marks x.marks (sym x.same) moved q.quiet);
      }

  pub changes_join : OthersChange s u
  changes_join = record {
    cells = λ p. finds_more (s.cell p) (t.cell p) (u.cell p) (one.cells p) (two.cells p);
    clean = λ p quiet. two.clean p (quiet_then p quiet) ∙ one.clean p quiet;
    words = λ a quiet. two.words a (λ x. quiet (loud_before a x)) ∙ one.words a quiet;
    jobs = λ j. job_more (s.copying.word j) (t.copying.word j) (u.copying.word j) (one.jobs j) (two.jobs j);
    rest = two.rest ∙ ap (λ (v : State). beside v u) one.rest;
  }

step_lawful : (s : State) (e : Event) → Law s → Fits e → Law (step_of s e).0
step_lawful s e law fits = cond_both (is_legal s e) (after s e, answer s e) (s, Refused) (λ (x : State × Reply). Law x.0)
    (λ h. keeps s e law fits (is_fact s e law h)) (λ _. law)

pub stays_beside : (s : State) → Law s → (found : ℕ → ℕ) (counted : ℕ → Bool) (jobs : ℕ → ℕ) → AllFind found s.cell → AllFindJobs jobs s.copying.word → CountsOnRest s found counted →
    (x : State) (e : Event) → is_others e ≡ true → Fits e → MayBeBeside (masked s found counted jobs) s x → MayBeBeside (masked s found counted jobs) s (step_of x e).0
stays_beside s law found counted jobs finds going counts x e own fits may =
    let t = (step_of x e).0 in
    let change = changes_join s x t law may.change (step_changes x e may.law own) in
    record {
      law = step_lawful x e may.law fits;
      change = change;
      shown = subst (λ (o : State). Shows o t) (same_view s law found counted jobs finds going counts t change)
          (masked_shows t found counted jobs (same_finds s law found counted jobs finds going counts t change) (same_jobs s law found counted jobs finds going counts t change));
    }
