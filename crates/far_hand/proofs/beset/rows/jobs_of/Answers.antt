use Rattle.std.proofs.Common.{◌≡◌, ◌∙◌, ◌≤◌, ℕ, inl, inr, arith, ap, sym}
use Rattle.std.proofs.lemmas.Bool.{cases_eq, cases_lt}
use Rattle.std.proofs.lemmas.List.{get_or_past}
use mathlib.Core.Path.{fun_ext}
use Rattle.far_word.specs.declared.sizes.TheConstants.{JOBS}
use Rattle.far_core.specs.state.CoreState.{core_state}
use Rattle.far_events.specs.state.Law.{Law}
use Rattle.far_events.specs.state.State.{State}
use Rattle.far_events.proofs.Put.{put_both}
use Rattle.far_hand.specs.Masked.{word_at}
use Rattle.far_hand.proofs.beset.rows.jobs_of.Goals as goal

-- there are no further jobs
none_past : (s : State) → Law s → (j : ℕ) → JOBS ≤ j → s.copying.word j ≡ 0
none_past s law j past = elim (cases_eq (s.copying.word j) 0) [
  | inl none ↦ none
  | inr some ↦ absurd (let low = law.copies.jobs.job_range j some in omega (arith, low, past))
]

pub loop-job-preserved : goal.loop-job-preserved
loop-job-preserved c =
    let s = core_state c.args.core.now in
    let i = c.loop-job.job in
    let seen : s.copying.word i ≡ c.see_job.result = cc in
    record {
      len = c.find_job.array_long;
      words = λ j low. ap (λ (f : ℕ → ℕ). f j) c.find_job.ensures
          ∙ put_both (λ w. w ≡ s.copying.word j) (word_at c.loop-job.jobs) i c.see_job.result j (λ e. sym seen ∙ ap s.copying.word (sym e)) (λ ne. c.loop-job.invariant.words j (omega (arith, low, ne)));
    }

pub returns : goal.returns
returns c =
    let s = core_state c.args.core.now in
    fun_ext (λ j. elim (cases_lt j JOBS) [
      | inl low ↦ c.loop-job.invariant.words j (omega (arith, low, c.loop-job-test.false))
      | inr past ↦ get_or_past c.loop-job.jobs j 0 (omega (arith, c.loop-job.invariant.len, past)) ∙ sym (none_past s c.keeps_law.ensures.law j past)
    ])
