use Rattle.std.proofs.Common.{false, sym, subst, ap, ◌∙◌, ◌*◌, ℕ, Bool}
use Rattle.far_word.specs.declared.sizes.TheConstants.{LOG_WORDS}
use Rattle.far_core.specs.state.CoreState.{core_state}
use Rattle.far_hand.specs.Masked.{is_counted, masked, word_at, CountsOnRest}
use Rattle.far_hand.proofs.Counting.{counts_none}
use Rattle.far_hand.proofs.Finding.{finds_is}
use Rattle.far_hand.proofs.JobsFound.{job_is}
use Rattle.far_hand.proofs.beset.Beset.new.Goals as goal

pub invariant_of-result : goal.invariant_of-result
invariant_of-result c =
    let s = core_state c.args.core in
    let found = word_at c.in-Ok.found.items in
    record {
      found_sized = c.in-Ok.ensures.len;
      counted_sized = c.in-Ok-none_counted.ensures.len ∙ ap (λ n. LOG_WORDS * n) c.logs.ensures;
      finds = λ p. finds_is (found p) (s.cell p) (ap (λ (f : ℕ → ℕ). f p) (sym c.in-Ok.ensures.words));
      finds_jobs = λ j. job_is (word_at c.jobs_of-jobs.result j) (s.copying.word j) (ap (λ (f : ℕ → ℕ). f j) (sym c.jobs_of-jobs.ensures));
      counts = subst (λ (k : ℕ → Bool). CountsOnRest s found k) (sym c.in-Ok-none_counted.ensures.none) (counts_none s found);
    }

pub returns-clause-view : goal.returns-clause-view
returns-clause-view c =
    let s = core_state c.args.core in
    let jobs = word_at c.jobs_of-jobs.result in
    ap (λ (f : ℕ → ℕ). masked s f (is_counted c.in-Ok-none_counted.counted.items) jobs) c.in-Ok.ensures.words
    ∙ ap (λ (k : ℕ → Bool). masked s s.cell k jobs) c.in-Ok-none_counted.ensures.none ∙ ap (λ (f : ℕ → ℕ). masked s s.cell (λ _. false) f) c.jobs_of-jobs.ensures
