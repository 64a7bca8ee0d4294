-- What the event PeekJob owes.
use Rattle.std.proofs.Common.{◌≡◌, ℕ, ◌<◌, true, nat_lt, arith, refl}
use Rattle.std.proofs.lemmas.Bool.Decides.{nat_tests}
use Rattle.far_word.specs.declared.sizes.TheConstants.{JOBS, MOST_COPIERS}
use Rattle.far_events.specs.declared.event.Event.TheVariants.{PeekJob}
use Rattle.far_events.specs.events.Step.{change_of}
use Rattle.far_core.specs.laws.Worlds.{Caused}
use Rattle.far_core.proofs.Owed.{Owed, replies}
use Rattle.far_core.proofs.Touching.{untouched}

module _ (c j : ℕ) where
  pub peek_job_owed : Owed (PeekJob c j)
  peek_job_owed = record {
    fact = λ s law h. (grind (arith, nat_tests), grind (arith, nat_tests));
    test = λ s h.
        let few : c < MOST_COPIERS = h.0 in let low : j < JOBS = h.1 in
        let a : nat_lt c MOST_COPIERS ≡ true = grind (arith, nat_tests) in
        let b : nat_lt j JOBS ≡ true = grind (arith, nat_tests) in
        rw (a, b) refl;
    keeps = λ s law fits h. law;
    does = λ s law fits h. refl;
    within = λ s. untouched s _;
    part = λ s h. tt;
    word = λ s h. tt;
    reports = λ s law h. (refl, refl);
    silent = λ s t h. h;
    answers = λ s x. cc;
    causes = replies (λ r. Caused (PeekJob c j) (change_of (PeekJob c j) r)) tt tt (λ n. tt) (λ x. tt) (λ place. tt);
  }
