-- What the event SeeJob owes.
use Rattle.std.proofs.Common.{ℕ, ◌<◌, arith, refl}
use Rattle.std.proofs.lemmas.Bool.Decides.{nat_tests}
use Rattle.far_word.specs.declared.sizes.TheConstants.{JOBS}
use Rattle.far_events.specs.declared.event.Event.TheVariants.{SeeJob}
use Rattle.far_events.specs.events.Step.{change_of}
use Rattle.far_core.specs.laws.Worlds.{Caused}
use Rattle.far_core.proofs.Owed.{Owed, replies}
use Rattle.far_core.proofs.Touching.{untouched}

module _ (j : ℕ) where
  pub see_job_owed : Owed (SeeJob j)
  see_job_owed = record {
    fact = λ s law h. grind (arith, nat_tests);
    test = λ s h. let low : j < JOBS = h in grind (arith, nat_tests);
    keeps = λ s law fits h. law;
    does = λ s law fits h. refl;
    within = λ s. untouched s _;
    part = λ s h. tt;
    word = λ s h. tt;
    reports = λ s law h. (refl, refl);
    silent = λ s t h. h;
    answers = λ s x. cc;
    causes = replies (λ r. Caused (SeeJob j) (change_of (SeeJob j) r)) tt tt (λ n. tt) (λ x. tt) (λ place. tt);
  }
