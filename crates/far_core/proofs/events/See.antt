-- What the event See owes.
use Rattle.std.proofs.Common.{ℕ, arith, refl}
use Rattle.std.proofs.lemmas.Bool.Decides.{nat_tests}
use Rattle.far_events.specs.declared.event.Event.TheVariants.{See}
use Rattle.far_events.specs.events.Step.{change_of}
use Rattle.far_core.specs.laws.Worlds.{Caused}
use Rattle.far_core.proofs.Owed.{Owed, replies}
use Rattle.far_core.proofs.Touching.{untouched}

module _ (p : ℕ) where
  pub see_owed : Owed (See p)
  see_owed = record {
    fact = λ s law h. grind (arith, nat_tests);
    test = λ s h. grind (arith, nat_tests);
    keeps = λ s law fits h. law;
    does = λ s law fits h. refl;
    within = λ s. untouched s _;
    part = λ s h. tt;
    word = λ s h. tt;
    reports = λ s law h. (refl, refl);
    silent = λ s t h. h;
    answers = λ s x. cc;
    causes = replies (λ r. Caused (See p) (change_of (See p) r)) tt tt (λ n. tt) (λ x. tt) (λ place. tt);
  }
