use Rattle.std.proofs.Common.{◌≡◌, ◌-◌, ◌<◌, ◌^◌, ◌++◌, ℕ, List}
use Rattle.std.specs.Prelude.{fold}
use Rattle.far_word.specs.declared.sizes.TheConstants.{LOG_WORDS}
use Rattle.far_events.specs.state.Law.{Law}
use Rattle.far_book.specs.book.Own.{own_part}
use Rattle.far_hand.specs.Came.{Came}
use Rattle.far_evac.specs.AnyHand.{Knows}
use Rattle.far_book.specs.book.NextLive.{IsBoundary, live_from}
use Rattle.far_evac.specs.Live.{live_in, pointers_of}
use Rattle.far_evac.specs.RoundSteps.{unmarked}
use Rattle.far_evac.proofs.evac.marking.unmark_log.Given as goal

abbrev pub invariant-loop-span : goal.invariant-loop-span
invariant-loop-span g l = record {
  done : List ℕ;
  parts : live_in (g.N.Near.view l.fn.book.near) l.log ≡ done ++ pointers_of (live_from (g.N.Near.view l.book.near) l.log l.from);
  fits : (p : ℕ) → (fold unmarked (g.N.Near.view l.fn.book.near) done).cell p < 2 ^ 64;
  known : Knows (fold unmarked (g.N.Near.view l.fn.book.near) done) (g.N.Near.view l.book.near);
  exact : g.N.Near.still → g.N.Near.view l.book.near ≡ fold unmarked (g.N.Near.view l.fn.book.near) done;
  begins : IsBoundary (g.N.Near.view l.book.near) l.log l.from;
  law : Law (own_part (g.N.Near.view l.book.near));
  order : l.book.order ≡ l.fn.book.order;
  device : l.book.device ≡ l.fn.book.device;
  came : Came g.N.Near.makes l.fn.book.near l.book.near;
}

abbrev pub decreases-loop-span : goal.decreases-loop-span
decreases-loop-span g l = LOG_WORDS - l.from
