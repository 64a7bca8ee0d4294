-- Dealings are in order: all together.
use Rattle.std.proofs.Common.{ℕ, drop, ap, ◌∙◌}
use Rattle.std.proofs.Math.Seq.{drop-length}
use Rattle.far_evac.specs.AnyHand.{WalksTo}
use Rattle.far_evac.specs.Laws.{DealtInOrder}
use Rattle.far_evac.specs.Live.{live_among}
use Rattle.far_evac.specs.Moment.{Moment}
use Rattle.far_evac.specs.Ready.{Ready}
use Rattle.far_evac.specs.Walk.{Walked}
use Rattle.far_evac.proofs.Given.{gives_back}
use Rattle.far_evac.proofs.SmallSteps.{begun_live, tallies_all, walks_left}
use Rattle.far_evac.proofs.Subjects.{deals_with}

pub in_order : (m : Moment) (k : ℕ) (t : Walked) → Ready m.core m.collection → WalksTo m k t → DealtInOrder m k t
in_order m k t ready walks =
    let (h, begins) = walks_left m k t ready walks in record {
      left = h.left;
      enough = h.enough;
      deals = deals_with m k t ready walks;
      counted = tallies_all m k t walks;
      begins = begins;
      done = λ e. begun_live t.moment.core t.moment.collection begins (h.left ∙ ap (λ n. drop n (live_among m.core m.collection)) e ∙ drop-length (live_among m.core m.collection));
      gives = gives_back m k t ready walks;
      ready = h.ready;
    }
