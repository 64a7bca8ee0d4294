use Rattle.std.proofs.Common.{◌≡◌, ◌+◌, ◌<◌, ◌∙◌, ◌∷◌, [], ℕ, List, cond, IfSome, IfNone, length, arith, ap, sym, refl, subst}
use Rattle.std.specs.Prelude.{Bool, Err, false}
use Rattle.far_book.specs.declared.live_span.LiveSpan.{LiveSpan}
use Rattle.far_device.specs.Following.{Follows, none_of}
use Rattle.far_hand.proofs.Closure.{then_came}
use Rattle.far_book.specs.book.Dealing.{is_failure}
use Rattle.far_evac.specs.declared.answers.Progress.{Progress}
use Rattle.far_evac.specs.declared.phase.Phase.{Phase}
use Rattle.far_evac.specs.declared.phase.Phase.TheVariants as phase
use Rattle.far_evac.specs.AnyHand.{KnowsMoment, WalksTo}
use Rattle.far_evac.specs.Asked.{WalksAsking, first_live}
use Rattle.far_evac.specs.Cursor.{IsNextLeaving}
use Rattle.far_evac.specs.EvacOf.{EvacOf, moment}
use Rattle.far_evac.specs.Leaving.{standing}
use Rattle.far_evac.specs.Live.{is_empty}
use Rattle.far_evac.specs.Moment.{Moment, objects_in, tally_of}
use Rattle.far_evac.specs.MomentLaw.{has_risen}
use Rattle.far_evac.specs.Turning.{IsBounded}
use Rattle.far_evac.specs.Walk.{Walked, left, settled}
use Rattle.far_evac.proofs.Asking.{asks_more, follows_more}
use Rattle.far_evac.proofs.Bounds.{walk_counts}
use Rattle.far_evac.proofs.Evacuations.{exact_over, one_exact, one_more}
use Rattle.far_evac.proofs.Failures.{failure_alike}
use Rattle.far_evac.proofs.Readiness.{risen_is_ready}
use Rattle.far_evac.proofs.SmallSteps.{tallies_all}
use Rattle.far_evac.proofs.evac.Evac.evacuate_up_to.Given.{Over}
use Rattle.far_evac.proofs.evac.Evac.evacuate_up_to.Goals.{After-keeps_law}
use Rattle.far_evac.proofs.evac.Evac.evacuate_up_to.Goals as goal

-- ---- a walk stands at k objects once the logs in front were given back, which asks nothing of the device
module _ (g : Over) (c : After-keeps_law g) (k : ℕ) (e : EvacOf g.row.N.Denot g.row.D.Denot) (q : Progress) (walks : WalksTo (moment g.N.Near.view c.args.self.now) k (standing g.N.Near.view e q)) where
  abbrev m : Moment
  m = moment g.N.Near.view c.args.self.now

  counts : objects_in (tally_of q) ≡ k
  counts = tallies_all m k (standing g.N.Near.view e q) walks

  bounded : IsBounded (tally_of q)
  bounded = walk_counts m c.keeps_law.ensures.law c.keeps_law.ensures.moment c.requires.phase k (standing g.N.Near.view e q) walks

  module _ {between : g.row.D.Denot} (same : e.book.device ≡ between) {n : ℕ} (is : n ≡ k) where
    asked : WalksAsking g.N.Near.still g.row.D.Denot g.D.Device.writes g.D.Device.lets_go m k (standing g.N.Near.view e q) c.args.self.now.book.device between →
        WalksAsking g.N.Near.still g.row.D.Denot g.D.Device.writes g.D.Device.lets_go m n (standing g.N.Near.view e q) c.args.self.now.book.device e.book.device
    asked h = subst (λ j. WalksAsking g.N.Near.still g.row.D.Denot g.D.Device.writes g.D.Device.lets_go m j (standing g.N.Near.view e q) c.args.self.now.book.device e.book.device) (sym is)
        (subst (λ (d : g.row.D.Denot). WalksAsking g.N.Near.still g.row.D.Denot g.D.Device.writes g.D.Device.lets_go m k (standing g.N.Near.view e q) c.args.self.now.book.device d) (sym same) h)

    follows : Follows g.D.Device.contents g.D.Device.honest g.D.Device.faults g.D.Device.fails_at_most (none_of (first_live m k)) false c.args.self.now.book.device between →
        Follows g.D.Device.contents g.D.Device.honest g.D.Device.faults g.D.Device.fails_at_most (none_of (first_live m n)) false c.args.self.now.book.device e.book.device
    follows h = subst (λ j. Follows g.D.Device.contents g.D.Device.honest g.D.Device.faults g.D.Device.fails_at_most (none_of (first_live m j)) false c.args.self.now.book.device e.book.device) (sym is)
        (subst (λ (d : g.row.D.Denot). Follows g.D.Device.contents g.D.Device.honest g.D.Device.faults g.D.Device.fails_at_most (none_of (first_live m k)) false c.args.self.now.book.device d) (sym same) h)

pub deal-requires-clause-room : goal.deal-requires-clause-room
deal-requires-clause-room g c =
    let walks = c.loop.invariant.walks _ c.settle.ensures.known in
    let all = counts g (goal.at.deal-requires-clause-room g c).After-keeps_law c.loop.counter c.settle.new.self c.settle.new.progress walks in
    let fits : c.args.n < 18446744073709551616 = c.ranges.n.fits in
    omega (arith, all, fits, c.loop-test.true)

pub loop-preserved : goal.loop-preserved
loop-preserved g c =
    let h = (goal.at.loop-preserved g c).After-keeps_law in
    let view = g.N.Near.view in
    let m = moment view c.args.self.now in
    let w = standing view c.settle.new.self c.settle.new.progress in
    let v = standing view c.deal.new.self c.deal.new.progress in
    let before = c.loop.invariant in
    let walks = before.walks w c.settle.ensures.known in
    let some = subst (λ o. IfSome o (λ (x : LiveSpan). (rest : List ℕ) × (left w ≡ x.span.p ∷ rest))) c.in-Some.is c.settle.ensures.first in
    let next = subst (λ o. IfSome o (λ (x : LiveSpan). IsNextLeaving (view c.settle.new.self.book.near) c.settle.new.self.collection x.span)) c.in-Some.is c.settle.ensures.next in
    let leaving = c.settle.ensures.ends ∙ ap (λ (held : List ℕ). cond (is_empty held) phase.Idle phase.Evacuating) next.front in
    let did = c.in_default-deal.ensures in
    let long = ap length did.round.1 in
    let ready = risen_is_ready m c.keeps_law.ensures.law c.keeps_law.ensures.moment (ap has_risen c.requires.phase) in
    let old = c.args.self.now.book.device in
    let now = c.settle.new.self.book.device in
    record {
      phase = did.round.0 ∙ leaving;
      alone = did.round.2 ∙ c.settle.ensures.copying ∙ before.alone;
      walks = λ (t : Walked) known. one_more m c.loop.counter w v t c.in-Some.first.span.p some.0 did.dealt.0 some.1 did.dealt.1 did.dealt.2 known walks;
      exact = λ still. one_exact m c.loop.counter w v (settled v) c.in-Some.first.span.p some.0 some.1 (did.exact still) refl (c.settle.ensures.exact still ∙ before.exact still);
      freed = omega (arith, c.settle.ensures.freed, did.rest.0, long, before.freed);
      done = did.rest.1 ∙ c.settle.ensures.done ∙ before.done;
      asked = λ (t : Walked) known same.
          asks_more g.row.D.Denot g.D.Device.writes g.D.Device.lets_go g.N.Near.still m c.loop.counter w v t c.in-Some.first.span.p some.0 did.dealt.0 old now c.deal.new.self.book.device some.1 did.dealt.1 did.dealt.2 known did.dealt.3 (λ still. (did.exact still, same still, did.unasked still))
          (asked g h c.loop.counter c.settle.new.self c.settle.new.progress walks c.settle.ensures.device refl (before.asked w c.settle.ensures.known c.settle.ensures.exact));
      follows = follows_more g.D.Device.contents g.D.Device.honest g.D.Device.faults g.D.Device.fails_at_most m c.loop.counter w c.in-Some.first.span.p some.0 false old now c.deal.new.self.book.device ready walks some.1
          (follows g h c.loop.counter c.settle.new.self c.settle.new.progress walks c.settle.ensures.device refl before.follows) did.follows;
      came = then_came (then_came before.came c.settle.ensures.came) did.came;
    }

-- ---- no log is left
pub returns-in_default-clause-came : goal.returns-in_default-clause-came
returns-in_default-clause-came g c = then_came c.loop.invariant.came c.settle.ensures.came

pub returns-in_default-clause-exact : goal.returns-in_default-clause-exact
returns-in_default-clause-exact g c = λ still.
    let none = subst (λ o. IfNone o (c.settle.new.self.collection ≡ [])) c.in_default.is c.settle.ensures.none in
    exact_over (moment g.N.Near.view c.args.self.now) c.args.n c.loop.counter (standing g.N.Near.view c.settle.new.self c.settle.new.progress) c.loop.auto.counter-end none (c.settle.ensures.exact still ∙ c.loop.invariant.exact still)

pub returns-in_default-clause-bounded : goal.returns-in_default-clause-bounded
returns-in_default-clause-bounded g c =
    bounded g (goal.at.returns-in_default-clause-bounded g c).After-keeps_law c.loop.counter c.settle.new.self c.settle.new.progress (c.loop.invariant.walks _ c.settle.ensures.known)

pub returns-in_default-clause-asked : goal.returns-in_default-clause-asked
returns-in_default-clause-asked g c =
    let h = (goal.at.returns-in_default-clause-asked g c).After-keeps_law in
    let walks = c.loop.invariant.walks _ c.settle.ensures.known in
    asked g h c.loop.counter c.settle.new.self c.settle.new.progress walks c.settle.ensures.device (counts g h c.loop.counter c.settle.new.self c.settle.new.progress walks) (c.loop.invariant.asked _ c.settle.ensures.known c.settle.ensures.exact)

pub returns-in_default-clause-follows : goal.returns-in_default-clause-follows
returns-in_default-clause-follows g c =
    let h = (goal.at.returns-in_default-clause-follows g c).After-keeps_law in
    let walks = c.loop.invariant.walks _ c.settle.ensures.known in
    follows g h c.loop.counter c.settle.new.self c.settle.new.progress walks c.settle.ensures.device (counts g h c.loop.counter c.settle.new.self c.settle.new.progress walks) c.loop.invariant.follows

-- ---- all are dealt with
pub returns-clause-came : goal.returns-clause-came
returns-clause-came g c = then_came c.loop.invariant.came c.settle-2.ensures.came

pub returns-clause-bounded : goal.returns-clause-bounded
returns-clause-bounded g c =
    bounded g (goal.at.returns-clause-bounded g c).After-keeps_law c.loop.counter c.settle-2.new.self c.settle-2.new.progress (c.loop.invariant.walks _ c.settle-2.ensures.known)

pub returns-clause-asked : goal.returns-clause-asked
returns-clause-asked g c =
    let h = (goal.at.returns-clause-asked g c).After-keeps_law in
    let walks = c.loop.invariant.walks _ c.settle-2.ensures.known in
    asked g h c.loop.counter c.settle-2.new.self c.settle-2.new.progress walks c.settle-2.ensures.device (counts g h c.loop.counter c.settle-2.new.self c.settle-2.new.progress walks) (c.loop.invariant.asked _ c.settle-2.ensures.known c.settle-2.ensures.exact)

pub returns-clause-follows : goal.returns-clause-follows
returns-clause-follows g c =
    let h = (goal.at.returns-clause-follows g c).After-keeps_law in
    let walks = c.loop.invariant.walks _ c.settle-2.ensures.known in
    follows g h c.loop.counter c.settle-2.new.self c.settle-2.new.progress walks c.settle-2.ensures.device (counts g h c.loop.counter c.settle-2.new.self c.settle-2.new.progress walks) c.loop.invariant.follows

-- ---- an object stays
pub returns-in-Err-clause-came : goal.returns-in-Err-clause-came
returns-in-Err-clause-came g c = then_came (then_came c.loop.invariant.came c.settle.ensures.came) c.deal.ensures.came

pub returns-in-Err-clause-bounded : goal.returns-in-Err-clause-bounded
returns-in-Err-clause-bounded g c =
    subst (λ (q : Progress). IsBounded (tally_of q)) (sym c.in-Err.ensures.uncounted)
    (bounded g (goal.at.returns-in-Err-clause-bounded g c).After-keeps_law c.loop.counter c.settle.new.self c.settle.new.progress (c.loop.invariant.walks _ c.settle.ensures.known))

pub returns-in-Err-clause-stops : goal.returns-in-Err-clause-stops
returns-in-Err-clause-stops g c =
    let view = g.N.Near.view in
    let w = standing view c.settle.new.self c.settle.new.progress in
    let next = subst (λ o. IfSome o (λ (x : LiveSpan). IsNextLeaving (view c.settle.new.self.book.near) c.settle.new.self.collection x.span)) c.in-Some.is c.settle.ensures.next in
    let leaving = c.settle.ensures.ends ∙ ap (λ (held : List ℕ). cond (is_empty held) phase.Idle phase.Evacuating) next.front in
    let stops = subst (λ (now : Phase). KnowsMoment (record (moment view c.settle.new.self) { phase = now }) (moment view c.deal.new.self)) leaving c.in-Err.ensures.kept in
    (c.loop.counter, w, c.loop.invariant.walks w c.settle.ensures.known, c.loop-test.true, ap is_empty next.front, stops, ap tally_of c.in-Err.ensures.uncounted)

pub returns-in-Err-clause-refused : goal.returns-in-Err-clause-refused
returns-in-Err-clause-refused g c =
    let h = (goal.at.returns-in-Err-clause-refused g c).After-keeps_law in
    let view = g.N.Near.view in
    let w = standing view c.settle.new.self c.settle.new.progress in
    let walks = c.loop.invariant.walks w c.settle.ensures.known in
    let some = subst (λ o. IfSome o (λ (x : LiveSpan). (rest : List ℕ) × (left w ≡ x.span.p ∷ rest))) c.in-Some.is c.settle.ensures.first in
    let next = subst (λ o. IfSome o (λ (x : LiveSpan). IsNextLeaving (view c.settle.new.self.book.near) c.settle.new.self.collection x.span)) c.in-Some.is c.settle.ensures.next in
    let leaving = c.settle.ensures.ends ∙ ap (λ (held : List ℕ). cond (is_empty held) phase.Idle phase.Evacuating) next.front in
    let count = ap (λ (q : Progress). objects_in (tally_of q)) c.in-Err.ensures.uncounted ∙ counts g h c.loop.counter c.settle.new.self c.settle.new.progress walks in
    record {
      stood = w;
      between = c.settle.new.self.book.device;
      walks = asked g h c.loop.counter c.settle.new.self c.settle.new.progress walks c.settle.ensures.device count (c.loop.invariant.asked w c.settle.ensures.known c.settle.ensures.exact);
      counts = ap tally_of c.in-Err.ensures.uncounted;
      next = c.in-Some.first.span.p;
      rest = some.0;
      is = some.1;
      write = c.in-Err.ensures.refused;
      owed = c.in-Err.ensures.owed;
      stops = subst (λ (now : Phase). KnowsMoment (record (moment view c.settle.new.self) { phase = now }) (moment view c.deal.new.self)) leaving c.in-Err.ensures.kept;
      exact = λ still. c.in-Err.ensures.same still ∙ ap (λ (now : Phase). record (moment view c.settle.new.self) { phase = now }) leaving;
    }

pub returns-in-Err-clause-follows : goal.returns-in-Err-clause-follows
returns-in-Err-clause-follows g c =
    let h = (goal.at.returns-in-Err-clause-follows g c).After-keeps_law in
    let view = g.N.Near.view in
    let m = moment view c.args.self.now in
    let w = standing view c.settle.new.self c.settle.new.progress in
    let some = subst (λ o. IfSome o (λ (x : LiveSpan). (rest : List ℕ) × (left w ≡ x.span.p ∷ rest))) c.in-Some.is c.settle.ensures.first in
    let walks = c.loop.invariant.walks w c.settle.ensures.known in
    let count = ap (λ (q : Progress). objects_in (tally_of q)) c.in-Err.ensures.uncounted ∙ counts g h c.loop.counter c.settle.new.self c.settle.new.progress walks in
    let ready = risen_is_ready m c.keeps_law.ensures.law c.keeps_law.ensures.moment (ap has_risen c.requires.phase) in
    let fault = failure_alike (Unit {0}) Bool c.in-Err.why c.in-Err.ensures.why in
    subst (λ n. Follows g.D.Device.contents g.D.Device.honest g.D.Device.faults g.D.Device.fails_at_most (none_of (first_live m (n + 1))) (is_failure {A = Bool} (Err c.in-Err.why)) c.args.self.now.book.device c.deal.new.self.book.device) (sym count)
    (subst (λ b. Follows g.D.Device.contents g.D.Device.honest g.D.Device.faults g.D.Device.fails_at_most (none_of (first_live m (c.loop.counter + 1))) b c.args.self.now.book.device c.deal.new.self.book.device) fault
    (follows_more g.D.Device.contents g.D.Device.honest g.D.Device.faults g.D.Device.fails_at_most m c.loop.counter w c.in-Some.first.span.p some.0 (is_failure {A = Unit {0}} (Err c.in-Err.why)) c.args.self.now.book.device c.settle.new.self.book.device c.deal.new.self.book.device ready walks some.1
    (follows g h c.loop.counter c.settle.new.self c.settle.new.progress walks c.settle.ensures.device refl c.loop.invariant.follows) c.in-Err.ensures.follows))
