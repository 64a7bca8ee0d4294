use Rattle.std.proofs.Common.{◌≡◌, ◌+◌, ◌∙◌, [], ℕ, List, cond, length, arith, ap, sym, refl, subst}
use Rattle.far_hand.proofs.Closure.{no_call, then_came}
use Rattle.far_evac.specs.declared.answers.Progress.{Progress}
use Rattle.far_evac.specs.declared.phase.Phase.TheVariants as phase
use Rattle.far_evac.specs.AnyHand.{KnowsWalked}
use Rattle.far_evac.specs.Leaving.{standing}
use Rattle.far_evac.specs.Live.{is_empty}
use Rattle.far_evac.specs.Moment.{Moment, Tally, tally_of}
use Rattle.far_evac.specs.MomentLaw.{is_idle}
use Rattle.far_evac.specs.Walk.{Walked, passed, settled}
use Rattle.far_evac.proofs.LiveLists.{knows_live}
use Rattle.far_evac.proofs.Settling.{front_left, front_stays, standing_known, step_exact, step_known, walked_known_more}
use Rattle.far_evac.proofs.Walks.{walked_same}
use Rattle.far_evac.proofs.evac.Evac.settle.Goals as goal

pub loop-log-init : goal.loop-log-init
loop-log-init g c = record {
  known = walked_same (settled (standing g.N.Near.view c.args.self.now c.args.progress.now));
  exact = λ still. refl;
  ends = c.requires.phase ∙ sym (ap (λ none. cond none phase.Idle phase.Evacuating) (c.keeps_law.ensures.moment.runs ∙ ap is_idle c.requires.phase));
  freed = refl;
  alone = c.requires.alone;
  done = refl;
  device = refl;
  came = no_call refl;
}

pub returns-in-Some-first_in-clause-first : goal.returns-in-Some-first_in-clause-first
returns-in-Some-first_in-clause-first g c =
    let known = c.first_in.ensures.known in
    let front = ap (λ (m : Moment). m.collection) known.rest ∙ c.in-Some.ensures.some.1 in
    let first = c.in-Some-first_in.ensures.first in
    front_left (standing g.N.Near.view c.first_in.new.self c.loop-log.progress) c.in-Some.log c.in-Some.ensures.some.0 front c.in-Some-first_in.first.span.p first.0
    (knows_live (g.N.Near.view c.loop-log.self.book.near) (g.N.Near.view c.first_in.new.self.book.near) known.core c.in-Some.log ∙ first.1)

pub give_back-requires-clause-none : goal.give_back-requires-clause-none
give_back-requires-clause-none g c =
    knows_live (g.N.Near.view c.loop-log.self.book.near) (g.N.Near.view c.first_in.new.self.book.near) c.first_in.ensures.known.core c.in-Some.log ∙ c.in_default-first_in.ensures.none

pub loop-log-preserved : goal.loop-log-preserved
loop-log-preserved g c =
    let view = g.N.Near.view in
    let e = c.loop-log.self in
    let f = c.first_in.new.self in
    let h = c.give_back.new.self in
    let log = c.in-Some.log in
    let some = c.in-Some.ensures.some in
    let none = c.in_default-first_in.ensures.none in
    let held = c.give_back.ensures.collection in
    let order = c.give_back.ensures.order in
    let copies = c.give_back.ensures.copying ∙ sym (ap (λ (m : Moment). m.copying) c.first_in.ensures.known.rest ∙ c.loop-log.invariant.alone) in
    let before = c.loop-log.invariant in
    let same = ap (λ (m : Moment). m.collection) c.first_in.ensures.known.rest in
    let next : Progress = record c.loop-log.progress { freed = c.loop-log.progress.freed + 1 } in
    let long = ap length (sym same ∙ held) in
    record {
      known = walked_known_more (settled (standing view c.args.self.now c.args.progress.now)) (settled (standing view e c.loop-log.progress)) (settled (standing view h next)) before.known
          (step_known view e f h c.loop-log.progress next log some.0 some.1 none order held copies refl c.first_in.ensures.known c.give_back.ensures.core);
      exact = λ still. step_exact view e f h c.loop-log.progress next log some.0 some.1 none order held copies refl (c.first_in.ensures.exact still) (c.give_back.ensures.exact still) ∙ before.exact still;
      ends = c.give_back.ensures.ends;
      freed = omega (arith, long, before.freed);
      alone = c.give_back.ensures.copying;
      done = before.done;
      device = c.give_back.ensures.device ∙ c.first_in.ensures.device ∙ before.device;
      came = then_came (then_came before.came c.first_in.ensures.came) c.give_back.ensures.came;
    }

pub returns-in-Some-first_in-clause-known : goal.returns-in-Some-first_in-clause-known
returns-in-Some-first_in-clause-known g c =
    let view = g.N.Near.view in
    let w = standing view c.loop-log.self c.loop-log.progress in
    let t = standing view c.first_in.new.self c.loop-log.progress in
    let first = c.in-Some-first_in.ensures.first in
    let some = c.in-Some.ensures.some in
    walked_known_more (settled (standing view c.args.self.now c.args.progress.now)) (settled w) t c.loop-log.invariant.known
    (subst (λ (x : Walked). KnowsWalked x t) (sym (front_stays w c.in-Some.log some.0 some.1 c.in-Some-first_in.first.span.p first.0 first.1))
    (standing_known view c.loop-log.self c.first_in.new.self c.loop-log.progress c.first_in.ensures.known))

pub returns-in-Some-first_in-clause-came : goal.returns-in-Some-first_in-clause-came
returns-in-Some-first_in-clause-came g c = then_came c.loop-log.invariant.came c.first_in.ensures.came

-- where a walk stands at a moment
abbrev stood : Tally → Moment → Walked
stood tally m = record { moment = record m { phase = phase.Evacuating }; tally = tally }

-- where no log is left, none can be given back
settled_none : (w : Walked) → w.moment.collection ≡ [] → settled w ≡ w
settled_none w none = ap (passed w) none ∙ (λ i. record w { moment = record w.moment { collection = (sym none) i } })

-- ---- the first object that is left
pub returns-in-Some-first_in-clause-exact : goal.returns-in-Some-first_in-clause-exact
returns-in-Some-first_in-clause-exact g c still =
    let w = standing g.N.Near.view c.loop-log.self c.loop-log.progress in
    let first = c.in-Some-first_in.ensures.first in
    let some = c.in-Some.ensures.some in
    ap (stood (tally_of c.loop-log.progress)) (c.first_in.ensures.exact still) ∙ sym (front_stays w c.in-Some.log some.0 some.1 c.in-Some-first_in.first.span.p first.0 first.1) ∙ c.loop-log.invariant.exact still

pub returns-in-Some-first_in-clause-ends : goal.returns-in-Some-first_in-clause-ends
returns-in-Some-first_in-clause-ends g c =
    let rest = c.first_in.ensures.known.rest in
    ap (λ (m : Moment). m.phase) rest ∙ c.loop-log.invariant.ends ∙ ap (λ (held : List ℕ). cond (is_empty held) phase.Idle phase.Evacuating) (sym (ap (λ (m : Moment). m.collection) rest))

pub returns-in-Some-first_in-clause-next : goal.returns-in-Some-first_in-clause-next
returns-in-Some-first_in-clause-next g c = c.in-Some-first_in.ensures.next

pub returns-in-Some-first_in-clause-cell : goal.returns-in-Some-first_in-clause-cell
returns-in-Some-first_in-clause-cell g c = c.in-Some-first_in.ensures.cell

pub returns-in-Some-first_in-clause-copying : goal.returns-in-Some-first_in-clause-copying
returns-in-Some-first_in-clause-copying g c = ap (λ (m : Moment). m.copying) c.first_in.ensures.known.rest ∙ c.loop-log.invariant.alone ∙ sym c.requires.alone

pub returns-in-Some-first_in-clause-freed : goal.returns-in-Some-first_in-clause-freed
returns-in-Some-first_in-clause-freed g c =
    ap (λ (m : Moment). c.loop-log.progress.freed + length m.collection) c.first_in.ensures.known.rest ∙ c.loop-log.invariant.freed

pub returns-in-Some-first_in-clause-done : goal.returns-in-Some-first_in-clause-done
returns-in-Some-first_in-clause-done g c = c.loop-log.invariant.done

pub returns-in-Some-first_in-clause-device : goal.returns-in-Some-first_in-clause-device
returns-in-Some-first_in-clause-device g c = c.first_in.ensures.device ∙ c.loop-log.invariant.device

-- ---- no log is left
pub returns : goal.returns
returns g c =
    let h = c.loop-log.invariant in
    let w = standing g.N.Near.view c.loop-log.self c.loop-log.progress in
    let none = c.in_default.ensures.none in record {
      came = h.came;
      known = subst (KnowsWalked (settled (standing g.N.Near.view c.args.self.now c.args.progress.now))) (settled_none w none) h.known;
      exact = λ still. sym (settled_none w none) ∙ h.exact still;
      ends = h.ends;
      first = tt;
      next = tt;
      cell = tt;
      none = none;
      copying = h.alone ∙ sym c.requires.alone;
      freed = h.freed;
      done = h.done;
      device = h.device;
    }
