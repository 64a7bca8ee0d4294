use Rattle.far_hand.proofs.Closure.{no_call, then_came}
use Rattle.far_evac.proofs.evac.Evac.make_turns.Given.{Over}
use Rattle.far_evac.proofs.evac.Evac.make_turns.Goals.{In-Ok}
use Rattle.far_evac.proofs.evac.Evac.make_turns.Goals as goal
use Rattle.std.proofs.Common.{Bool, Err, ℕ, refl, ◌≡◌, ◌<◌, ◌∙◌, ◌+◌, true, false, ap, sym, subst, arith}
use Rattle.far_evac.specs.declared.answers.RoundEnd.{RoundEnd}
use Rattle.far_evac.specs.declared.answers.RoundEnd.TheVariants.{Done, Limit}
use Rattle.far_evac.specs.declared.phase.Phase.TheVariants.{Waiting}
use Rattle.std.proofs.lemmas.Bool.{true≢false}
use Rattle.far_device.specs.Following.{Follows}
use Rattle.far_device.proofs.Following.{follows_itself, follows_on}
use Rattle.far_evac.specs.Failing.{fails, no_key}
use Rattle.far_evac.specs.declared.answers.Progress.{Progress}
use Rattle.far_evac.proofs.Failures.{fails_alike}
use Rattle.far_evac.specs.EvacOf.{moment}
use Rattle.far_evac.specs.Moment.{nothing, plus, progress_of, tally_of}
use Rattle.far_evac.specs.Turning.{IsCountedIn, IsWithin, most_turns, turned_at}
use Rattle.far_evac.specs.Turns.{Halts, Turned, round_end, turn_size, turns_made}
use Rattle.far_evac.proofs.Bounds.{starts_within}
use Rattle.far_evac.proofs.TurnsOn.{Made, asked_done, asked_limit, asked_stop, leads_exactly, made_more, none_made, turns_more, turns_over}
use Rattle.far_evac.proofs.Waits.{turns_wait, waiting_of}

pub loop-init : goal.loop-init
loop-init g c =
    let m = moment g.N.Near.view c.args.self.now in
    let none : tally_of c.nothing-total.result ≡ nothing = ap tally_of c.nothing-total.ensures in
    record {
      made = subst (λ total. Made g.N.Near.still g.row.D.Denot g.D.Device.writes g.D.Device.lets_go g.D.Device.contents m m 0 total c.args.self.now.book.device c.args.self.now.book.device) (sym none)
          (none_made c.args.self.now.book.device);
      exact = λ _. ap (λ total. turned_at m total false) (sym none);
      within = λ _. subst (IsWithin m) (sym none) (starts_within m c.keeps_law.ensures.law c.keeps_law.ensures.moment);
      few = λ _. subst (IsCountedIn 0) (sym none) (record { objects = omega arith; logs = omega arith });
      copying = refl;
      runs = c.requires.running;
      follows = follows_itself g.D.Device.contents g.D.Device.honest g.D.Device.faults g.D.Device.fails_at_most no_key c.args.self.now.book.device;
      came = no_call refl;
    }

-- one turn more, where no word changes but by it
exactly : (g : Over) (c : In-Ok g) → g.N.Near.still → (over : Bool) → c.in-Ok.sum.done ≡ over →
    turns_made (moment g.N.Near.view c.args.self.now) (c.loop.counter + 1) ≡ turned_at (moment g.N.Near.view c.turn_more.new.self) (tally_of c.in-Ok.sum) over
exactly g c still over is =
    let after = turned_at (moment g.N.Near.view c.turn_more.new.self) (tally_of c.in-Ok.sum) in
    turns_more (moment g.N.Near.view c.args.self.now) c.loop.counter (moment g.N.Near.view c.loop.self) (tally_of c.loop.total) (after over) (c.loop.invariant.exact still) (c.in-Ok.ensures.exact still ∙ ap after is)

pub returns-then-total-clause-asked : goal.returns-then-total-clause-asked
returns-then-total-clause-asked g c =
    let turn = c.in-Ok.ensures.turns in
    asked_done c.loop.invariant.made c.turn_more.ensures.lawful (moment g.N.Near.view c.turn_more.new.self) turn.0 (tally_of c.in-Ok.sum) c.turn_more.new.self.book.device turn.2 turn.3 turn.4 (λ still. leads_exactly (moment g.N.Near.view c.loop.self) (moment g.N.Near.view c.turn_more.new.self) (tally_of c.loop.total) (tally_of c.in-Ok.sum) c.in-Ok.sum.done (c.in-Ok.ensures.exact still))
    c.args.turns c.args.alone c.in-Ok.sum.done c.if-total.true (omega (arith, c.loop-test.true)) turn.1

pub returns-then-total-clause-exact : goal.returns-then-total-clause-exact
returns-then-total-clause-exact g c still =
    let now = exactly g (goal.at.returns-then-total-clause-exact g c).In-Ok still true c.if-total.true in
    let all = turns_over (moment g.N.Near.view c.args.self.now) (c.loop.counter + 1) c.args.turns (moment g.N.Near.view c.turn_more.new.self) (tally_of c.in-Ok.sum) (omega (arith, c.loop-test.true)) now in
    (ap (λ over. Done (progress_of (tally_of c.in-Ok.sum) over)) c.if-total.true ∙ sym (ap round_end all), sym (ap (λ (r : Turned). r.moment) all))

pub loop-preserved : goal.loop-preserved
loop-preserved g c =
    let turn = c.in-Ok.ensures.turns in
    let goes : c.loop.self.copying ≡ false → IsWithin (moment g.N.Near.view c.turn_more.new.self) (tally_of c.in-Ok.sum) = λ alone. ((c.in-Ok.ensures.goes_on alone).more c.if-total.false).0 in
    record {
      made = made_more c.loop.invariant.made c.turn_more.ensures.lawful (moment g.N.Near.view c.turn_more.new.self) turn.0 (tally_of c.in-Ok.sum) c.turn_more.new.self.book.device turn.2 turn.3 turn.4 (λ still. leads_exactly (moment g.N.Near.view c.loop.self) (moment g.N.Near.view c.turn_more.new.self) (tally_of c.loop.total) (tally_of c.in-Ok.sum) c.in-Ok.sum.done (c.in-Ok.ensures.exact still))
          c.in-Ok.sum.done c.if-total.false turn.1;
      exact = λ still. exactly g (goal.at.loop-preserved g c).In-Ok still false c.if-total.false;
      within = λ alone. goes (sym c.turn_more.ensures.copying ∙ alone);
      few = λ copies. c.in-Ok.ensures.counted (sym c.turn_more.ensures.copying ∙ copies) c.loop.counter (c.loop.invariant.few (sym c.turn_more.ensures.copying ∙ copies));
      copying = c.turn_more.ensures.copying ∙ c.loop.invariant.copying;
      runs = c.in-Ok.ensures.over ∙ c.if-total.false;
      follows = follows_on g.D.Device.contents g.D.Device.honest g.D.Device.faults g.D.Device.fails_at_most no_key false c.args.self.now.book.device c.loop.self.book.device c.turn_more.new.self.book.device c.loop.invariant.follows c.in-Ok.ensures.follows;
      came = then_came c.loop.invariant.came c.turn_more.ensures.came;
    }

pub returns-in-Err-clause-follows : goal.returns-in-Err-clause-follows
returns-in-Err-clause-follows g c =
    subst (λ b. Follows g.D.Device.contents g.D.Device.honest g.D.Device.faults g.D.Device.fails_at_most no_key b c.args.self.now.book.device c.turn_more.new.self.book.device) (fails_alike Progress RoundEnd c.in-Err.fault c.in-Err.ensures.why)
    (follows_on g.D.Device.contents g.D.Device.honest g.D.Device.faults g.D.Device.fails_at_most no_key (fails {A = Progress} (Err c.in-Err.fault)) c.args.self.now.book.device c.loop.self.book.device c.turn_more.new.self.book.device c.loop.invariant.follows c.in-Err.ensures.follows)

pub returns-then-is_waiting-clause-exact : goal.returns-then-is_waiting-clause-exact
returns-then-is_waiting-clause-exact g c still =
    let now = exactly g (goal.at.returns-then-is_waiting-clause-exact g c).In-Ok still false c.if-total.false in
    turns_wait (moment g.N.Near.view c.args.self.now) c.loop.counter c.args.turns (moment g.N.Near.view c.loop.self) (moment g.N.Near.view c.turn_more.new.self) (tally_of c.loop.total) (tally_of c.in-Ok.sum)
    (omega (arith, c.loop-test.true)) (c.loop.invariant.exact still) now (sym c.is_waiting-waited.ensures ∙ c.if-waited.true) (sym c.is_waiting.ensures ∙ c.if-is_waiting.true)

pub returns-then-is_waiting-clause-asked : goal.returns-then-is_waiting-clause-asked
returns-then-is_waiting-clause-asked g c =
    let t = moment g.N.Near.view c.turn_more.new.self in
    let turn = c.in-Ok.ensures.turns in
    let made = made_more c.loop.invariant.made c.turn_more.ensures.lawful t turn.0 (tally_of c.in-Ok.sum) c.turn_more.new.self.book.device turn.2 turn.3 turn.4 (λ still. leads_exactly (moment g.N.Near.view c.loop.self) (moment g.N.Near.view c.turn_more.new.self) (tally_of c.loop.total) (tally_of c.in-Ok.sum) c.in-Ok.sum.done (c.in-Ok.ensures.exact still)) c.in-Ok.sum.done c.if-total.false turn.1 in
    asked_limit made c.args.turns c.args.alone Waiting (omega (arith, c.loop-test.true)) (λ e. absurd (true≢false (sym c.if-alone.true ∙ e))) (sym (waiting_of t.phase (sym c.is_waiting.ensures ∙ c.if-is_waiting.true)))

pub returns-clause-asked : goal.returns-clause-asked
returns-clause-asked g c =
    asked_limit c.loop.invariant.made c.args.turns c.args.alone c.phase.result c.loop.auto.counter-end (λ _. omega (arith, c.loop.auto.counter-end, c.loop-test.false)) c.phase.ensures

pub returns-in-Err-clause-refused : goal.returns-in-Err-clause-refused
returns-in-Err-clause-refused g c =
    let stop = c.in-Err.ensures.stops in
    asked_stop c.loop.invariant.made c.turn_more.ensures.lawful (moment g.N.Near.view c.turn_more.new.self) stop.0 c.args.turns c.in-Err.fault.so_far c.in-Err.fault.why c.turn_more.new.self.book.device
    (omega (arith, c.loop-test.true)) c.in-Err.ensures.leaving stop.1 stop.3 stop.2 stop.4

pub returns-then-total-clause-came : goal.returns-then-total-clause-came
returns-then-total-clause-came g c = then_came c.loop.invariant.came c.turn_more.ensures.came

pub returns-in-Err-clause-came : goal.returns-in-Err-clause-came
returns-in-Err-clause-came g c = then_came c.loop.invariant.came c.turn_more.ensures.came

pub returns-then-is_waiting-clause-came : goal.returns-then-is_waiting-clause-came
returns-then-is_waiting-clause-came g c = then_came c.loop.invariant.came c.turn_more.ensures.came

pub turn_more-requires : goal.turn_more-requires
turn_more-requires g c = record {
  running = c.loop.invariant.runs;
  within = c.loop.invariant.within;
  few = λ copies. (c.loop.counter, few_turns c.loop.counter c.args.turns (omega (arith, c.loop-test.true)) (c.requires.few (sym c.loop.invariant.copying ∙ copies)), c.loop.invariant.few copies);
} where
  few_turns : (counter turns : ℕ) → counter < turns → turns < most_turns → counter < most_turns
  few_turns counter turns lt few = omega (arith, lt, few)

pub returns-then-total-clause-follows : goal.returns-then-total-clause-follows
returns-then-total-clause-follows g c =
    follows_on g.D.Device.contents g.D.Device.honest g.D.Device.faults g.D.Device.fails_at_most no_key false c.args.self.now.book.device c.loop.self.book.device c.turn_more.new.self.book.device c.loop.invariant.follows c.in-Ok.ensures.follows

pub returns-then-is_waiting-clause-follows : goal.returns-then-is_waiting-clause-follows
returns-then-is_waiting-clause-follows g c =
    follows_on g.D.Device.contents g.D.Device.honest g.D.Device.faults g.D.Device.fails_at_most no_key false c.args.self.now.book.device c.loop.self.book.device c.turn_more.new.self.book.device c.loop.invariant.follows c.in-Ok.ensures.follows

pub returns-in-Err-clause-why : goal.returns-in-Err-clause-why
returns-in-Err-clause-why g c = c.in-Err.ensures.why

pub returns-in-Err-clause-halts : goal.returns-in-Err-clause-halts
returns-in-Err-clause-halts g c still =
    let t = moment g.N.Near.view c.turn_more.new.self in
    let halts = c.in-Err.ensures.halts still in
    let x = c.loop.invariant.exact still in
    let lt : c.loop.counter < c.args.turns = omega (arith, c.loop-test.true) in (
      c.loop.counter,
      halts.0,
      lt,
      ap (λ (r : Turned). r.over) x,
      ap (λ (r : Turned). r.moment.phase) x ∙ c.in-Err.ensures.leaving,
      subst (λ (r : Turned). Halts r.moment turn_size t halts.0) (sym x) halts.1,
      halts.2 ∙ ap (λ (r : Turned). progress_of (plus r.tally halts.0) false) (sym x),
    )

-- ---- all were made
pub returns-clause-came : goal.returns-clause-came
returns-clause-came g c = c.loop.invariant.came

pub returns-clause-exact : goal.returns-clause-exact
returns-clause-exact g c still =
    let m = moment g.N.Near.view c.args.self.now in
    let all : c.loop.counter ≡ c.args.turns = omega (arith, c.loop.auto.counter-end, c.loop-test.false) in
    let now = sym (ap (turns_made m) all) ∙ c.loop.invariant.exact still in
    (ap (λ phase. Limit phase) c.phase.ensures ∙ sym (ap round_end now), sym (ap (λ (r : Turned). r.moment) now))

pub returns-clause-follows : goal.returns-clause-follows
returns-clause-follows g c = c.loop.invariant.follows
