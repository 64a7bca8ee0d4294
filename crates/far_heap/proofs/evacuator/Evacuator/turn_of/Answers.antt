use Rattle.std.proofs.Common.{[], ap, sym, refl, ◌∙◌}
use Rattle.std.proofs.lemmas.Bool.{false≢true}
use Rattle.far_evac.specs.EvacOf.{moment}
use Rattle.far_evac.specs.Moment.{tally_of}
use Rattle.far_evac.specs.MomentLaw.{is_idle}
use Rattle.far_table.specs.BookSeats.{seat_view}
use Rattle.far_heap.proofs.RoundRests.{rest_is, rest_stopped, rest_turned, runs_on}
use Rattle.far_heap.proofs.evacuator.Evacuator.turn_of.Goals as goal

pub returns-then-not-is_round_of-clause-refused : goal.returns-then-not-is_round_of-clause-refused
returns-then-not-is_round_of-clause-refused g c =
    let k = c.keeps_law.ensures in
    let other = sym c.is_round_of.ensures ∙ c.if-not-is_round_of.true in record {
      named = k.named;
      lawful = (k.law, k.moment);
      came = record { calls = []; runs = refl };
      barred = λ _. (refl, ap tally_of c.nothing.ensures, refl);
      stops = λ runs. absurd (false≢true (sym other ∙ runs));
      asked = λ runs. absurd (false≢true (sym other ∙ runs));
    }

pub returns-in-Ok-clause-made : goal.returns-in-Ok-clause-made
returns-in-Ok-clause-made g c =
    let k = c.keeps_law.ensures in
    let t = c.in-Ok.ensures in
    let now = c.args.self.now in
    let then = c.turn.new.self in
    let runs = sym c.is_round_of.ensures ∙ c.if-not-is_round_of.false in
    let rest = rest_is now.copying c.args.chosen.now now.collection runs in record {
      named = k.named;
      lawful = (k.law, k.moment);
      running = runs;
      came = t.came;
      turns = t.turns;
      asked = t.asked;
      left = rest_turned c.args.chosen.now (moment seat_view now) (moment seat_view then) k.law k.moment rest (tally_of c.in-Ok.made) c.in-Ok.made.done t.turns;
      none = c.keeps_law-in-Ok.ensures.moment.runs ∙ t.goes_on;
      stands = sym c.phase.ensures;
      ends = ap is_idle c.phase.ensures ∙ t.goes_on;
    }

pub returns-in-Err-clause-refused : goal.returns-in-Err-clause-refused
returns-in-Err-clause-refused g c =
    let k = c.keeps_law.ensures in
    let t = c.in-Err.ensures in
    let now = c.args.self.now in
    let then = c.turn.new.self in
    let runs = sym c.is_round_of.ensures ∙ c.if-not-is_round_of.false in
    let rest = rest_is now.copying c.args.chosen.now now.collection runs in
    let busy = runs_on now.copying c.args.chosen.now (moment seat_view now) k.moment runs in
    let stop = t.stops busy in record {
      named = k.named;
      lawful = (k.law, k.moment);
      came = t.came;
      barred = λ other. absurd (false≢true (sym other ∙ runs));
      stops = λ _. (
        t.why busy,
        stop.0,
        t.stays ∙ stop.0,
        rest_stopped c.args.chosen.now (moment seat_view now) (moment seat_view then) k.law k.moment rest _ (tally_of c.in-Err.fault.so_far) stop.0 stop.1,
        stop.1,
      );
      asked = λ _. t.refused busy;
    }
