use Rattle.std.proofs.Common.{Bool, false, [], take, ap, ◌∙◌, sym, refl, subst, arith}
use Rattle.std.proofs.lemmas.List.{length-take-le}
use Rattle.far_firsts.specs.Causes.{Refuses}
use Rattle.far_firsts.specs.Doing.{IsWhyHalt, Stopped}
use Rattle.far_firsts.specs.Tallying.{Came, Last, midst}
use Rattle.far_firsts.specs.declared.end.Why.TheVariants.{Input, TooMany}
use Rattle.far_firsts.proofs.Runs.{over}
use Rattle.far_firsts.proofs.Steps.{each}
use Rattle.far_firsts.proofs.Tallying.{at_end, ends_there, fails, finishes, goes_on, halts, last_fails}
use Rattle.far_firsts.proofs.count.count_input.Goals as goal

pub returns-in-Err-clause-stopped : goal.returns-in-Err-clause-stopped
returns-in-Err-clause-stopped g c =
    let refuses = Refuses g.O.Objects.unmade g.O.Objects.unreached c.args.tally.now.honest in
    each (g.R.Read.remaining c.args.input.now) _ _ (λ text gone.
    at_end c.args.longest refuses c.args.end c.reads.midst.count c.end_at.result.lines (Input c.in-Err.e) c.end_at.result.why text (g.R.Read.remaining c.read_some.new.input) c.end_at.ensures.lines c.end_at.ensures.why
    (fails c.args.tally.now.honest c.args.end c.reads.turn text c.reads.midst.part.items c.reads.midst.count c.args.tally.now c.reads.tally (g.R.Read.remaining c.reads.input) gone c.args.longest refuses
    c.reads.midst.count (Input c.in-Err.e) (g.R.Read.remaining c.read_some.new.input) refl c.reads.invariant.plain c.in-Err.ensures.bytes (λ x. x)))
    c.reads.invariant.gone

pub reads-preserved : goal.reads-preserved
reads-preserved g c = record {
  honest = c.count_bytes.ensures.honest ∙ c.reads.invariant.honest;
  plain = c.in-Ok-count_bytes.ensures.plain;
  out = c.count_bytes.ensures.out ∙ c.reads.invariant.out;
  room = omega (arith, c.in-Ok.ensures.long, c.reads.invariant.room);
  gone = each (g.R.Read.remaining c.args.input.now) _ _ (λ text gone.
      goes_on c.args.tally.now.honest c.args.end c.reads.turn text c.reads.midst.part.items c.reads.midst.count c.args.tally.now c.reads.tally (g.R.Read.remaining c.reads.input) gone
      (take c.in-Ok.count c.read_some.new.out) c.count_bytes.new.midst.part.items c.count_bytes.new.midst.count c.count_bytes.new.tally (g.R.Read.remaining c.read_some.new.input)
      (omega (arith, c.if-count-eq0.false, length-take-le c.in-Ok.count c.read_some.new.out c.in-Ok.ensures.within))
      c.in-Ok.ensures.bytes.0
      (subst (λ (t : Bool). Came t c.args.end (take c.in-Ok.count c.read_some.new.out) c.reads.midst.part.items c.reads.midst.count c.count_bytes.new.midst.part.items c.count_bytes.new.midst.count c.reads.tally c.count_bytes.new.tally)
      c.reads.invariant.honest c.in-Ok-count_bytes.ensures.came))
      c.reads.invariant.gone;
}

pub returns-in-Ok-count_last-clause-whole : goal.returns-in-Ok-count_last-clause-whole
returns-in-Ok-count_last-clause-whole g c =
    let refuses = Refuses g.O.Objects.unmade g.O.Objects.unreached c.args.tally.now.honest in
    each (g.R.Read.remaining c.args.input.now) _ _ (λ text gone.
    finishes c.args.tally.now.honest c.args.end c.reads.turn text c.reads.midst.part.items c.reads.midst.count c.args.tally.now c.reads.tally (g.R.Read.remaining c.reads.input) gone c.args.longest refuses
    c.in-Ok-count_last.lines c.count_last.new.tally
    (over (g.R.Read.remaining c.reads.input) (g.R.Read.remaining c.read_some.new.input) gone.rest (take c.in-Ok.count c.read_some.new.out) gone.is_left
    (ap (λ k. take k c.read_some.new.out) c.if-count-eq0.true) c.in-Ok.ensures.bytes.0
    (c.in-Ok.ensures.bytes.1 c.if-count-eq0.true (omega (arith, c.in-Ok.ensures.long, c.reads.invariant.room))))
    c.reads.invariant.plain
    (subst (λ (t : Bool). Last t c.args.end c.reads.midst.part.items c.reads.midst.count c.in-Ok-count_last.lines c.reads.tally c.count_last.new.tally) c.reads.invariant.honest c.in-Ok-count_last.ensures.last))
    c.reads.invariant.gone

pub returns-in-Err-count_last-clause-stopped : goal.returns-in-Err-count_last-clause-stopped
returns-in-Err-count_last-clause-stopped g c =
    let refuses = Refuses g.O.Objects.unmade g.O.Objects.unreached in
    each (g.R.Read.remaining c.args.input.now) _ _ (λ text gone.
    at_end c.args.longest (refuses c.args.tally.now.honest) c.args.end c.count_last.new.midst.count c.end_at-in-Err-count_last.result.lines c.in-Err-count_last.why c.end_at-in-Err-count_last.result.why text (g.R.Read.remaining c.read_some.new.input)
    c.end_at-in-Err-count_last.ensures.lines c.end_at-in-Err-count_last.ensures.why
    (last_fails c.args.tally.now.honest c.args.end c.reads.turn text c.reads.midst.part.items c.reads.midst.count c.args.tally.now c.reads.tally (g.R.Read.remaining c.reads.input) gone c.args.longest (refuses c.args.tally.now.honest)
    c.count_last.new.midst.count c.in-Err-count_last.why (g.R.Read.remaining c.read_some.new.input) (sym c.in-Err-count_last.ensures.same)
    (subst (λ (t : Bool). IsWhyHalt c.args.longest (refuses t) c.args.end (midst c.reads.midst.part.items c.reads.midst.count) c.in-Err-count_last.why) c.reads.invariant.honest c.in-Err-count_last.ensures.halts)))
    c.reads.invariant.gone

pub returns-in-Err-count_bytes-clause-stopped : goal.returns-in-Err-count_bytes-clause-stopped
returns-in-Err-count_bytes-clause-stopped g c =
    let refuses = Refuses g.O.Objects.unmade g.O.Objects.unreached in
    let chunk = take c.in-Ok.count c.read_some.new.out in
    each (g.R.Read.remaining c.args.input.now) _ _ (λ text gone.
    at_end c.args.longest (refuses c.args.tally.now.honest) c.args.end c.count_bytes.new.midst.count c.end_at-in-Err-count_bytes.result.lines c.in-Err-count_bytes.why c.end_at-in-Err-count_bytes.result.why text (g.R.Read.remaining c.read_some.new.input)
    c.end_at-in-Err-count_bytes.ensures.lines c.end_at-in-Err-count_bytes.ensures.why
    (halts c.args.tally.now.honest c.args.end c.reads.turn text c.reads.midst.part.items c.reads.midst.count c.args.tally.now c.reads.tally (g.R.Read.remaining c.reads.input) gone c.args.longest (refuses c.args.tally.now.honest)
    chunk c.count_bytes.new.midst.count c.in-Err-count_bytes.why (g.R.Read.remaining c.read_some.new.input) c.in-Ok.ensures.bytes.0
    (subst (λ (t : Bool). Stopped c.args.longest (refuses t) false c.args.end chunk (midst c.reads.midst.part.items c.reads.midst.count) c.count_bytes.new.midst.count c.in-Err-count_bytes.why [] []) c.reads.invariant.honest c.in-Err-count_bytes.ensures.stopped)))
    c.reads.invariant.gone

pub returns-clause-stopped : goal.returns-clause-stopped
returns-clause-stopped g c =
    let refuses = Refuses g.O.Objects.unmade g.O.Objects.unreached c.args.tally.now.honest in
    each (g.R.Read.remaining c.args.input.now) _ _ (λ text gone.
    at_end c.args.longest refuses c.args.end c.reads.midst.count c.end_at-2.result.lines TooMany c.end_at-2.result.why text (g.R.Read.remaining c.reads.input) c.end_at-2.ensures.lines c.end_at-2.ensures.why
    (ends_there c.args.tally.now.honest c.args.end c.reads.turn text c.reads.midst.part.items c.reads.midst.count c.args.tally.now c.reads.tally (g.R.Read.remaining c.reads.input) gone c.args.longest refuses
    c.reads.midst.count refl (omega arith)))
    c.reads.invariant.gone
