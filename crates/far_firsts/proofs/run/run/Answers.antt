use Rattle.std.proofs.Common.{Bool, take, ap, ◌∙◌, sym, refl, subst, arith}
use Rattle.std.proofs.lemmas.List.{length-take-le}
use Rattle.far_firsts.specs.Causes.{Refuses}
use Rattle.far_firsts.specs.Lines.{IsPlain}
use Rattle.far_firsts.specs.Doing.{Finished, Halted, Wrote, known_of, state}
use Rattle.far_firsts.proofs.Steps.{each, each_known}
use Rattle.far_firsts.proofs.Runs.{begins, ends_there, fails, finishes, goes_on, halts, over}
use Rattle.far_firsts.proofs.run.run.Goals as goal

pub reads-init : goal.reads-init
reads-init g c = record {
  honest = refl;
  plain = subst (IsPlain c.args.end) (sym c.requires.part) tt;
  empty = c.requires.out;
  room = c.requires.room;
  went = each_known (g.R.Read.remaining c.args.input.now) _ (λ text is. begins c.args.seen.now.honest c.args.end text (state (known_of c.args.end c.args.seen.now) c.args.midst.now.part.items c.args.midst.now.count)
      (g.R.Read.remaining c.args.input.now) (g.W.Write.contents c.args.output.now) is c.requires.part);
}

pub reads-preserved : goal.reads-preserved
reads-preserved g c =
    let a = state (known_of c.args.end c.args.seen.now) c.args.midst.now.part.items c.args.midst.now.count in
    let b = state (known_of c.args.end c.reads.seen) c.reads.midst.part.items c.reads.midst.count in
    let d = state (known_of c.args.end c.work.new.seen) c.work.new.midst.part.items c.work.new.midst.count in
    record {
      honest = c.work.ensures.honest ∙ c.reads.invariant.honest;
      plain = c.in-Ok-work.ensures.plain;
      empty = c.work.ensures.empty;
      room = omega (arith, c.in-Ok.ensures.long, c.reads.invariant.room);
      went = each (g.R.Read.remaining c.args.input.now) _ _ (λ text went.
          goes_on c.args.seen.now.honest c.args.end c.reads.turn text a b (g.R.Read.remaining c.reads.input) (g.W.Write.contents c.args.output.now) (g.W.Write.contents c.reads.output) went
          d (take c.in-Ok.count c.read_some.new.out) (g.R.Read.remaining c.read_some.new.input) (g.W.Write.contents c.work.new.output)
          (omega (arith, c.if-count-eq0.false, length-take-le c.in-Ok.count c.read_some.new.out c.in-Ok.ensures.within))
          c.in-Ok.ensures.bytes.0
          (subst (λ (t : Bool). Wrote t c.args.end (take c.in-Ok.count c.read_some.new.out) b d (g.W.Write.contents c.reads.output) (g.W.Write.contents c.work.new.output)) c.reads.invariant.honest c.in-Ok-work.ensures.wrote))
          c.reads.invariant.went;
    }

pub returns-in-Err : goal.returns-in-Err
returns-in-Err g c =
    let a = state (known_of c.args.end c.args.seen.now) c.args.midst.now.part.items c.args.midst.now.count in
    let b = state (known_of c.args.end c.reads.seen) c.reads.midst.part.items c.reads.midst.count in
    each (g.R.Read.remaining c.args.input.now) _ _ (λ text went.
    fails c.args.seen.now.honest c.args.end c.reads.turn text a b (g.R.Read.remaining c.reads.input) (g.W.Write.contents c.args.output.now) (g.W.Write.contents c.reads.output) went
    c.args.longest (Refuses g.O.Objects.unmade g.O.Objects.unreached c.args.seen.now.honest) c.requires.none c.requires.stamps c.requires.part c.requires.count c.reads.midst.count _ (g.R.Read.remaining c.read_some.new.input) refl c.reads.invariant.plain
    c.in-Err.ensures.bytes (λ x. x))
    c.reads.invariant.went

pub returns-then-count-eq0 : goal.returns-then-count-eq0
returns-then-count-eq0 g c =
    let refuses = Refuses g.O.Objects.unmade g.O.Objects.unreached in
    let a = state (known_of c.args.end c.args.seen.now) c.args.midst.now.part.items c.args.midst.now.count in
    let b = state (known_of c.args.end c.reads.seen) c.reads.midst.part.items c.reads.midst.count in
    each (g.R.Read.remaining c.args.input.now) _ _ (λ text went.
    finishes c.args.seen.now.honest c.args.end c.reads.turn text a b (g.R.Read.remaining c.reads.input) (g.W.Write.contents c.args.output.now) (g.W.Write.contents c.reads.output) went
    c.args.longest (refuses c.args.seen.now.honest) c.requires.none c.requires.stamps c.requires.part c.requires.count c.finish.result.lines c.finish.result.why (g.R.Read.remaining c.read_some.new.input) (g.W.Write.contents c.finish.new.output)
    (over (g.R.Read.remaining c.reads.input) (g.R.Read.remaining c.read_some.new.input) went.rest (take c.in-Ok.count c.read_some.new.out) went.is_left
    (ap (λ k. take k c.read_some.new.out) c.if-count-eq0.true) c.in-Ok.ensures.bytes.0
    (c.in-Ok.ensures.bytes.1 c.if-count-eq0.true (omega (arith, c.in-Ok.ensures.long, c.reads.invariant.room))))
    c.reads.invariant.plain
    (subst (λ (t : Bool). Finished c.args.longest (refuses t) t c.args.end b c.finish.result.lines c.finish.result.why (g.W.Write.contents c.reads.output) (g.W.Write.contents c.finish.new.output)) c.reads.invariant.honest c.finish.ensures))
    c.reads.invariant.went

pub returns-in-Err-work : goal.returns-in-Err-work
returns-in-Err-work g c =
    let refuses = Refuses g.O.Objects.unmade g.O.Objects.unreached in
    let a = state (known_of c.args.end c.args.seen.now) c.args.midst.now.part.items c.args.midst.now.count in
    let b = state (known_of c.args.end c.reads.seen) c.reads.midst.part.items c.reads.midst.count in
    let chunk = take c.in-Ok.count c.read_some.new.out in
    each (g.R.Read.remaining c.args.input.now) _ _ (λ text went.
    halts c.args.seen.now.honest c.args.end c.reads.turn text a b (g.R.Read.remaining c.reads.input) (g.W.Write.contents c.args.output.now) (g.W.Write.contents c.reads.output) went
    c.args.longest (refuses c.args.seen.now.honest) c.requires.none c.requires.stamps c.requires.part c.requires.count chunk c.work.new.midst.count c.in-Err-work.why (g.R.Read.remaining c.read_some.new.input) (g.W.Write.contents c.work.new.output)
    c.in-Ok.ensures.bytes.0
    (subst (λ (t : Bool). Halted c.args.longest (refuses t) t c.args.end chunk b c.work.new.midst.count c.in-Err-work.why (g.W.Write.contents c.reads.output) (g.W.Write.contents c.work.new.output)) c.reads.invariant.honest c.in-Err-work.ensures.halted))
    c.reads.invariant.went

pub returns : goal.returns
returns g c =
    let a = state (known_of c.args.end c.args.seen.now) c.args.midst.now.part.items c.args.midst.now.count in
    let b = state (known_of c.args.end c.reads.seen) c.reads.midst.part.items c.reads.midst.count in
    each (g.R.Read.remaining c.args.input.now) _ _ (λ text went.
    ends_there c.args.seen.now.honest c.args.end c.reads.turn text a b (g.R.Read.remaining c.reads.input) (g.W.Write.contents c.args.output.now) (g.W.Write.contents c.reads.output) went
    c.args.longest (Refuses g.O.Objects.unmade g.O.Objects.unreached c.args.seen.now.honest) c.requires.none c.requires.stamps c.requires.part c.requires.count c.reads.midst.count refl (omega arith))
    c.reads.invariant.went
