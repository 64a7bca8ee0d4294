use Rattle.std.proofs.Common.{◌+◌, Bool, List, ℕ, length, take, drop, ◌++◌, refl, sym, ◌∙◌, subst, arith}
use Rattle.far_firsts.specs.Tallying.{no_set}
use Rattle.std.proofs.lemmas.List.{take_rest}
use Rattle.far_firsts.specs.Causes.{IsWhyNext, Refuses}
use Rattle.far_firsts.specs.Lines.{IsPlain}
use Rattle.far_firsts.proofs.Causes.{end_halts, keep_halts}
use Rattle.far_firsts.proofs.Cuts.{all_plain, cut_at, plain_join, plain_to}
use Rattle.far_firsts.proofs.Tallying.{Eaten, came_line, eaten_stops, line_eaten}
use Rattle.far_firsts.proofs.count.count_bytes.Goals as goal

pub loop-i-preserved : goal.loop-i-preserved
loop-i-preserved g c =
    let rest = c.loop-i.rest.now in
    let piece = take c.in-Some.i rest in
    record {
      honest = c.count_end.ensures.honest ∙ c.loop-i.invariant.honest;
      plain = subst (IsPlain c.args.end) (sym c.in-Ok.ensures.part) tt;
      out = c.count_end.ensures.out ∙ c.loop-i.invariant.out;
      so = subst (λ (r : List ℕ). Eaten c.args.tally.now.honest c.args.end c.args.bytes.now c.args.midst.now.part.items c.args.midst.now.count c.count_end.new.midst.part.items c.count_end.new.midst.count c.args.tally.now c.count_end.new.tally r)
          (sym (take_rest rest (c.in-Some.i + 1)))
          (line_eaten c.args.tally.now.honest c.args.end c.args.bytes.now c.args.midst.now.part.items c.args.midst.now.count c.loop-i.midst.part.items c.loop-i.midst.count c.count_end.new.midst.part.items c.count_end.new.midst.count
          c.args.tally.now c.loop-i.tally c.count_end.new.tally rest piece (drop (c.in-Some.i + 1) rest) c.loop-i.invariant.so
          (cut_at c.args.end c.in-Some.i rest c.in-Some.ensures.0.high c.in-Some.ensures.1)
          (came_line c.args.tally.now.honest c.args.end c.loop-i.midst.part.items piece c.count_end.new.midst.part.items c.loop-i.midst.count c.count_end.new.midst.count c.loop-i.tally c.count_end.new.tally
          c.loop-i.invariant.plain (plain_to c.args.end rest c.in-Some.i (omega (arith, c.in-Some.ensures.0.high)) c.in-Some.ensures.0.before) c.in-Ok.ensures.count c.in-Ok.ensures.part
          (c.in-Ok.ensures.total, c.count_end.ensures.seed, c.in-Ok.ensures.stamps, λ h. c.in-Ok.ensures.counted (c.loop-i.invariant.honest ∙ h))));
    }

pub returns-in-Err-clause-stopped : goal.returns-in-Err-clause-stopped
returns-in-Err-clause-stopped g c =
    let rest = c.loop-i.rest.now in
    let piece = take c.in-Some.i rest in
    let refuses = Refuses g.O.Objects.unmade g.O.Objects.unreached in
    eaten_stops c.args.longest (refuses c.args.tally.now.honest) c.args.tally.now.honest c.args.end c.args.bytes.now c.args.midst.now.part.items c.args.midst.now.count c.loop-i.midst.part.items c.loop-i.midst.count
    c.count_end.new.midst.count c.args.tally.now c.loop-i.tally rest c.in-Err.why c.loop-i.invariant.so c.in-Err.ensures.same
    (end_halts c.args.longest (refuses c.args.tally.now.honest) c.args.end no_set c.loop-i.midst.part.items piece c.loop-i.midst.count c.loop-i.invariant.plain
    (plain_to c.args.end rest c.in-Some.i (omega (arith, c.in-Some.ensures.0.high)) c.in-Some.ensures.0.before)
    rest (drop (c.in-Some.i + 1) rest) c.in-Err.why (cut_at c.args.end c.in-Some.i rest c.in-Some.ensures.0.high c.in-Some.ensures.1)
    (subst (λ (t : Bool). IsWhyNext c.args.longest (refuses t) c.loop-i.midst.count (length (c.loop-i.midst.part.items ++ piece)) c.in-Err.why) c.loop-i.invariant.honest c.in-Err.ensures.why))

pub returns-in-Ok-keep-clause-plain : goal.returns-in-Ok-keep-clause-plain
returns-in-Ok-keep-clause-plain g c =
    subst (IsPlain c.args.end) (sym c.in-Ok-keep.ensures.kept) (plain_join c.args.end c.loop-i.midst.part.items c.loop-i.rest.now c.loop-i.invariant.plain (all_plain c.args.end c.loop-i.rest.now c.in_default.ensures))

pub returns-in-Err-keep-clause-stopped : goal.returns-in-Err-keep-clause-stopped
returns-in-Err-keep-clause-stopped g c =
    let refuses = Refuses g.O.Objects.unmade g.O.Objects.unreached c.args.tally.now.honest in
    eaten_stops c.args.longest refuses c.args.tally.now.honest c.args.end c.args.bytes.now c.args.midst.now.part.items c.args.midst.now.count c.loop-i.midst.part.items c.loop-i.midst.count
    c.loop-i.midst.count c.args.tally.now c.loop-i.tally c.loop-i.rest.now _ c.loop-i.invariant.so refl
    (keep_halts c.args.longest refuses c.args.end no_set c.loop-i.midst.part.items c.loop-i.rest.now c.loop-i.midst.count c.loop-i.invariant.plain
    (all_plain c.args.end c.loop-i.rest.now c.in_default.ensures) c.in-Err-keep.why c.in-Err-keep.ensures.why)
