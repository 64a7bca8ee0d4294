use Rattle.std.proofs.Common.{◌≡◌, ℕ, ◌+◌, Bool, List, ◌++◌, length, take, drop, refl, sym, ◌∙◌, subst, arith}
use Rattle.std.proofs.lemmas.List.{take_rest}
use Rattle.far_firsts.specs.Causes.{IsWhyNext, Refuses}
use Rattle.far_firsts.specs.Lines.{IsPlain}
use Rattle.far_firsts.specs.Doing.{Added, Did, known_of, state}
use Rattle.far_firsts.proofs.Causes.{end_halts, keep_halts}
use Rattle.far_firsts.proofs.Cuts.{all_plain, cut_at, plain_join, plain_to}
use Rattle.far_firsts.proofs.Steps.{all_taken, line_taken, none_taken, one_line, stopped_at}
use Rattle.far_firsts.proofs.bytes.take_bytes.Goals as goal

pub loop-i-init : goal.loop-i-init
loop-i-init g c = record {
  honest = refl;
  plain = c.requires;
  so = none_taken c.args.seen.now.honest c.args.end c.args.bytes.now (state (known_of c.args.end c.args.seen.now) c.args.midst.now.part.items c.args.midst.now.count) c.args.midst.now.out.items;
}

pub loop-i-preserved : goal.loop-i-preserved
loop-i-preserved g c =
    let so = c.loop-i.invariant.so in
    let rest = c.loop-i.rest.now in
    let piece = take c.in-Some.i rest in
    record {
      honest = c.take_end.ensures.honest ∙ c.loop-i.invariant.honest;
      plain = subst (IsPlain c.args.end) (sym c.in-Ok.ensures.part) tt;
      so = subst (λ (r : List ℕ). (eaten : List ℕ) × (c.args.bytes.now ≡ eaten ++ r)
          × Did c.args.seen.now.honest c.args.end eaten (state (known_of c.args.end c.args.seen.now) c.args.midst.now.part.items c.args.midst.now.count)
          (state (known_of c.args.end c.take_end.new.seen) c.take_end.new.midst.part.items c.take_end.new.midst.count) c.args.midst.now.out.items c.take_end.new.midst.out.items) (sym (take_rest rest (c.in-Some.i + 1)))
          (line_taken c.args.seen.now.honest c.args.end c.args.bytes.now so.0 rest piece (drop (c.in-Some.i + 1) rest) (state (known_of c.args.end c.args.seen.now) c.args.midst.now.part.items c.args.midst.now.count)
          (known_of c.args.end c.loop-i.seen) (known_of c.args.end c.take_end.new.seen) c.loop-i.midst.part.items c.take_end.new.midst.part.items c.loop-i.midst.count c.take_end.new.midst.count
          c.args.midst.now.out.items c.loop-i.midst.out.items c.take_end.new.midst.out.items so.1 so.2
          (cut_at c.args.end c.in-Some.i rest c.in-Some.ensures.0.high c.in-Some.ensures.1)
          (one_line c.args.seen.now.honest c.args.end (known_of c.args.end c.loop-i.seen) (known_of c.args.end c.take_end.new.seen) c.loop-i.midst.part.items piece c.take_end.new.midst.part.items c.loop-i.midst.count c.take_end.new.midst.count
          c.loop-i.midst.out.items c.take_end.new.midst.out.items c.loop-i.invariant.plain (plain_to c.args.end rest c.in-Some.i (omega (arith, c.in-Some.ensures.0.high)) c.in-Some.ensures.0.before) c.in-Ok.ensures.count c.in-Ok.ensures.part
          (subst (λ (t : Bool). Added t c.args.end (known_of c.args.end c.loop-i.seen) (known_of c.args.end c.take_end.new.seen) (c.loop-i.midst.part.items ++ piece) c.loop-i.midst.out.items c.take_end.new.midst.out.items) c.loop-i.invariant.honest c.in-Ok.ensures.added)));
    }

pub returns-in-Err-clause-stopped : goal.returns-in-Err-clause-stopped
returns-in-Err-clause-stopped g c =
    let so = c.loop-i.invariant.so in
    let rest = c.loop-i.rest.now in
    let piece = take c.in-Some.i rest in
    let refuses = Refuses g.O.Objects.unmade g.O.Objects.unreached in
    stopped_at c.args.longest (refuses c.args.seen.now.honest) c.args.seen.now.honest c.args.end c.args.bytes.now so.0 rest (state (known_of c.args.end c.args.seen.now) c.args.midst.now.part.items c.args.midst.now.count)
    (known_of c.args.end c.loop-i.seen) c.loop-i.midst.part.items c.loop-i.midst.count
    c.take_end.new.midst.count c.in-Err.why c.args.midst.now.out.items c.loop-i.midst.out.items c.take_end.new.midst.out.items so.1 so.2 c.in-Err.ensures.counted c.in-Err.ensures.out
    (end_halts c.args.longest (refuses c.args.seen.now.honest) c.args.end (known_of c.args.end c.loop-i.seen) c.loop-i.midst.part.items piece c.loop-i.midst.count c.loop-i.invariant.plain
    (plain_to c.args.end rest c.in-Some.i (omega (arith, c.in-Some.ensures.0.high)) c.in-Some.ensures.0.before)
    rest (drop (c.in-Some.i + 1) rest) c.in-Err.why (cut_at c.args.end c.in-Some.i rest c.in-Some.ensures.0.high c.in-Some.ensures.1)
    (subst (λ (t : Bool). IsWhyNext c.args.longest (refuses t) c.loop-i.midst.count (length (c.loop-i.midst.part.items ++ piece)) c.in-Err.why) c.loop-i.invariant.honest c.in-Err.ensures.why))

pub returns-in-Ok-keep : goal.returns-in-Ok-keep
returns-in-Ok-keep g c =
    let so = c.loop-i.invariant.so in
    record {
      honest = c.loop-i.invariant.honest;
      plain = subst (IsPlain c.args.end) (sym c.in-Ok-keep.ensures.kept) (plain_join c.args.end c.loop-i.midst.part.items c.loop-i.rest.now c.loop-i.invariant.plain (all_plain c.args.end c.loop-i.rest.now c.in_default.ensures));
      did = all_taken c.args.seen.now.honest c.args.end c.args.bytes.now so.0 c.loop-i.rest.now (state (known_of c.args.end c.args.seen.now) c.args.midst.now.part.items c.args.midst.now.count)
          (known_of c.args.end c.loop-i.seen) c.loop-i.midst.part.items c.keep.new.part.items c.loop-i.midst.count c.args.midst.now.out.items c.loop-i.midst.out.items so.1 so.2 c.in-Ok-keep.ensures.kept;
      stopped = tt;
    }

pub returns-in-Err-keep-clause-stopped : goal.returns-in-Err-keep-clause-stopped
returns-in-Err-keep-clause-stopped g c =
    let so = c.loop-i.invariant.so in
    stopped_at c.args.longest (Refuses g.O.Objects.unmade g.O.Objects.unreached c.args.seen.now.honest) c.args.seen.now.honest c.args.end c.args.bytes.now so.0 c.loop-i.rest.now (state (known_of c.args.end c.args.seen.now) c.args.midst.now.part.items c.args.midst.now.count)
    (known_of c.args.end c.loop-i.seen) c.loop-i.midst.part.items c.loop-i.midst.count
    c.loop-i.midst.count _ c.args.midst.now.out.items c.loop-i.midst.out.items c.loop-i.midst.out.items so.1 so.2 refl refl
    (keep_halts c.args.longest (Refuses g.O.Objects.unmade g.O.Objects.unreached c.args.seen.now.honest) c.args.end (known_of c.args.end c.loop-i.seen) c.loop-i.midst.part.items c.loop-i.rest.now c.loop-i.midst.count c.loop-i.invariant.plain
    (all_plain c.args.end c.loop-i.rest.now c.in_default.ensures) c.in-Err-keep.why c.in-Err-keep.ensures.why)
