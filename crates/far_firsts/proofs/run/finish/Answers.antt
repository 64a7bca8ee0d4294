use Rattle.std.proofs.Common.{sym, arith}
use Rattle.std.proofs.lemmas.Bool.{eqb-false, eqb-true}
use Rattle.std.proofs.lemmas.List.{nil_from_length}
use Rattle.far_firsts.specs.Causes.{Refuses}
use Rattle.far_firsts.specs.Doing.{known_of}
use Rattle.far_firsts.proofs.Halts.{finished_last, finished_none, finished_refused}
use Rattle.far_firsts.proofs.run.finish.Goals as goal

pub returns-then-is_empty : goal.returns-then-is_empty
returns-then-is_empty g c = finished_none c.args.longest (Refuses g.O.Objects.unmade g.O.Objects.unreached c.args.seen.now.honest) c.args.seen.now.honest c.args.end (known_of c.args.end c.args.seen.now) c.args.midst.now.part.items c.args.midst.now.count (g.W.Write.contents c.args.output.now)
    (nil_from_length c.args.midst.now.part.items (omega (arith, eqb-true _ _ (sym c.if-is_empty.ensures), c.args.midst.now.part.ok.0)))

pub returns-in-Err : goal.returns-in-Err
returns-in-Err g c =
    finished_refused c.args.longest (Refuses g.O.Objects.unmade g.O.Objects.unreached c.args.seen.now.honest) c.args.seen.now.honest c.args.end (known_of c.args.end c.args.seen.now) c.args.midst.now.part.items c.args.midst.now.count c.take_end.new.midst.count c.in-Err.why (g.W.Write.contents c.args.output.now)
    c.requires.plain (λ e. eqb-false _ _ (sym c.if-is_empty.ensures) (omega (arith, e, c.args.midst.now.part.ok.0))) c.in-Err.ensures.why c.in-Err.ensures.counted

pub returns-in-Ok-let_out : goal.returns-in-Ok-let_out
returns-in-Ok-let_out g c =
    finished_last c.args.longest (Refuses g.O.Objects.unmade g.O.Objects.unreached c.args.seen.now.honest) c.args.seen.now.honest c.args.end (known_of c.args.end c.args.seen.now) (known_of c.args.end c.take_end.new.seen) c.args.midst.now.part.items c.args.midst.now.out.items c.take_end.new.midst.out.items
    c.args.midst.now.count c.take_end.new.midst.count _ (g.W.Write.contents c.args.output.now) (g.W.Write.contents c.let_out.new.output) c.requires.plain (λ e. eqb-false _ _ (sym c.if-is_empty.ensures) (omega (arith, e, c.args.midst.now.part.ok.0))) c.in-Ok.ensures.count c.requires.out c.in-Ok.ensures.added tt c.in-Ok-let_out.ensures.all

pub returns-in-Err-let_out : goal.returns-in-Err-let_out
returns-in-Err-let_out g c =
    finished_last c.args.longest (Refuses g.O.Objects.unmade g.O.Objects.unreached c.args.seen.now.honest) c.args.seen.now.honest c.args.end (known_of c.args.end c.args.seen.now) (known_of c.args.end c.take_end.new.seen) c.args.midst.now.part.items c.args.midst.now.out.items c.take_end.new.midst.out.items
    c.args.midst.now.count c.take_end.new.midst.count _ (g.W.Write.contents c.args.output.now) (g.W.Write.contents c.let_out.new.output) c.requires.plain (λ e. eqb-false _ _ (sym c.if-is_empty.ensures) (omega (arith, e, c.args.midst.now.part.ok.0))) c.in-Ok.ensures.count c.requires.out c.in-Ok.ensures.added tt c.in-Err-let_out.ensures.part
