use Rattle.std.proofs.Common.{arith}
use Rattle.std.proofs.KnownBytes.{Appends-nil}
use Rattle.std.proofs.lemmas.List.{take_rest}
use Rattle.far_firsts.proofs.Outputs.{any_err, any_ok, part_all, part_more, part_only}
use Rattle.far_firsts.proofs.write.write_out.Goals as goal

pub loop-done-init : goal.loop-done-init
loop-done-init g c = record { within = omega arith; part = Appends-nil (g.W.Write.contents c.args.output.now) }

pub loop-done-preserved : goal.loop-done-preserved
loop-done-preserved g c = record {
  within = omega (arith, c.in-Ok.ensures.within);
  part = part_more (g.W.Write.contents c.args.output.now) (g.W.Write.contents c.loop-done.output) (g.W.Write.contents c.write_some.new.output) c.args.bytes.now c.loop-done.done c.in-Ok.n
      c.loop-done.invariant.part (rw take_rest at c.in-Ok.ensures.bytes);
}

pub returns-in-Err-clause-part : goal.returns-in-Err-clause-part
returns-in-Err-clause-part g c = part_only (g.W.Write.contents c.args.output.now) (g.W.Write.contents c.loop-done.output) (g.W.Write.contents c.write_some.new.output) c.args.bytes.now c.loop-done.done c.loop-done.invariant.part c.in-Err.ensures.bytes

pub returns-clause-all : goal.returns-clause-all
returns-clause-all g c =
    any_ok c.flush.result _ (part_all (g.W.Write.contents c.args.output.now) (g.W.Write.contents c.loop-done.output) (g.W.Write.contents c.flush.new.self) c.args.bytes.now c.loop-done.done
    (omega arith) c.loop-done.invariant.part c.flush.ensures.bytes)

pub returns-clause-part : goal.returns-clause-part
returns-clause-part g c =
    any_err c.flush.result _ (part_only (g.W.Write.contents c.args.output.now) (g.W.Write.contents c.loop-done.output) (g.W.Write.contents c.flush.new.self) c.args.bytes.now c.loop-done.done c.loop-done.invariant.part c.flush.ensures.bytes)
