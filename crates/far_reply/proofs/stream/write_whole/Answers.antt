use Rattle.std.proofs.Common.{arith}
use Rattle.far_reply.proofs.Streams.{wrote_more, write_fits}
use Rattle.far_reply.proofs.stream.write_whole.Goals as goal

pub loop-done-preserved : goal.loop-done-preserved
loop-done-preserved g c = record {
  fits = write_fits c.loop-done.done c.in-Ok.n c.args.bytes.now (omega arith) c.in-Ok.ensures.bound;
  bytes = wrote_more _ _ _ c.args.bytes.now c.loop-done.done c.in-Ok.n c.loop-done.invariant.bytes c.in-Ok.ensures.bytes;
}
