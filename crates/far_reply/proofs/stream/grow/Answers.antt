use Rattle.std.proofs.Common.{◌+◌, arith, vec_len}
use Rattle.far_reply.proofs.Streams.{kept_after}
use Rattle.far_reply.proofs.stream.grow.Goals as goal

pub loop-buffer-preserved : goal.loop-buffer-preserved
loop-buffer-preserved c =
    let items = rw c.unwrap.ensures at c.resize.ensures.items in
    let grown = rw c.unwrap.ensures at c.resize.ensures.len in
    let was = c.loop-buffer.buffer.ok.0 in
    record {
      taken = omega (arith, c.resize.ensures.capacity);
      buffer = omega (arith, c.resize.ensures.capacity);
      more = omega arith;
      most = omega arith;
      kept = kept_after _ c.loop-buffer.buffer.items c.resize.new.self.items _ (vec_len c.args.buffer.now) (c.len-in-loop-buffer.result + c.min.result) c.loop-buffer.invariant.kept items (omega arith) (omega arith);
    }
