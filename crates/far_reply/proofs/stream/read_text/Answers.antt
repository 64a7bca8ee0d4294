use Rattle.std.proofs.Common.{length, take, ◌-◌, ◌≡◌, ap, sym, ◌∙◌, arith}
use Rattle.far_reply.proofs.Streams.{read_grown}
use Rattle.far_reply.proofs.stream.read_text.Goals as goal

pub loop-len-preserved : goal.loop-len-preserved
loop-len-preserved g c =
    let was = c.loop-len.buffer.ok.0 in
    let is = c.grow.new.buffer.ok.0 in
    let same : length c.deref_mut.result.now ≡ length c.grow.new.buffer.items = ap length c.deref_mut.ensures.value in
    let size : length c.read.new.buf ≡ length c.deref_mut.result.now - c.loop-len.len = omega (arith, c.read.auto.buf) in
    let bound = c.in_ok-n.ensures.bound.0 in
    let kept : take (length c.loop-len.buffer.items) c.grow.new.buffer.items ≡ c.loop-len.buffer.items = ap (λ n. take n c.grow.new.buffer.items) (sym was) ∙ c.grow.ensures.bytes in
    record {
      taken = omega (arith, c.grow.ensures.capacity, c.loop-len.invariant.taken);
      fits = omega arith;
      few = omega arith;
      near = omega arith;
      bytes = read_grown c.grow.new.buffer _ _ _ c.loop-len.len c.in_ok-n.n c.loop-len.buffer.items c.deref_mut.result.now c.read.new.buf
          c.deref_mut.ensures.value kept (omega arith) (omega arith) size bound c.loop-len.invariant.bytes c.in_ok-n.ensures.bytes.0;
    }
