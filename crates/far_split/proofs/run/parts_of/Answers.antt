use Rattle.std.proofs.Common.{◌<◌, arith, length}
use Rattle.far_split.proofs.Joining.{never_stopped, parts_more, took_first}
use Rattle.far_split.proofs.run.parts_of.Goals as goal

pub unreachable-requires : goal.unreachable-requires
unreachable-requires c =
    let i = c.loop.invariant in
    never_stopped c.args.ends.items c.loop.ends.items c.loop.parts.items c.remove.result c.in_default.field-0 c.requires i.parts
    (omega (arith, c.loop.ends.ok.0, i.sum, c.loop-test.true)) c.remove.ensures.value c.in_default.is

pub loop-preserved : goal.loop-preserved
loop-preserved c =
    let i = c.loop.invariant in
    let some : 0 < length c.loop.ends.items = omega (arith, c.loop.ends.ok.0, i.sum, c.loop-test.true) in
    let first = took_first c.loop.ends.items c.remove.new.self.items c.remove.result some c.remove.ensures.value c.remove.ensures.items in
    record {
      parts =
          parts_more c.args.ends.items c.loop.ends.items c.remove.new.self.items c.loop.parts.items c.push_reserved.new.self.items c.remove.result c.in-Ok.told i.parts first c.in-Ok.is
          c.push_reserved.ensures.items;
      sum = omega (arith, i.sum, c.remove.ensures.len);
      many = omega (arith, i.many, c.push_reserved.ensures.len);
      buffer = omega (arith, i.buffer, c.push_reserved.ensures.capacity);
    }
