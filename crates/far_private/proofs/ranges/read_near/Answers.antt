use Rattle.std.proofs.Common.{◌+◌, ◌≤◌, subst, length}
use Rattle.far_private.specs.Objects.{state_in}
use Rattle.far_private.proofs.Ranging.{near_long, near_read}
use Rattle.far_private.proofs.ranges.read_near.Goals as goal

pub copy_near-requires-clause-inside : goal.copy_near-requires-clause-inside
copy_near-requires-clause-inside g c = subst (λ n. c.args.from + length c.args.out.now ≤ n) (near_long (state_in c.args.evac.now) c.args.evac.now.book.near.core.law c.args.pointer c.requires.used c.requires.near) c.requires.inside

pub returns : goal.returns
returns g c = record {
  keeps = c.warm.ensures.keeps;
  read = near_read (state_in c.args.evac.now) c.args.evac.now.book.near.core.law c.args.pointer c.requires.used c.requires.near c.args.from (length c.args.out.now) c.copy_near.new.out c.copy_near.ensures;
  idle = c.warm.ensures.idle;
}
