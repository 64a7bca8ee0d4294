use Rattle.std.proofs.Common.{◌+◌, ◌≤◌, subst, length}
use Rattle.far_private.specs.Objects.{state_in}
use Rattle.far_private.proofs.Keeping.{used_on}
use Rattle.far_private.proofs.Ranging.{inside_on, near_long, near_read, read_before}
use Rattle.far_private.proofs.ranges.read_far.Goals as goal

pub copy_near-requires-clause-inside : goal.copy_near-requires-clause-inside
copy_near-requires-clause-inside g c =
    let s = state_in c.args.evac.now in
    let t = state_in c.fetch_far.new.evac in
    let k = c.fetch_far.ensures.keeps in
    subst (λ n. c.args.from + length c.args.out.now ≤ n) (near_long t c.fetch_far.new.evac.book.near.core.law c.args.pointer (used_on s t c.args.pointer k c.requires.used) c.in-Ok.ensures.near)
    (inside_on s t k c.args.pointer (c.args.from + length c.args.out.now) c.requires.inside)

pub returns-in-Ok : goal.returns-in-Ok
returns-in-Ok g c =
    let s = state_in c.args.evac.now in
    let t = state_in c.fetch_far.new.evac in
    let k = c.fetch_far.ensures.keeps in
    record {
      keeps = k;
      read = read_before s t k c.args.pointer c.args.from (length c.args.out.now) c.copy_near.new.out
          (near_read t c.fetch_far.new.evac.book.near.core.law c.args.pointer (used_on s t c.args.pointer k c.requires.used) c.in-Ok.ensures.near c.args.from (length c.args.out.now) c.copy_near.new.out c.copy_near.ensures);
      far = tt;
      roomy = λ _. tt;
      kept = tt;
      idle = c.fetch_far.ensures.idle;
    }
