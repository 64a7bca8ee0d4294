use Rattle.std.proofs.Common.{◌+◌, ◌≤◌, length, refl, subst}
use Rattle.far_private.specs.Objects.{state_in}
use Rattle.far_private.proofs.Keeping.{used_on}
use Rattle.far_private.proofs.Outside.{away_outside, outside_before}
use Rattle.far_private.proofs.Ranging.{inside_on, near_long, near_read, read_before}
use Rattle.far_private.proofs.Writing.{rests_says}
use Rattle.far_private.proofs.changing.take.Goals as goal

pub copy_near-requires-clause-near : goal.copy_near-requires-clause-near
copy_near-requires-clause-near g c = rests_says (state_in c.bring_to_rest.new.evac) c.args.pointer c.in-Ok.ensures.rests

pub copy_near-requires-clause-inside : goal.copy_near-requires-clause-inside
copy_near-requires-clause-inside g c =
    let s = state_in c.args.evac.now in
    let t = state_in c.bring_to_rest.new.evac in
    let k = c.bring_to_rest.ensures.keeps in
    subst (λ n. c.args.from + length c.args.out.now ≤ n) (near_long t c.bring_to_rest.new.evac.book.near.core.law c.args.pointer (used_on s t c.args.pointer k c.requires.used) (rests_says t c.args.pointer c.in-Ok.ensures.rests))
    (inside_on s t k c.args.pointer (c.args.from + length c.args.out.now) c.requires.inside)

pub returns-in-Ok : goal.returns-in-Ok
returns-in-Ok g c =
    let s = state_in c.args.evac.now in
    let t = state_in c.bring_to_rest.new.evac in
    let k = c.bring_to_rest.ensures.keeps in
    record {
      keeps = k;
      rests = c.in-Ok.ensures.rests;
      read = read_before s t k c.args.pointer c.args.from (length c.args.out.now) c.copy_near.new.out
          (near_read t c.bring_to_rest.new.evac.book.near.core.law c.args.pointer (used_on s t c.args.pointer k c.requires.used) (rests_says t c.args.pointer c.in-Ok.ensures.rests) c.args.from (length c.args.out.now) c.copy_near.new.out c.copy_near.ensures);
      kept = tt;
      outside = tt;
      away = tt;
      stuck = tt;
      idle = c.bring_to_rest.ensures.idle;
    }

pub returns-in-Err : goal.returns-in-Err
returns-in-Err g c = record {
  keeps = c.bring_to_rest.ensures.keeps;
  rests = tt;
  read = tt;
  kept = refl;
  outside = outside_before (state_in c.args.evac.now) (state_in c.bring_to_rest.new.evac) c.bring_to_rest.ensures.keeps c.in-Err.why
      (away_outside g.D.Device.reads (state_in c.bring_to_rest.new.evac) c.args.pointer c.bring_to_rest.new.evac.book.device c.in-Err.why c.in-Err.ensures.away);
  away = c.in-Err.ensures.away;
  stuck = c.in-Err.ensures.stuck;
  idle = c.bring_to_rest.ensures.idle;
}
