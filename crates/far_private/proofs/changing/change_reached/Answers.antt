use Rattle.std.proofs.Common.{◌≡◌, ◌+◌, ◌≤◌, arith, length, subst}
use Rattle.far_private.specs.Objects.{len_in, objects_of, state_in}
use Rattle.far_private.proofs.Changed.{changes_so}
use Rattle.far_private.proofs.Keeping.{settled_on, used_on}
use Rattle.far_private.proofs.Ranging.{inside_on}
use Rattle.far_private.proofs.changing.change_reached.Goals as goal

pub call_once-requires : goal.call_once-requires
call_once-requires g c = c.requires.takes c.take.new.out (omega (arith, c.take.auto.out))

pub write_back-requires-clause-settled : goal.write_back-requires-clause-settled
write_back-requires-clause-settled g c = settled_on (state_in c.args.evac.now) (state_in c.take.new.evac) c.requires.settled c.take.ensures.keeps

pub write_back-requires-clause-some : goal.write_back-requires-clause-some
write_back-requires-clause-some g c = omega (arith, c.take.auto.out, c.call_once.auto.bytes, c.requires.some)

pub write_back-requires-clause-used : goal.write_back-requires-clause-used
write_back-requires-clause-used g c = used_on (state_in c.args.evac.now) (state_in c.take.new.evac) c.args.pointer c.take.ensures.keeps c.requires.used

pub write_back-requires-clause-inside : goal.write_back-requires-clause-inside
write_back-requires-clause-inside g c =
    let long : length c.args.bytes.now ≡ length c.call_once.new.bytes = omega (arith, c.take.auto.out, c.call_once.auto.bytes) in
    subst (λ n. c.args.from + n ≤ len_in (objects_of (state_in c.take.new.evac)) c.args.pointer) long (inside_on (state_in c.args.evac.now) (state_in c.take.new.evac) c.take.ensures.keeps c.args.pointer (c.args.from + length c.args.bytes.now) c.requires.inside)

pub write_back-requires-clause-most : goal.write_back-requires-clause-most
write_back-requires-clause-most g c = omega (arith, c.take.auto.out, c.call_once.auto.bytes, c.requires.most)

pub returns-in-Ok : goal.returns-in-Ok
returns-in-Ok g c = record {
  settled = c.write_back.ensures.settled;
  changed = changes_so _ (state_in c.args.evac.now) (state_in c.take.new.evac) c.args.pointer c.args.from (length c.args.bytes.now) c.take.new.out c.call_once.new.bytes (objects_of (state_in c.write_back.new.evac)) c.take.ensures.keeps c.in-Ok.ensures.read c.call_once.ensures
      c.write_back.ensures.written;
  refused = tt;
  kept = tt;
  outside = tt;
  away = tt;
  stuck = tt;
  idle = λ e. c.write_back.ensures.idle (c.take.ensures.idle e);
}

pub returns-in-Err : goal.returns-in-Err
returns-in-Err g c = record {
  settled = settled_on (state_in c.args.evac.now) (state_in c.take.new.evac) c.requires.settled c.take.ensures.keeps;
  changed = tt;
  refused = c.take.ensures.keeps.objects;
  kept = c.in-Err.ensures.kept;
  outside = c.in-Err.ensures.outside;
  away = c.in-Err.ensures.away;
  stuck = c.in-Err.ensures.stuck;
  idle = c.take.ensures.idle;
}
