use Rattle.std.proofs.Common.{◌+◌, ◌≤◌, length, subst, sym}
use Rattle.far_private.specs.Causes.{IsStuck, StaysFar}
use Rattle.far_private.specs.Objects.{len_in, objects_of, state_in}
use Rattle.far_private.proofs.Keeping.{keeps_both, settled_on, used_on}
use Rattle.far_private.proofs.LastCalls.{ok_map}
use Rattle.far_private.proofs.Ranging.{inside_on, read_before}
use Rattle.far_private.proofs.Stuck.{told_far, told_stuck}
use Rattle.far_private.proofs.ranges.read_last.Goals as goal

pub read_once-requires-clause-settled : goal.read_once-requires-clause-settled
read_once-requires-clause-settled g c = settled_on (state_in c.args.evac.now) (state_in c.last_round-made.new.evac) c.requires.settled c.last_round-made.ensures.keeps

pub read_once-requires-clause-used : goal.read_once-requires-clause-used
read_once-requires-clause-used g c = used_on (state_in c.args.evac.now) (state_in c.last_round-made.new.evac) c.args.pointer c.last_round-made.ensures.keeps c.requires.used

pub read_once-requires-clause-inside : goal.read_once-requires-clause-inside
read_once-requires-clause-inside g c = inside_on (state_in c.args.evac.now) (state_in c.last_round-made.new.evac) c.last_round-made.ensures.keeps c.args.pointer (c.args.from + length c.args.out.now) c.requires.inside

pub returns-in-Ok : goal.returns-in-Ok
returns-in-Ok g c =
    let s = state_in c.args.evac.now in
    let t = state_in c.last_round-made.new.evac in
    record {
      keeps = keeps_both s t (state_in c.read_once.new.evac) c.last_round-made.ensures.keeps c.read_once.ensures.keeps;
      read = read_before s t c.last_round-made.ensures.keeps c.args.pointer c.args.from (length c.args.out.now) c.read_once.new.out c.in-Ok.ensures.read;
      far = tt;
      stuck = tt;
      kept = tt;
      idle = λ e. c.read_once.ensures.idle (c.last_round-made.ensures.idle e);
    }

pub returns-in-Err : goal.returns-in-Err
returns-in-Err g c =
    let s = state_in c.args.evac.now in
    let u = state_in c.read_once.new.evac in
    let made = c.last_round-made.result in
    record {
      keeps = keeps_both s (state_in c.last_round-made.new.evac) u c.last_round-made.ensures.keeps c.read_once.ensures.keeps;
      read = tt;
      far = subst (StaysFar _ g.D.Device.reads u c.args.pointer c.read_once.new.evac.book.device) (sym c.told.ensures) (told_far g.D.Device.reads u c.args.pointer c.read_once.new.evac.book.device c.in-Err.why made c.last_round-made.ensures.want c.in-Err.ensures.far);
      stuck = subst (IsStuck _ g.D.Device.writes s) (sym c.told.ensures) (told_stuck g.D.Device.writes s c.in-Err.why made (ok_map made c.in-Err.ensures.roomy c.last_round-made.ensures.room) c.last_round-made.ensures.stuck);
      kept = c.in-Err.ensures.kept;
      idle = λ e. c.read_once.ensures.idle (c.last_round-made.ensures.idle e);
    }
