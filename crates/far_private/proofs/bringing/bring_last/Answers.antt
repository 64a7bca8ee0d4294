use Rattle.std.proofs.Common.{subst, sym}
use Rattle.far_private.specs.Causes.{IsStuck, StaysAway}
use Rattle.far_private.specs.Objects.{state_in}
use Rattle.far_private.proofs.Keeping.{keeps_both, settled_on, used_on}
use Rattle.far_private.proofs.LastCalls.{ok_map}
use Rattle.far_private.proofs.Stuck.{told_away, told_stuck}
use Rattle.far_private.proofs.bringing.bring_last.Goals as goal

pub bring-requires-clause-settled : goal.bring-requires-clause-settled
bring-requires-clause-settled g c = settled_on (state_in c.args.evac.now) (state_in c.last_round-made.new.evac) c.requires.settled c.last_round-made.ensures.keeps

pub bring-requires-clause-used : goal.bring-requires-clause-used
bring-requires-clause-used g c = used_on (state_in c.args.evac.now) (state_in c.last_round-made.new.evac) c.args.pointer c.last_round-made.ensures.keeps c.requires.used

pub returns-in-Err : goal.returns-in-Err
returns-in-Err g c =
    let s = state_in c.args.evac.now in
    let u = state_in c.bring.new.evac in
    let made = c.last_round-made.result in
    record {
      keeps = keeps_both s (state_in c.last_round-made.new.evac) u c.last_round-made.ensures.keeps c.bring.ensures.keeps;
      rests = tt;
      away = subst (StaysAway _ g.D.Device.reads u c.args.pointer c.bring.new.evac.book.device) (sym c.told.ensures) (told_away g.D.Device.reads u c.args.pointer c.bring.new.evac.book.device c.in-Err.why made c.last_round-made.ensures.want c.in-Err.ensures.away);
      stuck = subst (IsStuck _ g.D.Device.writes s) (sym c.told.ensures) (told_stuck g.D.Device.writes s c.in-Err.why made (ok_map made c.in-Err.ensures.roomy c.last_round-made.ensures.room) c.last_round-made.ensures.stuck);
      idle = λ e. c.bring.ensures.idle (c.last_round-made.ensures.idle e);
    }
