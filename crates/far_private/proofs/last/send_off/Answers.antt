use Rattle.std.proofs.Common.{◌∙◌, sym, ap}
use Rattle.far_evac.specs.EvacOf.{moment_alone}
use Rattle.far_private.specs.Objects.{state_in}
use Rattle.far_private.proofs.Keeping.{keeps_both, settled_on}
use Rattle.far_private.proofs.LastCalls.{chosen_cold, chosen_marks, cold_cells, none_chosen, none_room, ok_map, oldest_are, oldest_spent, some_chosen, some_room, spent_stuck, spent_want, stays_idle}
use Rattle.far_private.proofs.LastRounds.{same_more}
use Rattle.far_private.proofs.Rounds.{selects, unchanged}
use Rattle.far_private.proofs.Stuck.{stuck_err}
use Rattle.far_evac.specs.Choosing.{after_selecting}
use Rattle.far_evac.specs.Moment.{Moment}
use Rattle.far_private.proofs.last.send_off.Goals as goal

pub returns-then-is_empty : goal.returns-then-is_empty
returns-then-is_empty g c =
    let old = c.args.evac.now in
    let mid = c.select.new.self in
    let are = oldest_are (state_in old) old.book.order c.in-Ok.chosen c.in-Ok.ensures.gives in
    record {
      keeps = selects old mid c.in-Ok.chosen c.in-Ok.ensures.begun;
      room = none_room old mid old.book.near.core.law c.keeps_law.ensures.moment c.requires.many c.in-Ok.chosen c.in-Ok.ensures.begun are (none_chosen c.in-Ok.chosen (sym c.is_empty.ensures ∙ c.if-is_empty.true));
      want = tt;
      stuck = tt;
      idle = ap (λ (m : Moment). m.phase) (c.in-Ok.ensures.begun ∙ ap (after_selecting (moment_alone old)) (none_chosen c.in-Ok.chosen (sym c.is_empty.ensures ∙ c.if-is_empty.true))) ∙ c.requires.idle;
    }

pub mark_all-requires : goal.mark_all-requires
mark_all-requires g c =
    let x = some_chosen c.in-Ok.chosen (sym c.is_empty.ensures ∙ c.if-is_empty.false) in
    record { marking = (chosen_marks c.args.evac.now c.select.new.self c.in-Ok.chosen c.in-Ok.ensures.begun x.0 x.1 x.2).0 }

pub poll_all-requires-clause-settled : goal.poll_all-requires-clause-settled
poll_all-requires-clause-settled g c =
    let s = state_in c.args.evac.now in
    settled_on s (state_in c.mark_all.new.evac) c.requires.settled (keeps_both s (state_in c.select.new.self) (state_in c.mark_all.new.evac) (selects c.args.evac.now c.select.new.self c.in-Ok.chosen c.in-Ok.ensures.begun) c.mark_all.ensures.keeps)

pub leave-requires-clause-cold : goal.leave-requires-clause-cold
leave-requires-clause-cold g c =
    let old = c.args.evac.now in
    let mid = c.select.new.self in
    let x = some_chosen c.in-Ok.chosen (sym c.is_empty.ensures ∙ c.if-is_empty.false) in
    let held = (chosen_marks old mid c.in-Ok.chosen c.in-Ok.ensures.begun x.0 x.1 x.2).1 in
    let are = oldest_are (state_in old) old.book.order c.in-Ok.chosen c.in-Ok.ensures.gives in
    cold_cells (state_in c.mark_all.new.evac) (state_in c.poll_all.new.evac) mid.collection c.poll_all.new.evac.collection c.poll_all.ensures.cells (c.poll_all.ensures.collection ∙ c.mark_all.ensures.collection)
    (c.mark_all.ensures.cold (chosen_cold old mid c.in-Ok.chosen c.in-Ok.ensures.begun are held c.requires.cold))

pub returns-else-is_empty : goal.returns-else-is_empty
returns-else-is_empty g c =
    let old = c.args.evac.now in
    let mid = c.select.new.self in
    let s = state_in old in
    let t = state_in c.poll_all.new.evac in
    let x = some_chosen c.in-Ok.chosen (sym c.is_empty.ensures ∙ c.if-is_empty.false) in
    let held = (chosen_marks old mid c.in-Ok.chosen c.in-Ok.ensures.begun x.0 x.1 x.2).1 in
    let are = oldest_are s old.book.order c.in-Ok.chosen c.in-Ok.ensures.gives in
    let k = keeps_both s (state_in c.mark_all.new.evac) t (keeps_both s (state_in mid) (state_in c.mark_all.new.evac) (selects old mid c.in-Ok.chosen c.in-Ok.ensures.begun) c.mark_all.ensures.keeps) c.poll_all.ensures.keeps in
    record {
      keeps = keeps_both s t (state_in c.leave.new.evac) k c.leave.ensures.keeps;
      room = ok_map c.leave.result (some_room old mid t (state_in c.leave.new.evac) old.book.near.core.law c.keeps_law.ensures.moment c.requires.many c.in-Ok.chosen c.poll_all.new.evac.collection c.in-Ok.ensures.begun are
          (c.poll_all.ensures.collection ∙ c.mark_all.ensures.collection ∙ held) (same_more (state_in mid) (state_in c.mark_all.new.evac) t c.mark_all.ensures.logs c.poll_all.ensures.logs)) c.leave.ensures.emptied;
      want = c.leave.ensures.want;
      stuck = stuck_err g.D.Device.writes s t k c.leave.result c.leave.ensures.stuck;
      idle = c.leave.ensures.idle;
    }

pub returns-in-Err : goal.returns-in-Err
returns-in-Err g c =
    let spent = oldest_spent (moment_alone c.args.evac.now) c.in-Err.why _ c.requires.idle c.in-Err.ensures.why in
    record {
      keeps = unchanged c.args.evac.now c.select.new.self c.in-Err.ensures.unchanged;
      room = tt;
      want = spent_want c.in-Err.why spent;
      stuck = spent_stuck g.D.Device.writes (state_in c.args.evac.now) c.in-Err.why spent;
      idle = stays_idle c.args.evac.now c.select.new.self c.in-Err.ensures.unchanged c.requires.idle;
    }
