use Rattle.std.proofs.Common.{◌∙◌, ap}
use Rattle.far_private.specs.Objects.{state_in, with_written}
use Rattle.far_private.proofs.Keeping.{settled_on, used_on}
use Rattle.far_private.proofs.Ranging.{inside_on}
use Rattle.far_private.proofs.ranges.write_brought.Goals as goal

pub overwrite_cold-requires-clause-settled : goal.overwrite_cold-requires-clause-settled
overwrite_cold-requires-clause-settled g c = settled_on (state_in c.args.evac.now) (state_in c.bring_anew.new.evac) c.requires.settled c.bring_anew.ensures.keeps

pub overwrite_cold-requires-clause-used : goal.overwrite_cold-requires-clause-used
overwrite_cold-requires-clause-used g c = used_on (state_in c.args.evac.now) (state_in c.bring_anew.new.evac) c.args.pointer c.bring_anew.ensures.keeps c.requires.used

pub overwrite_cold-requires-clause-inside : goal.overwrite_cold-requires-clause-inside
overwrite_cold-requires-clause-inside g c = inside_on (state_in c.args.evac.now) (state_in c.bring_anew.new.evac) c.bring_anew.ensures.keeps c.args.pointer _ c.requires.inside

pub returns-in-Ok : goal.returns-in-Ok
returns-in-Ok g c = record {
  settled = c.overwrite_cold.ensures.settled;
  written = c.overwrite_cold.ensures.written ∙ ap (with_written c.args.pointer c.args.from c.args.bytes.now) c.bring_anew.ensures.keeps.objects;
  refused = tt;
  away = tt;
  stuck = tt;
  idle = λ e. c.overwrite_cold.ensures.idle (c.bring_anew.ensures.idle e);
}

pub returns-in-Err : goal.returns-in-Err
returns-in-Err g c = record {
  settled = settled_on (state_in c.args.evac.now) (state_in c.bring_anew.new.evac) c.requires.settled c.bring_anew.ensures.keeps;
  written = tt;
  refused = c.bring_anew.ensures.keeps.objects;
  away = c.in-Err.ensures.away;
  stuck = c.in-Err.ensures.stuck;
  idle = c.bring_anew.ensures.idle;
}
