use Rattle.std.proofs.Common.{◌<◌, ◌^◌, ◌∙◌, arith, sym}
use Rattle.far_events.proofs.Calls.{rests_inside}
use Rattle.far_events.proofs.memory.Memory.pin.Goals as goal

pub hold-requires-clause-log : goal.hold-requires-clause-log
hold-requires-clause-log c =
    let fits : c.cell_at-old.result < 2 ^ 64 = omega (arith, c.cell_at-old.ensures, (c.requires.law.cells.cell_read c.args.pointer).0) in
    (rests_inside c.cell_at-old.result fits c.in-Some.place (sym c.place_to_view.ensures ∙ c.in-Some.is)).0

pub hold-requires-clause-inside : goal.hold-requires-clause-inside
hold-requires-clause-inside c =
    let fits : c.cell_at-old.result < 2 ^ 64 = omega (arith, c.cell_at-old.ensures, (c.requires.law.cells.cell_read c.args.pointer).0) in
    (rests_inside c.cell_at-old.result fits c.in-Some.place (sym c.place_to_view.ensures ∙ c.in-Some.is)).1
