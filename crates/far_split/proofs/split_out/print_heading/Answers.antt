use Rattle.std.proofs.Common.{[], codes, decimal, Ok}
use Rattle.far_split.specs.Printed.{heading}
use Rattle.far_split.proofs.Printing.{prints_part, prints_pushed, prints_then, pushed_thrice}
use Rattle.far_split.proofs.split_out.print_heading.Goals as goal

pub returns-in_err-make_room : goal.returns-in_err-make_room
returns-in_err-make_room g c =
    prints_part (g.W.Write.contents c.args.writer.now) (g.W.Write.contents c.make_room.new.writer) c.args.buffer.now c.make_room.new.buffer c.in_err-make_room.field-0.0 c.from_residual.result [] (heading c.args.number) c.from_residual.ensures.0 c.in_err-make_room.ensures.printed

pub returns : goal.returns
returns g c =
    let now = g.W.Write.contents c.make_room.new.writer in
    prints_then (g.W.Write.contents c.args.writer.now) now now c.args.buffer.now c.make_room.new.buffer c.push-2.new.self (Ok tt) [] (heading c.args.number) c.in_ok-make_room.ensures.printed
    (prints_pushed now c.make_room.new.buffer c.push-2.new.self (heading c.args.number)
    (pushed_thrice c.make_room.new.buffer c.push.new.self c.push_number.new.self c.push-2.new.self (codes "mutator ") (decimal c.args.number) (codes "\n") c.push.ensures c.push_number.ensures.grown c.push-2.ensures))
