use Rattle.std.proofs.Common.{[], ◌++◌, codes, Ok}
use Rattle.std.specs.List.{flat_map}
use Rattle.far_reply.specs.Reply.{reply_text}
use Rattle.far_split.proofs.Printing.{prints_part, prints_pushed, prints_then}
use Rattle.far_split.proofs.split_out.print_book.Goals as goal

pub returns-in_err-make_room : goal.returns-in_err-make_room
returns-in_err-make_room g c =
    prints_part (g.W.Write.contents c.args.writer.now) (g.W.Write.contents c.make_room.new.writer) c.args.buffer.now c.make_room.new.buffer c.in_err-make_room.field-0.0 c.from_residual.result
    [] (codes "book\n" ++ flat_map reply_text c.args.book.now) c.from_residual.ensures.0 c.in_err-make_room.ensures.printed

pub returns : goal.returns
returns g c =
    let start = g.W.Write.contents c.args.writer.now in
    let now = g.W.Write.contents c.make_room.new.writer in
    let pushed = prints_then start now now c.args.buffer.now c.make_room.new.buffer c.push.new.self (Ok tt) [] (codes "book\n") c.in_ok-make_room.ensures.printed
    (prints_pushed now c.make_room.new.buffer c.push.new.self (codes "book\n") c.push.ensures) in
    prints_then start now (g.W.Write.contents c.print_all.new.writer) c.args.buffer.now c.push.new.self c.print_all.new.buffer c.print_all.result (codes "book\n") (flat_map reply_text c.args.book.now) pushed c.print_all.ensures
