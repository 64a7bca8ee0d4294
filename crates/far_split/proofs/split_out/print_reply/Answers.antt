use Rattle.std.proofs.Common.{[], Ok}
use Rattle.far_reply.specs.Reply.{reply_of, reply_text}
use Rattle.far_split.proofs.Printing.{prints_part, prints_pushed, prints_then}
use Rattle.far_split.proofs.split_out.print_reply.Goals as goal

pub returns-in_err-make_room : goal.returns-in_err-make_room
returns-in_err-make_room g c =
    prints_part (g.W.Write.contents c.args.writer.now) (g.W.Write.contents c.make_room.new.writer) c.args.buffer.now c.make_room.new.buffer c.in_err-make_room.field-0.0 c.from_residual.result [] (reply_text (reply_of c.args.reply.now)) c.from_residual.ensures.0 c.in_err-make_room.ensures.printed

pub returns : goal.returns
returns g c =
    let now = g.W.Write.contents c.make_room.new.writer in
    let text = reply_text (reply_of c.args.reply.now) in
    prints_then (g.W.Write.contents c.args.writer.now) now now c.args.buffer.now c.make_room.new.buffer c.print_to.new.out (Ok tt) [] text c.in_ok-make_room.ensures.printed
    (prints_pushed now c.make_room.new.buffer c.print_to.new.out text c.print_to.ensures)
