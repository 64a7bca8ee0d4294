use Rattle.std.proofs.Common.{sym, subst, ◌++◌}
use Rattle.far_reply.specs.Reply.{reply_text, reply_of}
use Rattle.far_reply.specs.Stream.{Holds}
use Rattle.far_reply.proofs.Streams.{held_more}
use Rattle.far_reply.proofs.reply_writer.ReplyWriter.add.Goals as goal

pub returns : goal.returns
returns g c = λ start bytes k.
    let now = g.W.Write.contents c.make_room.new.writer in
    let room = c.make_room.new.self in
    let piece = reply_text (reply_of c.args.reply.now) in
    subst (λ w. Holds start now w room.written (bytes ++ piece)) (sym c.print_to.ensures)
    (held_more start now room.waiting piece bytes room.written (c.make_room.ensures.held start bytes k))
