use Rattle.far_reply.proofs.Streams.{held_all}
use Rattle.far_reply.proofs.reply_writer.ReplyWriter.finish.Goals as goal

pub returns : goal.returns
returns g c = λ start bytes k.
    let now = g.W.Write.contents c.flush.new.writer in
    held_all start now c.flush.new.self.waiting bytes c.flush.new.self.written c.flush.ensures.empty (c.flush.ensures.held start bytes k)
