use Rattle.std.proofs.Common.{sym, subst}
use Rattle.far_reply.specs.Stream.{Holds, Writes}
use Rattle.far_reply.proofs.Streams.{held_written}
use Rattle.far_reply.proofs.reply_writer.ReplyWriter.flush.Goals as goal

pub returns-clause-held : goal.returns-clause-held
returns-clause-held g c = λ start bytes k.
    let old = g.W.Write.contents c.args.writer.now in
    let now = g.W.Write.contents c.write_whole-self.new.writer in
    let written = subst (Writes old now c.write_whole-self.result) c.as_slice.ensures c.write_whole-self.ensures in
    subst (λ w. Holds start now w c.write_whole-self.result bytes) (sym c.clear-2.ensures)
    (held_written start old now c.args.self.now.waiting bytes c.args.self.now.written c.write_whole-self.result c.in_default.not-Err written k)
