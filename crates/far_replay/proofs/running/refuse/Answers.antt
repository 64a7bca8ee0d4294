use Rattle.std.proofs.Common.{[]}
use Rattle.far_reply.specs.Reply.{refusal_text}
use Rattle.far_replay.proofs.running.refuse.Goals as goal

pub returns : goal.returns
returns g c =
    let start = g.W.Write.contents c.args.writer.now in
    c.finish.ensures start (refusal_text c.args.why) (c.add.ensures start [] (c.clear.ensures start))
