use Rattle.std.proofs.Common.{append_assoc}
use Rattle.far_reply.proofs.reply.Reply.print_to.Goals as goal

pub returns-in-Data : goal.returns-in-Data
returns-in-Data c = rw (c.in-Data.is, c.push-in-Data-2.ensures, c.push_hex.ensures.grown, c.push-in-Data.ensures) (simp append_assoc)
