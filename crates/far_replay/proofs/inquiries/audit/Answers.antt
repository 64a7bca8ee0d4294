use Rattle.far_replay.specs.Audit.{counts_of}
use Rattle.far_reply.specs.Reply.{Audited}
use Rattle.far_replay.proofs.inquiries.audit.Goals as goal

pub returns-clause-reply : goal.returns-clause-reply
unfolding counts_of
returns-clause-reply c = λ i. Audited record { near = c.count_objects-near.ensures.near i; far = c.count_objects-near.ensures.far i; live = c.count_bytes-live.ensures i }
