use Rattle.std.proofs.Common.{subst, sym}
use Rattle.far_heap.specs.Mine.{Mine}
use Rattle.far_text.specs.Command.{Open, as_request}
use Rattle.far_text.specs.declared.command.Request.{Request}
use Rattle.far_reply.specs.Reply.{Done}
use Rattle.far_split.specs.Slots.{Answers}
use Rattle.far_split.proofs.Answered.{opens}
use Rattle.far_split.proofs.slot.answer_closed.Goals as goal

pub returns-in-Open : goal.returns-in-Open
returns-in-Open g c = subst (λ (r : Request). Answers g.K.HeapName.heap c.args.mutator (as_request r) Done c.open.result) (sym c.in-Open.is)
    (subst (λ (n : Mine). Answers g.K.HeapName.heap c.args.mutator Open Done n) (sym c.open.ensures) (opens c.args.mutator c.keeps_law.ensures.law c.keeps_law.ensures.closed))
