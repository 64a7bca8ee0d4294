use Rattle.std.proofs.Common.{ℕ, subst}
use Rattle.far_text.specs.Command.{Drop}
use Rattle.far_reply.specs.Reply.{Done}
use Rattle.far_split.specs.Slots.{Answers}
use Rattle.far_split.proofs.Answered.{dropped}
use Rattle.far_split.proofs.slot.drop_closed.Goals as goal

pub returns-in-Ok : goal.returns-in-Ok
returns-in-Ok g c = subst (λ (p : ℕ). Answers g.K.HeapName.heap c.args.mutator.now (Drop p) Done c.drop_object.new.self) c.in-Some.ensures.some
    (dropped c.args.mutator.now c.keeps_law.ensures.law c.in-Some.pointer c.drop_object.new.self c.in-Ok.ensures.dropped.0 (c.keeps_law.ensures.law.closed c.keeps_law.ensures.closed c.in-Some.pointer)
    c.in-Ok.ensures.dropped.1)
