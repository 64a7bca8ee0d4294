use Rattle.std.proofs.Common.{ℕ, Err, ap, subst}
use Rattle.far_text.specs.Command.{On, Views}
use Rattle.far_reply.specs.Reply.{Done, Refused}
use Rattle.far_split.specs.Slots.{Answers}
use Rattle.far_split.proofs.Answered.{unviewed, viewed}
use Rattle.far_split.proofs.slot.view.Goals as goal

pub returns-in-Ok : goal.returns-in-Ok
returns-in-Ok g c = subst (λ (p : ℕ). Answers g.K.HeapName.heap c.args.scope.now (On p Views) Done c.view.new.self) c.in-Some.ensures.some
    (viewed c.args.scope.now c.keeps_law.ensures.law c.keeps_law.ensures.opened c.in-Some.pointer c.view.new.self c.in-Ok.ensures.viewed.0 c.in-Ok.ensures.viewed.2)

pub returns-in-Err : goal.returns-in-Err
returns-in-Err g c = subst (λ (p : ℕ). Answers g.K.HeapName.heap c.args.scope.now (On p Views) (Refused c.in-Err.why) c.view.new.self) c.in-Some.ensures.some
    (unviewed c.args.scope.now c.keeps_law.ensures.law c.keeps_law.ensures.opened c.in-Some.pointer c.view.new.self c.in-Err.why c.in-Err.ensures.refused.0 c.in-Err.ensures.refused.1
    (λ e. c.in-Err.ensures.damaged (ap Err e)) (λ e. c.in-Err.ensures.in_place tt (ap Err e)) (λ used. (c.in-Err.ensures.cause used, c.in-Err.ensures.answered used)))
