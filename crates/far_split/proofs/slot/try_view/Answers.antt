use Rattle.std.proofs.Common.{ℕ, true, ◌≡◌, subst}
use Rattle.far_heap.specs.declared.view.Tried.{Tried}
use Rattle.far_heap.specs.Mine.{TriedSo, uses}
use Rattle.far_text.specs.Command.{Try}
use Rattle.far_word.specs.declared.refused.Refused.TheVariants.{Marked}
use Rattle.far_reply.specs.Reply.{Done, Refused}
use Rattle.far_split.specs.Slots.{Answers}
use Rattle.far_split.proofs.Answered.{marked, tried}
use Rattle.far_split.proofs.slot.try_view.Goals as goal

pub returns-in-Ok-View : goal.returns-in-Ok-View
returns-in-Ok-View g c =
    let p = c.in-Some.pointer in
    let is = subst (λ (t : Tried). (uses c.args.scope.now p ≡ true) × TriedSo p c.args.scope.now t c.try_view.new.self) c.in-Ok-View.field-0-is c.in-Ok-View.ensures.tried in
    subst (λ (q : ℕ). Answers g.K.HeapName.heap c.args.scope.now (Try q) Done c.try_view.new.self) c.in-Some.ensures.some
    (tried c.args.scope.now c.keeps_law.ensures.law c.keeps_law.ensures.opened p c.try_view.new.self is.0 is.1.1)

pub returns-in-Ok-Slow : goal.returns-in-Ok-Slow
returns-in-Ok-Slow g c =
    let p = c.in-Some.pointer in
    let word = c.in-Ok-Slow.word in
    let is = subst (λ (t : Tried). (uses c.args.scope.now p ≡ true) × TriedSo p c.args.scope.now t c.try_view.new.self) c.in-Ok-Slow.field-0-is c.in-Ok-Slow.ensures.tried in
    subst (λ (q : ℕ). Answers g.K.HeapName.heap c.args.scope.now (Try q) (Refused (Marked word)) c.try_view.new.self) c.in-Some.ensures.some
    (marked c.args.scope.now c.keeps_law.ensures.law c.keeps_law.ensures.opened p word c.try_view.new.self is.0 is.1.0 is.1.1 is.1.2)
