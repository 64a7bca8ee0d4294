use Rattle.std.proofs.Common.{Err, ap}
use Rattle.far_heap.specs.declared.view.View.{View}
use Rattle.far_split.proofs.Answered.{unwritten_at, written_at}
use Rattle.far_split.proofs.slot.write.Goals as goal

pub returns-in-Err-view : goal.returns-in-Err-view
returns-in-Err-view g c =
    let no = c.in-Err-view.ensures in
    unwritten_at c.args.scope.now c.keeps_law.ensures.law c.keeps_law.ensures.opened c.args.pointer c.args.from c.args.bytes.now c.in-Ok.access c.in-Ok.ensures.reached c.view.new.self
    c.in-Err-view.why no.refused.0 no.refused.1 (λ e. no.damaged (ap Err e)) (λ e. no.in_place tt (ap Err e)) (λ used. (no.cause used, no.answered used))

pub returns : goal.returns
returns g c =
    let viewed = c.in-Ok-view.ensures.viewed in
    written_at c.args.scope.now c.keeps_law.ensures.law c.keeps_law.ensures.opened c.args.pointer c.args.from c.args.bytes.now c.in-Ok.access c.in-Ok.ensures.reached c.view.new.self
    c.in-Ok-view.view.pointer c.write.new.self viewed.2 (ap (λ (v : View). v.pointer) viewed.1) c.in-Ok-write.ensures.done.1
