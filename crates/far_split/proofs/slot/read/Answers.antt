use Rattle.std.proofs.Common.{Err, ap, length, sym, ◌∙◌}
use Rattle.far_heap.specs.declared.view.View.{View}
use Rattle.far_split.proofs.Answered.{read_at, unread_at}
use Rattle.far_split.proofs.slot.read.Goals as goal

pub returns-in-Err-view : goal.returns-in-Err-view
returns-in-Err-view g c =
    let no = c.in-Err-view.ensures in
    unread_at c.args.scope.now c.keeps_law.ensures.law c.keeps_law.ensures.opened c.args.pointer c.args.from c.args.len c.in-Ok.access c.in-Ok.ensures.reached c.view.new.self
    c.in-Err-view.why no.refused.0 no.refused.1 (λ e. no.damaged (ap Err e)) (λ e. no.in_place tt (ap Err e)) (λ used. (no.cause used, no.answered used))

pub returns : goal.returns
returns g c =
    let viewed = c.in-Ok-view.ensures.viewed in
    let done = c.in-Ok-read.ensures in
    let bytes = c.in_ok-bytes.bytes in
    read_at c.args.scope.now c.keeps_law.ensures.law c.keeps_law.ensures.opened c.args.pointer c.args.from c.args.len c.in-Ok.access c.in-Ok.ensures.reached c.view.new.self
    c.in-Ok-view.view.pointer (length c.deref_mut.result.now) bytes.len c.read.new.out bytes.items c.read.new.self viewed.2 (ap (λ (v : View). v.pointer) viewed.1)
    (c.deref_mut.ensures.len ∙ c.in_ok-bytes.ensures.len) c.read.auto.out (sym c.deref_mut.ensures.len) done.same done.bytes
