use Rattle.std.proofs.Common.{length, sym, ◌∙◌}
use Rattle.far_objects.specs.Far.{barred}
use Rattle.far_private.proofs.ByNumber.{why_is}
use Rattle.far_pool.specs.Numbers.{far_of}
use Rattle.far_pool.specs.Pool.{at, refusal_of}
use Rattle.far_pool.proofs.Numbering.{refusal_at, wrote_far}
use Rattle.far_pool.proofs.worker.objects.WorkerObjects.write.Goals as goal

pub returns-in-Ok-clause-written : goal.returns-in-Ok-clause-written
returns-in-Ok-clause-written g c =
    wrote_far c.args.self.now c.args.number c.handle_at-handle.result c.handle_at-handle.ensures c.keeps_law_at.ensures c.write.new.self c.args.from c.args.bytes.now c.in-Ok.ensures.written c.keeps_law_at-in-Ok.ensures

pub returns-in-Ok-clause-done : goal.returns-in-Ok-clause-done
returns-in-Ok-clause-done g c =
    sym (refusal_at c.args.self.now c.args.number c.handle_at-handle.result c.handle_at-handle.ensures c.keeps_law_at.ensures c.args.from (length c.args.bytes.now)) ∙ c.in-Ok.ensures.done

pub returns-in-Err-clause-barred : goal.returns-in-Err-clause-barred
returns-in-Err-clause-barred g c =
    λ why q. c.in-Err.ensures.barred why (refusal_at c.args.self.now c.args.number c.handle_at-handle.result c.handle_at-handle.ensures c.keeps_law_at.ensures c.args.from (length c.args.bytes.now) ∙ q)

pub returns-in-Err-clause-why : goal.returns-in-Err-clause-why
returns-in-Err-clause-why g c =
    let w = c.args.self.now in
    let count = length c.args.bytes.now in
    why_is w.honest (refusal_of (at w c.handle_at-handle.result) c.args.from count) (barred ((far_of w).sizes c.args.number) c.args.from count) c.in-Err.why
    (refusal_at w c.args.number c.handle_at-handle.result c.handle_at-handle.ensures c.keeps_law_at.ensures c.args.from count) c.in-Err.ensures.why
