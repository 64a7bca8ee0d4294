use Rattle.std.proofs.Common.{◌≡◌, ◌∙◌, true, cond, arith, ap, sym, None}
use Rattle.far_word.specs.declared.sizes.TheConstants.{JOBS}
use Rattle.far_word.specs.Pointer.{read_of}
use Rattle.far_events.specs.events.Copied.{copied_below}
use Rattle.far_events.specs.state.Memory.{state_of}
use Rattle.far_events.specs.state.Spans.{names_place}
use Rattle.far_events.proofs.memory.Memory.copied_job.Goals as goal

pub returns : goal.returns
returns c =
    let s = state_of c.args.self.now in
    let last : c.loop-job.job ≡ JOBS = omega (arith, c.loop-job-test.false, c.loop-job.auto.job-end) in
    let there : names_place (read_of (s.cell c.args.pointer)) c.args.from.log c.args.from.at ≡ true =
    sym (ap (λ w. names_place (read_of w) c.args.from.log c.args.from.at) c.cell.ensures) ∙ sym c.if-not-names_place.ensures in
    c.loop-job.invariant ∙ ap (copied_below s c.args.pointer c.args.from c.args.to) last
    ∙ sym (ap (λ b. cond b (copied_below s c.args.pointer c.args.from c.args.to JOBS) None) there)
