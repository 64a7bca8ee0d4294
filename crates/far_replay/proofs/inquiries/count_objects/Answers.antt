use Rattle.std.proofs.Common.{ℕ, ◌+◌, sym, ap, ◌∙◌, arith}
use Rattle.far_word.specs.Pointer.{read_of}
use Rattle.far_core.specs.declared.machine.Core.{Core}
use Rattle.far_core.specs.state.CoreState.{core_state}
use Rattle.far_events.specs.state.State.{State}
use Rattle.far_replay.specs.Audit.{lies_near, lies_far}
use Rattle.far_replay.specs.Moment.{state_in}
use Rattle.far_alone.proofs.Counted.{counted_more}
use Rattle.far_replay.proofs.KeptCounts.{Adds, kept_adds}
use Rattle.far_replay.proofs.inquiries.count_objects.Goals as goal

pub overflow_add-near : goal.overflow_add-near
overflow_add-near c =
    let s : State = state_in c.args.evac.now in
    let p : ℕ = c.loop-pointer.pointer in
    let e = c.cells-cells.ensures.each p ∙ ap (λ (x : Core). (core_state x).cell p) c.core_of.ensures in
    let h : Adds c.object_counts-is_kept.result.0 c.object_counts-is_kept.result.1 (lies_near (read_of (s.cell p))) (lies_far (read_of (s.cell p))) =
    kept_adds (read_of (s.cell p)) _ _ (c.args.evac.now.book.near.core.law.cells.cell_read p).1 (λ v x. c.object_counts-is_kept.ensures.kept v (ap read_of e ∙ x)) (λ v x. c.object_counts-is_kept.ensures.near v (ap read_of e ∙ x)) in
    omega (arith, c.loop-pointer.invariant.all, c.loop-pointer.invariant.all_most, c.loop-pointer-test.true, h.3)

pub loop-pointer-preserved : goal.loop-pointer-preserved
loop-pointer-preserved c =
    let s : State = state_in c.args.evac.now in
    let p : ℕ = c.loop-pointer.pointer in
    let e = c.cells-cells.ensures.each p ∙ ap (λ (x : Core). (core_state x).cell p) c.core_of.ensures in
    let h : Adds c.object_counts-is_kept.result.0 c.object_counts-is_kept.result.1 (lies_near (read_of (s.cell p))) (lies_far (read_of (s.cell p))) =
    kept_adds (read_of (s.cell p)) _ _ (c.args.evac.now.book.near.core.law.cells.cell_read p).1 (λ v x. c.object_counts-is_kept.ensures.kept v (ap read_of e ∙ x)) (λ v x. c.object_counts-is_kept.ensures.near v (ap read_of e ∙ x)) in
    let far = counted_more (λ q. lies_far (read_of (s.cell q))) p in
    record {
      near = (λ i. c.loop-pointer.invariant.near i + h.0 i) ∙ sym (counted_more (λ q. lies_near (read_of (s.cell q))) p);
      all = omega (arith, c.loop-pointer.invariant.all, h.1, far);
      all_most = omega (arith, c.loop-pointer.invariant.all_most, h.2);
    }
