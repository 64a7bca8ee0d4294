use Rattle.std.proofs.Common.{◌≡◌, ℕ, ◌+◌, ap, ◌∙◌, arith, is_some, length, filter, subst}
use Rattle.std.specs.Prelude.{map, sum}
use Rattle.std.specs.List.{range_with_len}
use Rattle.far_word.specs.Mark.{bit_of}
use Rattle.far_word.specs.Pointer.{read_of}
use Rattle.far_core.specs.declared.machine.Core.{Core}
use Rattle.far_core.specs.state.CoreState.{core_state}
use Rattle.far_events.specs.state.State.{State}
use Rattle.far_alone.proofs.Counted.{counted_more, summed_more}
use Rattle.far_private.specs.FarBytes.{far_len, lies_far, said_far_len, says_far, says_here}
use Rattle.far_private.specs.Objects.{objects_of, state_in}
use Rattle.far_private.proofs.FarCounts.{AddsFar, adds_far, far_most}
use Rattle.far_private.proofs.counting.count_objects.Goals as goal

pub overflow_add-far_bytes : goal.overflow_add-far_bytes
overflow_add-far_bytes g c =
    let s : State = state_in c.args.evac.now in
    let p : ℕ = c.loop-pointer.pointer in
    let e = c.cell.ensures ∙ ap (λ (x : Core). (core_state x).cell p) c.core_of-core.ensures in
    let most = far_most s c.args.evac.now.book.near.core.law p in
    omega (arith, c.loop-pointer.invariant.most_bytes, c.loop-pointer-test.true, most, c.cell_counts-is_near.ensures.far_bytes ∙ ap (λ w. said_far_len (read_of w)) e)

pub loop-pointer-preserved : goal.loop-pointer-preserved
loop-pointer-preserved g c =
    let s : State = state_in c.args.evac.now in
    let p : ℕ = c.loop-pointer.pointer in
    let inv = c.loop-pointer.invariant in
    let e = c.cell.ensures ∙ ap (λ (x : Core). (core_state x).cell p) c.core_of-core.ensures in
    let h : AddsFar s p c.cell_counts-is_near.result.0 c.cell_counts-is_near.result.1 c.cell_counts-is_near.result.2 =
    adds_far s c.args.evac.now.book.near.core.law p _ _ _ (c.cell_counts-is_near.ensures.near ∙ ap (λ w. bit_of (says_here (read_of w))) e) (c.cell_counts-is_near.ensures.far ∙ ap (λ w. bit_of (says_far (read_of w))) e)
    (c.cell_counts-is_near.ensures.far_bytes ∙ ap (λ w. said_far_len (read_of w)) e) in
    record {
      all = omega (arith, inv.all, h.all, counted_more (λ q. is_some ((objects_of s).object q)) p);
      far = omega (arith, inv.far, h.far, counted_more (lies_far s) p);
      bytes = omega (arith, inv.bytes, h.long, summed_more (far_len s) p);
      most = omega (arith, inv.most, h.one);
      most_bytes = omega (arith, inv.most_bytes, h.most);
    }

pub returns : goal.returns
returns g c =
    let s : State = state_in c.args.evac.now in
    let inv = c.loop-pointer.invariant in
    let many : c.loop-pointer.pointer ≡ 2048 = omega (arith, c.loop-pointer-test.false) in
    record {
      all = subst (λ n. c.loop-pointer.near + c.loop-pointer.far ≡ length (filter (λ p. is_some ((objects_of s).object p)) (range_with_len 0 n))) many inv.all;
      far = subst (λ n. c.loop-pointer.far ≡ length (filter (lies_far s) (range_with_len 0 n))) many inv.far;
      far_bytes = subst (λ n. c.loop-pointer.far_bytes ≡ sum (map (far_len s) (range_with_len 0 n))) many inv.bytes;
    }
