use Rattle.std.proofs.Common.{◌≡◌, ℕ, true, length, take, drop, sym, ◌∙◌, subst, arith}
use Rattle.far_objects.specs.Far.{Far}
use Rattle.far_large.specs.Parts.{Holds}
use Rattle.far_seen.proofs.Wholes.{more_same, piece_is, so_if}
use Rattle.far_seen.proofs.read.holds_long.Goals as goal

pub loop-done-preserved : goal.loop-done-preserved
loop-done-preserved g c =
    let done : ℕ = c.loop-done.done in
    let count : ℕ = c.min-count.result in
    let was : Far = g.O.Objects.far c.args.worker.now in
    record {
      far = c.in-Ok.ensures.far ∙ c.loop-done.invariant.far;
      within = omega arith;
      same = λ xs o holds.
          let same : was ≡ g.O.Objects.far c.loop-done.worker = sym c.loop-done.invariant.far in
          let read : c.read_at.new.out.items ≡ take count (drop done xs) = c.in-Ok.ensures.read xs (subst (λ (f : Far). f.honest ≡ true) same o) (subst (λ (f : Far). Holds f c.args.large.now xs) same holds) in
          more_same done count xs c.args.line.now (c.loop-done.invariant.same xs o holds) (sym read ∙ piece_is c.as_slice.result.now c.read_at.new.out.items done count c.args.line.now c.as_slice.ensures.value (sym c.if-ne.false ∙ c.ne.ensures));
    }

pub returns-then-ne-clause-long : goal.returns-then-ne-clause-long
returns-then-ne-clause-long g c =
    let same : c.args.large.now.len ≡ length c.args.line.now = omega (arith, c.len.ensures) in
    so_if c.is_line_now.result _ same

pub returns-clause-long : goal.returns-clause-long
returns-clause-long g c = λ e. omega (arith, c.len.ensures)
