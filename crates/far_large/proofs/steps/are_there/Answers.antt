use Rattle.std.proofs.Common.{◌≡◌, Some, sym, ◌∙◌, ap, arith, below_more}
use Rattle.far_large.specs.Parts.{number_of, part_len}
use Rattle.far_large.proofs.Reading.{differ}
use Rattle.far_large.proofs.steps.are_there.Goals as goal

pub returns-then-n-wanted : goal.returns-then-n-wanted
unfolding part_len
returns-then-n-wanted g c = λ s. differ c.in-Some.n (part_len c.args.len c.loop-i.i) _ c.in-Some.ensures (s c.loop-i.i (omega arith)) (λ e. c.if-n-wanted.true (e ∙ sym c.min-wanted.ensures))

pub loop-i-preserved : goal.loop-i-preserved
unfolding part_len
loop-i-preserved g c = below_more (λ k. (g.O.Objects.far c.args.worker.now).sizes (number_of c.args.numbers.now k) ≡ Some (part_len c.args.len k)) c.loop-i.i c.loop-i.invariant
    (sym c.in-Some.ensures ∙ ap Some (c.if-n-wanted.false ∙ c.min-wanted.ensures))
