use Rattle.std.proofs.Common.{subst, sym, ap, ◌∙◌}
use Rattle.far_text.specs.Command.{Command, Mutator, On, Reads}
use Rattle.far_replay.specs.Interpreter.{refused_in}
use Rattle.far_replay.specs.Outcome.{reply_by}
use Rattle.far_replay.specs.Spent.{Makes}
use Rattle.far_replay.proofs.Made.{read_barred}
use Rattle.far_replay.proofs.turn.read_range.Goals as goal

pub returns-in-Ok-clause-made : goal.returns-in-Ok-clause-made
returns-in-Ok-clause-made c =
    let is = c.in-Ok.ensures.access in
    subst (λ (x : Command). Makes c.args.evac.now x (reply_by c.read.new.scratch c.read.result) c.read.new.evac) (λ i. Mutator (is.owner i) (On (is.pointed i) (Reads (is.starts i) (is.counts i)))) c.read.ensures.made

pub returns-in-Err-clause-made : goal.returns-in-Err-clause-made
returns-in-Err-clause-made c =
    read_barred c.args.evac.now c.args.owner c.args.pointer c.args.from c.args.len c.in-Err.why (sym (ap refused_in c.in-Err.is) ∙ c.reach.ensures.refusal)
