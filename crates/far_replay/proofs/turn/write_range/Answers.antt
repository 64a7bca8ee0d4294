use Rattle.std.proofs.Common.{subst, sym, ap, ◌∙◌}
use Rattle.far_text.specs.Command.{Command, Mutator, On, Writes}
use Rattle.far_replay.specs.Interpreter.{refused_in}
use Rattle.far_replay.specs.Outcome.{reply_by}
use Rattle.far_replay.specs.Spent.{Makes}
use Rattle.far_replay.proofs.Made.{write_barred}
use Rattle.far_replay.proofs.turn.write_range.Goals as goal

pub returns-in-Ok-clause-made : goal.returns-in-Ok-clause-made
returns-in-Ok-clause-made c =
    let is = c.in-Ok.ensures.access in
    subst (λ (x : Command). Makes c.args.evac.now x (reply_by c.write.new.scratch c.write.result) c.write.new.evac) (λ i. Mutator (is.owner i) (On (is.pointed i) (Writes (is.starts i) c.args.bytes.now))) c.write.ensures.made

pub returns-in-Err-clause-made : goal.returns-in-Err-clause-made
returns-in-Err-clause-made c =
    write_barred c.args.evac.now c.args.owner c.args.pointer c.args.from c.args.bytes.now c.in-Err.why (sym (ap refused_in c.in-Err.is) ∙ c.reach.ensures.refusal)
