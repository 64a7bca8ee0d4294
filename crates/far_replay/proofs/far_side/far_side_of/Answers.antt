use Rattle.std.proofs.Common.{ap, sym, ◌∙◌}
use Rattle.far_text.specs.declared.command.Flaw.TheVariants.{Fail, Short, Flip}
use Rattle.far_replay.specs.Answers.{lie_of}
use Rattle.far_replay.specs.Flawed.{failing, lying}
use Rattle.far_replay.proofs.FarSides.{fail_is, flip_is, said_so, short_is}
use Rattle.far_replay.proofs.far_side.far_side_of.Goals as goal

pub returns-in-Fail : goal.returns-in-Fail
returns-in-Fail c = let said = said_so c.args.device c.in-Some.device Fail c.in-Some.is c.in-Fail.is in record {
  fails = ap (λ d. d.left) c.short.ensures.inner ∙ c.new.ensures.left ∙ sym (ap failing said);
  lies = c.short.ensures.left ∙ sym (ap lying said);
  lie = c.short.ensures.lie ∙ fail_is c.in-Some.device.call ∙ sym (ap lie_of said);
}

pub returns-in-Short : goal.returns-in-Short
returns-in-Short c = let said = said_so c.args.device c.in-Some.device Short c.in-Some.is c.in-Short.is in record {
  fails = ap (λ d. d.left) c.short-in-Short.ensures.inner ∙ c.new-in-Short.ensures.left ∙ sym (ap failing said);
  lies = c.short-in-Short.ensures.left ∙ sym (ap lying said);
  lie = c.short-in-Short.ensures.lie ∙ short_is c.in-Some.device.call ∙ sym (ap lie_of said);
}

pub returns-in-Flip : goal.returns-in-Flip
returns-in-Flip c = let said = said_so c.args.device c.in-Some.device Flip c.in-Some.is c.in-Flip.is in record {
  fails = ap (λ d. d.left) c.flip.ensures.inner ∙ c.new-in-Flip.ensures.left ∙ sym (ap failing said);
  lies = c.flip.ensures.left ∙ sym (ap lying said);
  lie = c.flip.ensures.lie ∙ flip_is c.in-Some.device.call ∙ sym (ap lie_of said);
}
