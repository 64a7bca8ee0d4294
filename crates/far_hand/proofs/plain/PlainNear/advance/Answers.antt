use Rattle.far_core.specs.state.CoreState.{core_state}
use Rattle.far_events.specs.events.Advance.{MayAdvance}
use Rattle.far_events.specs.declared.event.Event.TheVariants.{Advance}
use Rattle.far_events.specs.declared.event.Reply.TheVariants.{Epoch}
use Rattle.far_hand.proofs.Making.{legal_made, spent_made}
use Rattle.std.proofs.Common.{refl}
use Rattle.far_hand.proofs.plain.PlainNear.advance.Goals as goal

pub advance-requires : goal.advance-requires
advance-requires c = record { legal = record { below = c.may_rise.ensures.rises c.if-not-may_rise.false; shut = c.requires.chosen.shut; marked = c.requires.chosen.marked } }

pub returns-then-not-may_rise-clause-spent : goal.returns-then-not-may_rise-clause-spent
returns-then-not-may_rise-clause-spent c =
    let s = core_state c.args.self.now.core in
    spent_made s s c.args.logs c.args.self.now.core.law refl (c.may_rise.ensures.spent c.if-not-may_rise.true)

pub returns-clause-made : goal.returns-clause-made
returns-clause-made c =
    let legal : MayAdvance (core_state c.args.self.now.core) c.args.logs = record { below = c.may_rise.ensures.rises c.if-not-may_rise.false; shut = c.requires.chosen.shut; marked = c.requires.chosen.marked } in
    legal_made (core_state c.args.self.now.core) (core_state c.advance.new.self) (Advance c.args.logs) (Epoch c.advance.result) legal c.advance.ensures.state c.advance.ensures.epoch
