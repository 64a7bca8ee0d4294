use Rattle.std.proofs.Common.{[], Option, subst, sym}
use Rattle.std.specs.List.{flat_map}
use Rattle.std.specs.Option.{option_map}
use Rattle.far_text.specs.Command.{as_device}
use Rattle.far_text.specs.declared.command.Device.{Device}
use Rattle.far_replay.specs.Answers.{opened}
use Rattle.far_reply.specs.Reply.{Done, reply_text}
use Rattle.far_reply.specs.Stream.{Holds}
use Rattle.far_replay.proofs.running.answer_opening.Goals as goal

pub returns-in-Some : goal.returns-in-Some
returns-in-Some g c =
    let start = g.W.Write.contents c.args.writer.now in
    let one = c.add.ensures start [] (c.clear.ensures start) in
    let two = c.add-in-Some.ensures start (reply_text Done) one in
    subst (λ (o : Option Device). Holds start (g.W.Write.contents c.add-in-Some.new.writer) c.add-in-Some.new.self.waiting c.add-in-Some.new.self.written (flat_map reply_text (opened (option_map as_device o))))
    (sym c.in-Some.is) two

pub returns-in_default : goal.returns-in_default
returns-in_default g c =
    let start = g.W.Write.contents c.args.writer.now in
    let one = c.add.ensures start [] (c.clear.ensures start) in
    subst (λ (o : Option Device). Holds start (g.W.Write.contents c.add.new.writer) c.add.new.self.waiting c.add.new.self.written (flat_map reply_text (opened (option_map as_device o)))) (sym c.in_default.is) one
