use Rattle.std.proofs.Common.{◌≡◌, ◌+◌, List, [], ◌∷◌, ◌++◌, append-nil, drop, sym, subst, arith}
use Rattle.std.specs.List.{flat_map}
use Rattle.std.specs.Option.{option_map}
use Rattle.std.proofs.lemmas.List.{drop_all}
use Rattle.far_replay.specs.Moment.{Moment, moment_in}
use Rattle.far_replay.specs.Answers.{AnsweredBy, FarAlong, FlawedAtMost, flaws, lie_of, opened}
use Rattle.far_replay.specs.Far.{far_in}
use Rattle.far_text.specs.Command.{Command, as_command, as_device}
use Rattle.far_replay.specs.Outcome.{reply_by}
use Rattle.far_reply.specs.Reply.{Reply, reply_text}
use Rattle.far_reply.specs.Stream.{Holds}
use Rattle.far_replay.proofs.Answering.{answered_more, answered_all, far_all, far_more, printed_more, spoiled_more}
use Rattle.far_replay.proofs.FarSides.{flawed_spoils}
use Rattle.far_replay.proofs.Lasting.{still_lasts}
use Rattle.far_replay.proofs.running.answer_commands.Goals as goal

pub turn-outcome-requires-clause-law : goal.turn-outcome-requires-clause-law
turn-outcome-requires-clause-law g c = c.loop-at.evac.book.near.core.law

pub loop-at-init : goal.loop-at-init
loop-at-init g c =
    let start = g.W.Write.contents c.args.writer.now in
    let device = option_map as_device c.args.device in
    record {
      between = c.requires.between;
      round = c.requires.round;
      alone = c.requires.alone;
      strays = c.requires.strays;
      ran = (
        [],
        [],
        [],
        flaws device,
        flawed_spoils device c.args.evac c.requires.flawed,
        (λ os h. h),
        (λ os rest more h. h),
        (λ os more h. h),
        subst (λ (front : List Reply). Holds start (g.W.Write.contents c.answer_opening.new.writer) c.answer_opening.new.replies.waiting c.answer_opening.new.replies.written (flat_map reply_text front)) (sym (append-nil (opened device)))
            c.answer_opening.ensures,
      );
    }

pub loop-at-preserved : goal.loop-at-preserved
loop-at-preserved g c =
    let start = g.W.Write.contents c.args.writer.now in
    let end = g.W.Write.contents c.answer_one.new.writer in
    let device = option_map as_device c.args.device in
    let now : Moment = moment_in c.loop-at.evac in
    let next : Moment = moment_in c.turn-outcome.new.evac in
    let command : Command = as_command c.at-command.result in
    let (outside, replies, moments, left, few, allowed, goes, lies, holds) = c.loop-at.invariant.ran in
    let r : Reply = reply_by c.turn-outcome.new.scratch c.turn-outcome.result in
    let here = c.at-command.ensures.value in
    let (o, made) = c.turn-outcome.ensures.made in
    let spared = spoiled_more (lie_of device) (flaws device) left outside o c.loop-at.evac c.turn-outcome.new.evac made.spent few allowed in
    let held = c.answer_one.ensures start (flat_map reply_text (opened device ++ replies)) holds in
    let lasts = still_lasts now command r next (record { law = c.loop-at.evac.book.near.core.law; round = c.loop-at.invariant.round; alone = c.loop-at.invariant.alone; between = c.loop-at.invariant.between; strays = c.loop-at.invariant.strays })
    c.at-command.ensures.bytes (o, made.commanded) in
    record {
      between = lasts.between;
      round = lasts.round;
      alone = lasts.alone;
      strays = lasts.strays;
      ran = (
        outside ++ o ∷ [],
        replies ++ r ∷ [],
        moments ++ next ∷ [],
        spared.0,
        spared.1,
        spared.2,
        answered_more (moment_in c.args.evac) now c.args.commands.now (drop (c.loop-at.at + 1) c.args.commands.now) outside replies moments o command r next
            (λ os rest more h. goes os rest more (subst (λ cs. AnsweredBy os now cs rest more) (sym here) h)) made.commanded,
        far_more (far_in c.args.evac) (far_in c.loop-at.evac) (far_in c.turn-outcome.new.evac) (moment_in c.args.evac) now c.args.commands.now (drop (c.loop-at.at + 1) c.args.commands.now) outside moments o command next
            (λ os more h. lies os more (subst (λ cs. FarAlong (far_in c.loop-at.evac) now os cs more) (sym here) h)) made.holds made.told,
        subst (λ bytes. Holds start end c.answer_one.new.replies.waiting c.answer_one.new.replies.written bytes) (sym (printed_more (opened device) replies r)) held,
      );
    }

pub returns : goal.returns
returns g c =
    let start = g.W.Write.contents c.args.writer.now in
    let device = option_map as_device c.args.device in
    let (outside, replies, moments, left, few, allowed, goes, lies, holds) = c.loop-at.invariant.ran in
    let none : drop c.loop-at.at c.args.commands.now ≡ [] = drop_all c.loop-at.at c.args.commands.now (omega (arith, c.loop-at-test.false, c.len-at-end.ensures)) in (
      outside,
      replies,
      moments,
      record {
        few = subst (FlawedAtMost (lie_of device) (flaws device)) (append-nil outside) (allowed [] tt);
        along = λ _. (
          far_in c.args.evac,
          far_all (far_in c.args.evac) (far_in c.loop-at.evac) (moment_in c.args.evac) (moment_in c.loop-at.evac) c.args.commands.now outside moments (drop c.loop-at.at c.args.commands.now) none lies,
        );
      },
      answered_all (moment_in c.args.evac) (moment_in c.loop-at.evac) c.args.commands.now outside replies moments (drop c.loop-at.at c.args.commands.now) none goes,
      c.finish.ensures start (flat_map reply_text (opened device ++ replies)) holds,
    )
