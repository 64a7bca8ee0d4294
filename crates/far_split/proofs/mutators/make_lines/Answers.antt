use Rattle.std.proofs.Common.{ℕ, List, [], ◌∷◌, ◌∙◌, ap, arith, subst, sym}
use Rattle.std.specs.List.{AllByRecursion}
use Rattle.std.proofs.lemmas.List.{drop_all}
use Rattle.far_heap.specs.Mine.{Mine}
use Rattle.far_text.specs.Command.{Command}
use Rattle.far_reply.specs.Reply.{IsShort}
use Rattle.far_split.specs.Here.{commands_of}
use Rattle.far_split.specs.Slots.{mine_in}
use Rattle.far_split.specs.Told.{as_reply}
use Rattle.far_split.proofs.OwnLines.{AnswersAll, all_alone, all_short, alone_first, alone_last, answered_line, asks_now, few_logs, is_mutators, own_now}
use Rattle.far_split.proofs.mutators.make_lines.Goals as goal

pub loop-at-init : goal.loop-at-init
loop-at-init g c = record {
  honest = ap (λ (m : Mine). m.honest) c.requires.new;
  number = ap (λ (m : Mine). m.number) c.requires.new;
  short = subst (AllByRecursion IsShort) (sym c.in-Ok.ensures) tt;
  turns = omega arith;
  ran = λ rest alone. alone_first g.K.HeapName.heap c.args.number c.args.mutator (commands_of c.args.lines.now) c.in-Ok.told rest c.requires.new c.in-Ok.ensures alone;
}

pub unreachable-requires : goal.unreachable-requires
unreachable-requires g c =
    let own = own_now g.K.HeapName.heap.mutators c.args.number c.loop-at.at c.at.result.0 c.at.result.1 c.args.lines.now c.requires.own c.at.ensures.value in
    is_mutators c.args.number c.at.result.1 own.0 c.in_default-command.not-Mutator

pub answer-requires : goal.answer-requires
answer-requires g c = record {
  own =
      asks_now g.K.HeapName.heap.mutators c.args.number c.loop-at.at c.at.result.0 c.at.result.1 c.in-Mutator.mutator c.in-Mutator.request c.args.lines.now c.requires.own c.at.ensures.value c.in-Mutator.is;
}

pub push-requires-clause-logs : goal.push-requires-clause-logs
push-requires-clause-logs g c = few_logs c.in-Ok-answer.answer c.in-Ok-answer.ensures.logless

pub loop-at-preserved : goal.loop-at-preserved
loop-at-preserved g c =
    let told = c.loop-at.told in
    let all = c.push.new.self in
    let one = as_reply c.in-Ok-answer.answer in
    let answers = c.in-Ok-answer.ensures in
    let are = c.in-Ok-push.ensures in
    record {
      honest = answers.honest ∙ c.loop-at.invariant.honest;
      number = answers.number ∙ c.loop-at.invariant.number;
      short = all_short told all one are c.loop-at.invariant.short answers.short;
      turns = omega (arith, c.loop-at.invariant.turns, c.saturating_add-turn.ensures);
      ran = λ rest alone. all_alone told all one are g.K.HeapName.heap c.args.number (commands_of c.args.lines.now) rest (c.loop-at.invariant.ran (one ∷ rest)
          (answered_line g.K.HeapName.heap g.K.HeapName.heap.mutators c.args.number c.loop-at.at c.at.result.0 c.at.result.1 c.in-Mutator.mutator c.in-Mutator.request c.args.lines.now
          (mine_in c.loop-at.slot) (mine_in c.in-Ok-answer.next) one rest c.requires.own c.at.ensures.value c.in-Mutator.is c.loop-at.invariant.number c.loop-at.invariant.honest answers alone));
    }

pub returns : goal.returns
returns g c = record {
  told =
      let none = drop_all c.loop-at.at c.args.lines.now (omega (arith, c.loop-at-test.false, c.len-at-end.ensures)) in
      alone_last g.K.HeapName.heap c.args.number (commands_of c.args.lines.now) c.loop-at.told
      (c.loop-at.invariant.ran [] (subst (λ (lines : List (ℕ × Command)). AnswersAll g.K.HeapName.heap (mine_in c.loop-at.slot) (commands_of lines) []) (sym none) (λ o is. tt)));
  short = c.loop-at.invariant.short;
  stopped = tt;
}
