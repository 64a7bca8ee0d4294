use Rattle.std.proofs.Common.{◌≡◌, ◌≤◌, List, ◌++◌, drop}
use Rattle.std.specs.List.{AllByRecursion}
use Rattle.far_alone.specs.Own.{nothing}
use Rattle.far_reply.specs.Reply.{IsShort, Reply}
use Rattle.far_split.specs.Here.{AloneOn, commands_of}
use Rattle.far_split.specs.Slots.{mine_in}
use Rattle.far_split.proofs.OwnLines.{AnswersAll}
use Rattle.far_split.proofs.mutators.make_lines.Given as goal

abbrev pub invariant-loop-at : goal.invariant-loop-at
invariant-loop-at g l = record {
  honest : (mine_in l.slot).honest ≡ g.K.HeapName.heap.honest;
  number : (mine_in l.slot).number ≡ l.number;
  short : AllByRecursion IsShort l.told;
  turns : l.turn ≤ l.at;
  ran : (rest : List Reply) → AnswersAll g.K.HeapName.heap (mine_in l.slot) (commands_of (drop l.at l.lines)) rest
      → AloneOn g.K.HeapName.heap l.number nothing (commands_of l.lines) (l.told ++ rest);
}
