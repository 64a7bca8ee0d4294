use Rattle.std.proofs.Common.{◌≡◌, ℕ, List, ◌++◌, drop, false}
use Rattle.std.specs.Option.{option_map}
use Rattle.std.specs.List.{flat_map}
use Rattle.far_evac.specs.MomentLaw.{MomentLaw}
use Rattle.far_evac.specs.Strays.{NoneStrays}
use Rattle.far_replay.specs.Answers.{AnsweredBy, FarAlong, FlawedAtMost, Outside, flaws, lie_of, opened}
use Rattle.far_replay.specs.Far.{far_in}
use Rattle.far_replay.specs.Spent.{may_spoil}
use Rattle.far_text.specs.Command.{as_device}
use Rattle.far_replay.specs.Moment.{Moment, moment_in, state_in}
use Rattle.far_reply.specs.Reply.{Reply, reply_text}
use Rattle.far_reply.specs.Stream.{Holds}
use Rattle.far_alone.specs.Between.{Between}
use Rattle.far_replay.proofs.running.answer_commands.Given as goal

abbrev pub invariant-loop-at : goal.invariant-loop-at
invariant-loop-at g l = let contents = g.W.Write.contents in let device = option_map as_device l.fn.device in record {
  between : Between (state_in l.evac);
  round : MomentLaw (moment_in l.evac);
  alone : l.evac.copying ≡ false;
  strays : NoneStrays (moment_in l.evac);
  ran : (outside : List Outside) × (replies : List Reply) × (moments : List Moment) × (left : ℕ) × may_spoil (lie_of device) l.evac left
      × ((os : List Outside) → FlawedAtMost (lie_of device) left os → FlawedAtMost (lie_of device) (flaws device) (outside ++ os))
      × ((os : List Outside) (rest : List Reply) (more : List Moment) → AnsweredBy os (moment_in l.evac) (drop l.at l.commands) rest more
      → AnsweredBy (outside ++ os) (moment_in l.fn.evac) l.commands (replies ++ rest) (moments ++ more))
      × ((os : List Outside) (more : List Moment) → FarAlong (far_in l.evac) (moment_in l.evac) os (drop l.at l.commands) more → FarAlong (far_in l.fn.evac) (moment_in l.fn.evac) (outside ++ os) l.commands (moments ++ more))
      × Holds (contents l.fn.writer) (contents l.writer) l.replies.waiting l.replies.written (flat_map reply_text (opened device ++ replies));
}
