use Rattle.std.proofs.Common.{[]}
use Rattle.far_firsts.proofs.Newness.{next}
use Rattle.far_firsts.proofs.OneOfEach.{are_part, have, none_twice}
use Rattle.far_firsts.proofs.laws.firsts_are_one_of_each.Goals as goal

pub returns : goal.returns
returns c = record {
  none_twice = none_twice [];
  each = λ lines line. have line [] lines;
  part = are_part [];
  next = next;
}
