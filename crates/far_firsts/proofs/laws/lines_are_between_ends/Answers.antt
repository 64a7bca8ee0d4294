use Rattle.far_firsts.proofs.Cuts.{lines_plain, text_lines}
use Rattle.far_firsts.proofs.laws.lines_are_between_ends.Goals as goal

pub returns : goal.returns
returns c = record {
  plain = lines_plain;
  all = text_lines;
}
