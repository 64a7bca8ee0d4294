use Rattle.far_firsts.proofs.Stamps.{all_firsts, each, one_first}
use Rattle.far_firsts.proofs.laws.the_first_of_each_stamp_is_printed.Goals as goal

pub returns : goal.returns
returns c = record {
  some = λ stamp line lines p. p;
  each = λ stamp line. each stamp line;
  apart = all_firsts;
  worst = one_first;
}
