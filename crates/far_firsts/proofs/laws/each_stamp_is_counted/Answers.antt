use Rattle.far_firsts.proofs.OfEachStamp.{often_apart, one_stamp, stamp_came}
use Rattle.far_firsts.proofs.Tallies.{tally_stamps}
use Rattle.far_firsts.proofs.laws.each_stamp_is_counted.Goals as goal

pub returns : goal.returns
returns c = record {
  right = tally_stamps;
  came = stamp_came;
  apart = λ stamp lines counts line apart. often_apart stamp apart line lines counts;
  worst = one_stamp;
}
