use Rattle.far_firsts.specs.Firsts.{firsts}
use Rattle.far_firsts.proofs.Tallies.{often_join, often_none, tally_firsts, tally_next, tally_total}
use Rattle.far_firsts.proofs.laws.counts_are_of_each.Goals as goal

pub returns : goal.returns
returns c = record {
  firsts = λ lines. tally_firsts lines (firsts lines);
  total = tally_total;
  next = tally_next;
  parts = often_join;
  none = often_none;
}
