use Rattle.far_split.proofs.Allowed.{alone_here, here_alone, honest_allowed, on_heap}
use Rattle.far_split.proofs.Lying.{reads_as_long, refusals_lawful}
use Rattle.far_split.proofs.Served.{never_damaged}
use Rattle.far_split.proofs.laws.mutators_are_alone.Goals as goal

pub returns : goal.returns
returns c = record {
  allowed = alone_here;
  alone = here_alone;
  whole = never_damaged;
  on_heap = on_heap;
  lying = honest_allowed;
  lawful = refusals_lawful;
  as_long = reads_as_long;
}
