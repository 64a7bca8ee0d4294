use Rattle.std.proofs.Common.{◌+◌, ◌*◌, ap, false, get_or, refl, None}
use Rattle.std.specs.Prelude.{replicate}
use Rattle.far_word.specs.declared.sizes.TheConstants.{JOBS, LOG_WORDS, MOST_COPIERS}
use Rattle.far_events.specs.state.Memory.{copying_of}
use Rattle.far_events.proofs.Begins.{masked_row, row_of}
use Rattle.far_events.proofs.memory.jobs.Jobs.new.Goals as goal

pub returns : goal.returns
unfolding copying_of
returns c = λ i. record {
  has_copiers = c.args.has_copiers;
  word = λ q. row_of (replicate JOBS 0) JOBS 0 refl q i;
  since = λ q. row_of (replicate JOBS 0) JOBS 0 refl q i;
  named = λ q. row_of (replicate JOBS false) JOBS false refl q i;
  task = λ q. row_of (replicate MOST_COPIERS None) MOST_COPIERS None refl q i;
  length = λ q. row_of (replicate MOST_COPIERS None) MOST_COPIERS None refl q i;
  read = λ p j. masked_row j LOG_WORDS None _ (ap (λ ys. get_or ys (p * LOG_WORDS + j) None) c.in_ok-with_capacity.ensures.items) i;
  written = λ p j. masked_row j LOG_WORDS false _ (ap (λ ys. get_or ys (p * LOG_WORDS + j) false) c.in_ok-with_capacity-2.ensures.items) i;
}
