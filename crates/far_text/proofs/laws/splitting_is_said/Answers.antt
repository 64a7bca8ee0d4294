use Rattle.far_text.proofs.SplitLaws.{splits_read, first_unsplit, splits_are_traces, threads_are, threads_run_their_own, one_thread}
use Rattle.far_text.proofs.laws.splitting_is_said.Goals as goal

pub returns : goal.returns
returns c = record {
  texts = splits_read;
  bad = first_unsplit;
  traces = splits_are_traces;
  lines = threads_run_their_own;
  threads = one_thread;
  whole = threads_are;
}
