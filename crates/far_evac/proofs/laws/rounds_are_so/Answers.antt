use Rattle.std.specs.Prelude.{refl}
use Rattle.far_word.specs.Header.{head_of}
use Rattle.far_word.specs.Job.{job_of}
use Rattle.far_word.specs.Pointer.{read_of}
use Rattle.far_log.specs.Spans.{spans_in}
use Rattle.far_events.specs.state.Spans.{spans_of}
use Rattle.far_evac.specs.Live.{live_in}
use Rattle.far_evac.specs.Turns.{turn_size}
use Rattle.far_evac.proofs.laws.rounds_are_so.Goals as goal
use Rattle.far_evac.proofs.worked.AsCalled.{as_called}

-- the worked examples, computed
pub returns : goal.returns
unfolding read_of head_of job_of spans_in spans_of live_in turn_size
returns c = record {
  as_called = as_called;
  reserve_is_kept = refl;
  plain_round = refl;
  open_scope_is_waited_for = refl;
  old_epoch = refl;
  old_view = refl;
  owner_is_first = refl;
  hot_without_room = refl;
  phases_are_kept = refl;
  last_epoch = refl;
  opened_anew = refl;
  turns_run_out = refl;
  nothing_to_choose = refl;
  step_by_step = refl;
  given_up = refl;
  first_lies_first = refl;
  oldest_is_first = refl;
  epochs_are_named = refl;
  emptiest_is_first = refl;
}
