use Rattle.std.specs.Prelude.{refl}
use Rattle.far_word.specs.Header.{head_of}
use Rattle.far_word.specs.Job.{job_of}
use Rattle.far_word.specs.Pointer.{read_of}
use Rattle.far_log.specs.Spans.{spans_in}
use Rattle.far_events.specs.state.Spans.{spans_of}
use Rattle.far_evac.specs.Live.{live_in}
use Rattle.far_evac.specs.Turns.{turn_size}
use Rattle.far_evac.proofs.laws.copies_are_so.Goals as goal

-- the worked examples, computed
pub returns : goal.returns
unfolding read_of head_of job_of spans_in spans_of live_in turn_size
returns c = record {
  copier_by_hand = refl;
  owner_first = refl;
  one_at_a_time = refl;
  no_room = refl;
  others_go_on = refl;
  clean = refl;
  passes_on = refl;
  dropped = refl;
  passed_over = refl;
  dropped_meanwhile = refl;
  taken_back = refl;
  no_job = refl;
  each_log = refl;
}
