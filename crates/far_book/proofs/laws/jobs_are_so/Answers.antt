use Rattle.std.proofs.Common.{◌≡◌, ◌∙◌, arith, refl, sym}
use Rattle.far_word.specs.Header.{head_of}
use Rattle.far_word.specs.Job.{job_of}
use Rattle.far_word.specs.Pointer.{read_of}
use Rattle.far_log.specs.Spans.{spans_in}
use Rattle.far_events.specs.state.Opening.{no_copying}
use Rattle.far_events.specs.state.Spans.{spans_of}
use Rattle.far_events.proofs.Put.{put_same}
use Rattle.far_book.proofs.laws.jobs_are_so.Goals as goal

-- the worked examples, computed
pub returns : goal.returns
unfolding read_of head_of job_of spans_in spans_of
returns c = record {
  copy_is_offered = refl;
  finished_is_named = refl;
  moved_isnt_named = refl;
  asked_is_named = refl;
  sealed_target_is_named = refl;
  dropped_isnt_named = refl;
  dropped_stays_offered = refl;
  old_isnt_named = refl;
  left_isnt_named = refl;
  void_is_empty = refl;
  taken_stays = refl;
  offered_is_taken_back = refl;
  finished_stays = refl;
  lowest_is_next = (
    (omega arith, refl, λ i lt e. absurd (omega (arith, lt))),
    (omega arith, refl, λ i lt e. (let none : 0x4000200000000000 ≡ 0 = sym (put_same no_copying.word 0 0x4000200000000000 i (omega (arith, lt))) ∙ e in absurd (omega (arith, none)))),
  );
  nowhere_to_copy = refl;
  last_log_is_offered = refl;
}
