-- The core's law in the subject's words.
use Rattle.far_events.specs.state.Law.{Law}
use Rattle.far_events.specs.state.State.{State}
use Rattle.far_core.proofs.LiveLaws.{live_is}
use Rattle.far_core.proofs.Observations.{bytes_make_log, has_one_place, names_once, near_has_one_live}
use Rattle.far_table.specs.Whole.{IsWhole}

pub is_whole : (s : State) → Law s → IsWhole s
is_whole s law = record {
  one = λ p. has_one_place s law p;
  near = λ p. near_has_one_live s law p;
  once = names_once s law;
  live = λ l span. live_is s l span;
  bytes = λ l. bytes_make_log s law l;
}
