-- The effect of giving a log back is reached by one legal event, and is one step of the world.
use Rattle.std.proofs.Common.{◌≡◌, ◌≢◌, ℕ, true, false, arith, refl, ap}
use Rattle.far_log.specs.Spans.{spans_in}
use Rattle.far_events.specs.declared.event.Event.{Event}
use Rattle.far_events.specs.declared.event.Event.TheVariants.{Get}
use Rattle.far_events.specs.declared.event.Kind.TheVariants.{Free}
use Rattle.far_events.specs.events.Legal.{Legal}
use Rattle.far_events.specs.state.Law.{Law}
use Rattle.far_events.specs.state.Spans.{spans_of, word_in}
use Rattle.far_events.specs.state.State.{State}
use Rattle.far_core.proofs.Observations.{logs_stand}
use Rattle.far_core.proofs.Owing.{does, keeps}
use Rattle.far_events.proofs.Put.{put_other, put_same}
use Rattle.far_book.specs.book.Laws.{IsReleased, ReleasingIsLegal}
use Rattle.far_book.specs.book.Releasing.{released}
use Rattle.far_book.proofs.region.Owns.{own_law}
use Rattle.far_book.proofs.region.Reaching.{reached_one}
use Rattle.far_book.proofs.region.Releasing.{inside}

spans_other : (s : State) (l k : ℕ) → k ≢ l → spans_of (released s l) k ≡ spans_of s k
unfolding spans_of
spans_other s l k ne = ap (spans_in (word_in s k)) (put_other s.tail l 0 k ne)

is_released : (s : State) (l : ℕ) → Law (released s l) → IsReleased s (released s l) l
is_released s l law = record {
  kind = put_same s.kind l Free l refl;
  tail = put_same s.tail l 0 l refl;
  round = put_same s.round l false l refl;
  empty = ((logs_stand (released s l) law).free_empty l (put_same s.kind l Free l refl)).1;
  kinds = λ k ne. put_other s.kind l Free k ne;
  tails = λ k ne. put_other s.tail l 0 k ne;
  rounds = λ k ne. put_other s.round l false k ne;
  spans = λ k ne. spans_other s l k ne;
  rest = refl;
}

pub releasing : ReleasingIsLegal
releasing s l law shut vacant uncopied =
    let e : Event = Get l 0 true in
    let legal : Legal s e = (inside s (own_law s law) l shut vacant uncopied, omega arith, (shut, vacant, uncopied)) in
    let then : Law (released s l) = keeps s e law tt legal in
    (reached_one s e legal tt tt, then, does s e law tt legal, is_released s l then)
