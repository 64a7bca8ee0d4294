-- A round over all logs of the largest heap.
use Rattle.std.specs.Prelude.{◌≡◌, true, List, [], ◌∷◌, map, refl}
use Rattle.std.specs.List.{range_with_len}
use Rattle.far_word.specs.Header.{head_of}
use Rattle.far_word.specs.Pointer.{read_of}
use Rattle.far_log.specs.Spans.{spans_in}
use Rattle.far_events.specs.state.Spans.{spans_of}
use Rattle.far_evac.specs.declared.answers.RoundEnd.TheVariants.{Done}
use Rattle.far_evac.specs.Live.{live_in}
use Rattle.far_evac.specs.Turns.{turn_size}
use Rattle.far_evac.specs.Moment.{Moment}
use Rattle.far_evac.specs.worked.Calls.{Call, News, Rounds, Ends, start, turn_of}

abbrev after_calls : Moment → List Call → Moment
after_calls m [] = m
after_calls m (c ∷ cs) = after_calls (turn_of m c).0 cs

-- each of 63 logs is filled by one object, and the last one is the reserve: 62 are sealed, and all of them are given back in nine turns
largest : (turn_of (after_calls (start 64 1 0) (map (λ p. News 0 p 4088) (range_with_len 0 63))) (Rounds 64 9)).1
    ≡ Ends (Done record { moved = 0; far = 62; dropped = 0; freed = 62; done = true })
unfolding read_of head_of spans_in spans_of live_in turn_size
largest = refl
