-- Where the next object goes.
use Rattle.std.specs.Prelude.{ℕ, ◌+◌, Bool, true, false, nat_le, Option, Some, None, List, [], ◌∷◌, if◌then◌else◌, filter}
use Rattle.std.specs.List.{range_with_len}
use Rattle.far_word.specs.declared.pointer.Place.{Place}
use Rattle.far_word.specs.declared.sizes.TheConstants.{LOG_WORDS}
use Rattle.far_events.specs.declared.event.Kind.{Kind}
use Rattle.far_events.specs.declared.event.Kind.TheVariants.{Free, Open, Sealed}
use Rattle.far_events.specs.state.State.{State}

abbrev pub is_free : Kind → Bool
is_free Free = true
is_free Open = false
is_free Sealed = false

-- the free logs, lowest first
abbrev pub free_logs : State → List ℕ
free_logs s = filter (λ l. is_free (s.kind l)) (range_with_len 0 s.logs)

-- the start of the lowest of some free logs, unless it is the only one and the reserve is kept
abbrev pub lowest : Bool → List ℕ → Option Place
lowest reserve [] = None
lowest true (l ∷ []) = None
lowest true (l ∷ k ∷ ls) = Some record { log = l; at = 0 }
lowest false (l ∷ ls) = Some record { log = l; at = 0 }

-- where a span of this many words goes: to the end of the open log, if it fits there; else to the start of the lowest
-- free log. A new object and a fetch keep the reserve: they leave the last free log to a move and to the offer of a copy
abbrev pub room : State → ℕ → Bool → Option Place
room s size reserve =
    if nat_le (s.tail s.current + size) LOG_WORDS then Some record { log = s.current; at = s.tail s.current } else lowest reserve (free_logs s)
