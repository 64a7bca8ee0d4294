-- Rows of events: the state after them, and the rows that one call stands for.
use Rattle.std.specs.Prelude.{ℕ, zero, suc, ◌+◌, ◌-◌, ◌*◌, ◌&&◌, false, cond, nat_le, nat_lt, List, [], ◌∷◌, length, map, slice_index}
use Rattle.std.specs.List.{range_with_len}
use Rattle.far_events.specs.declared.event.Event.{Event}
use Rattle.far_word.specs.declared.sizes.TheConstants.{LOG_WORDS}
use Rattle.far_events.specs.declared.event.Event.TheVariants.{Get, Store, Put}
use Rattle.far_events.specs.events.Legal.{Legal}
use Rattle.far_events.specs.events.Step.{after, step_of}
use Rattle.far_events.specs.state.State.{State, put}

-- the state after these events, a step each
abbrev pub after_events : State → List Event → State
after_events s [] = s
after_events s (e ∷ es) = after_events (step_of s e).0 es

-- each of them is legal when it is made
abbrev pub AllLegal : State → List Event → Type 0
AllLegal s [] = Unit {0}
AllLegal s (e ∷ es) = Legal s e × AllLegal (step_of s e).0 es

-- a store of each of some words, into an object's data words from one on
abbrev pub stores : ℕ → ℕ → ℕ → List ℕ → List Event
stores m p first words = map (λ i. Store m p (first + i) (slice_index words i)) (range_with_len 0 (length words))

-- the words of a row that are put into a log's words from one on
abbrev pub puts : ℕ → ℕ → ℕ → (ℕ → ℕ) → List Event
puts l at count row = map (λ i. Put l (at + i) (row i)) (range_with_len 0 count)

-- words of a log from one on that are got, and put into a log's words from one on: each as it stands when it is got
abbrev pub copies : State → ℕ → ℕ → ℕ → ℕ → ℕ → List Event
copies s l a m b zero = []
copies s l a m b (suc n) = Get l a false ∷ Put m b (s.word (l * LOG_WORDS + a)) ∷ copies (after s (Put m b (s.word (l * LOG_WORDS + a)))) l (a + 1) m (b + 1) n

-- n words from b on have become those from a on, one after the other
abbrev pub with_copy : (ℕ → ℕ) → ℕ → ℕ → ℕ → ℕ → ℕ
with_copy word a b zero = word
with_copy word a b (suc n) = put (with_copy word a b n) (b + n) (with_copy word a b n (a + n))

-- n words from a on are those of a row
abbrev pub with_row : (ℕ → ℕ) → ℕ → ℕ → (ℕ → ℕ) → ℕ → ℕ
with_row word a n row k = cond (nat_le a k && nat_lt k (a + n)) (row (k - a)) (word k)
