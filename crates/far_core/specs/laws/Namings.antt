-- What a naming's new word has of the old one, by the bits of both.
use Rattle.std.specs.Prelude.{◌≡◌, ◌⊎◌, ℕ, ◌^◌, ◌<◌}
use Rattle.far_word.specs.Mark.{field}
use Rattle.far_events.specs.declared.event.Event.TheVariants.{Name}
use Rattle.far_events.specs.events.Legal.{Legal}
use Rattle.far_events.specs.state.State.{State}

-- DROP is bit 59, the four marks are the bits from 59 on; the length is the lowest 16 bits, the data structure the 8 behind them. The new word is
-- 0 where the old one has DROP. Else it has none of these marks, not HOT either, and the old word was 0, or both have one length and one data structure
abbrev pub IsPlain : ℕ → ℕ → Type 0
IsPlain old new = ((new ≡ 0) × (field old 59 1 ≡ 1))
    ⊎ ((field old 59 1 ≡ 0) × (field new 59 4 ≡ 0) × ((old ≡ 0) ⊎ ((field new 0 16 ≡ field old 0 16) × (field new 16 8 ≡ field old 16 8))))

abbrev pub NamingsArePlain : Type 0
NamingsArePlain = (s : State) (p old new : ℕ) → old < 2 ^ 64 → new < 2 ^ 64 → Legal s (Name p old new) → IsPlain old new
