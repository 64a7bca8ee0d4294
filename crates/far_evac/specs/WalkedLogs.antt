-- What walking over some logs leaves of a round, where copies may be offered.
use Rattle.std.specs.Prelude.{◌≡◌, ℕ, true, cond, List, eqb}
use Rattle.std.specs.List.{IsDistinct}
use Rattle.far_events.specs.state.State.{State}
use Rattle.far_evac.specs.declared.phase.Phase.TheVariants.{Idle, Evacuating}
use Rattle.far_evac.specs.declared.round.Round.{Round}
use Rattle.far_evac.specs.BookStands.{IsChosen}
use Rattle.far_evac.specs.Live.{is_empty}
use Rattle.far_evac.specs.RoundSteps.{among}

-- from s to t these logs were walked over, and of them those are kept: each may be walked over again, and a log that isn't kept has left the round. No other has come
-- into it, and who was seen clear stays so
pub record KeepsRound (s : State) (logs kept : List ℕ) (t : State) : Type 0 where
  pub clear : t.clear ≡ s.clear
  pub mutators : t.mutators ≡ s.mutators
  pub round : (l : ℕ) → t.round l ≡ true → (s.round l ≡ true) × (among logs l ≡ true → among kept l ≡ true)
  pub again : (l : ℕ) → among kept l ≡ true → (among logs l ≡ true) × IsChosen t l
  pub once : IsDistinct eqb kept

-- the record of a round once its logs were walked over: it is over where none is kept
abbrev pub round_of : List ℕ → Round
round_of kept = record { phase = cond (is_empty kept) Idle Evacuating; chosen = kept; index = 0; at = 0; seen = 0 }
