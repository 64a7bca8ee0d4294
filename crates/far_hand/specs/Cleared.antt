-- What is known of a state once EVAC was taken from a near pointer.
use Rattle.std.specs.Prelude.{ℕ}
use Rattle.far_word.specs.Pointer.{read_of}
use Rattle.far_events.specs.events.Clear.{evac_cleared, round_left}
use Rattle.far_events.specs.state.State.{State, put}

-- the cell is the word that was found, without EVAC, and the log of its object is out of the round
abbrev pub cleared : State → ℕ → ℕ → State
cleared s p word = record s { cell = put s.cell p (evac_cleared word); round = round_left s.round (read_of word) }
